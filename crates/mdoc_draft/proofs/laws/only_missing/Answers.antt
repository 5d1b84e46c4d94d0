use Rattle.mdoc_draft.proofs.ExactLemmas.{only_missing}
use Rattle.mdoc_draft.proofs.laws.only_missing.Goals as goal

pub returns : goal.returns
returns c = only_missing
