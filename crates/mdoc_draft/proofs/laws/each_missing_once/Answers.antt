use Rattle.mdoc_draft.proofs.ExactLemmas.{each_missing_once}
use Rattle.mdoc_draft.proofs.laws.each_missing_once.Goals as goal

pub returns : goal.returns
returns c = each_missing_once
