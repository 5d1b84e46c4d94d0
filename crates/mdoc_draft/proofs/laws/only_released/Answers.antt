use Rattle.mdoc_draft.proofs.ExactLemmas.{only_released}
use Rattle.mdoc_draft.proofs.laws.only_released.Goals as goal

pub returns : goal.returns
returns c = only_released
