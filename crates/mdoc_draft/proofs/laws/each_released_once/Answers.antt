use Rattle.mdoc_draft.proofs.ExactLemmas.{each_released_once}
use Rattle.mdoc_draft.proofs.laws.each_released_once.Goals as goal

pub returns : goal.returns
returns c = each_released_once
