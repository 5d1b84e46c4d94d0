use Rattle.mdoc_draft.proofs.ReleasedLemmas.{core_is_released, places_are_of_core}
use Rattle.mdoc_draft.proofs.laws.released_exactly.Goals as goal

pub returns-clause-items : goal.returns-clause-items
returns-clause-items c = core_is_released

pub returns-clause-places : goal.returns-clause-places
returns-clause-places c = places_are_of_core
