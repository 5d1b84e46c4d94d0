use Rattle.cbor_view.proofs.PartialStands.{front-stands}
use Rattle.cbor_view.proofs.PartialOnly.{front-only}
use Rattle.cbor_view.proofs.laws.partial_item_stands.Goals as goal

pub returns-clause-stands : goal.returns-clause-stands
returns-clause-stands c = λ bytes each. front-stands bytes (record { each = each })

pub returns-clause-only : goal.returns-clause-only
returns-clause-only c = front-only
