use Rattle.cbor_view.proofs.PartsInRow.{items-made, pairs-made, tag-made}
use Rattle.cbor_view.proofs.laws.whole_item_parts.Goals as goal

pub returns-clause-items : goal.returns-clause-items
returns-clause-items c = λ p t items s. items-made t p items s.spelled s.nesting

pub returns-clause-pairs : goal.returns-clause-pairs
returns-clause-pairs c = λ p t entries s. pairs-made t p entries s.spelled s.nesting

pub returns-clause-tag : goal.returns-clause-tag
returns-clause-tag c = λ p q t n s. tag-made t p q n s.spelled s.nesting
