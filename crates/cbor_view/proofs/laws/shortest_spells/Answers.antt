use Rattle.cbor_view.proofs.ShortestSpelling.{shortest-spelled}
use Rattle.cbor_view.proofs.laws.shortest_spells.Goals as goal

pub returns : goal.returns
returns c = λ t fits nesting. record { spelled = shortest-spelled t fits; nesting = nesting }
