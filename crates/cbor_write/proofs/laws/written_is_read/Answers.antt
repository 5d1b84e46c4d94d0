use Rattle.cbor_view.specs.Shortest.{shortest}
use Rattle.cbor_view.proofs.ShortestSpelling.{shortest-spelled}
use Rattle.cbor_view.proofs.WholeReading.{spells-reads}
use Rattle.cbor_write.proofs.laws.written_is_read.Goals as goal

pub returns : goal.returns
returns c = λ t fits nesting. spells-reads (shortest t) t (record { spelled = shortest-spelled t fits; nesting = nesting })
