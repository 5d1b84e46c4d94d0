-- What contracts see of a pair of a row.
use Rattle.mdoc_frame.specs.Pairs as pairs
use Rattle.mdoc_frame.specs.declared.pair.Pair.{Pair}

abbrev pub pair_seen : Pair → pairs.Pair
pair_seen pair = record { name = pair.name.now; kind = pair.kind; needed = pair.needed }
