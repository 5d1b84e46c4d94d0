-- What the pairs of a map have left.
use Rattle.std.specs.Prelude.{List, map}
use Rattle.cbor_view.specs.declared.pairs.Pairs.{Pairs}
use Rattle.cbor_view.specs.Tree.{Tree}
use Rattle.cbor_view.specs.Parts.{Part, both_trees, entries_at}

abbrev pub pairs_left : Pairs → List (Part × Part)
pairs_left it = entries_at it.count (record { at = it.at; bytes = it.rest.now })

-- the same as trees
abbrev pub pair_trees_left : Pairs → List (Tree × Tree)
pair_trees_left it = map both_trees (pairs_left it)
