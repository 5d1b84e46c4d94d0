-- What the items of an array have left.
use Rattle.std.specs.Prelude.{List, map}
use Rattle.cbor_view.specs.declared.items.Items.{Items}
use Rattle.cbor_view.specs.Tree.{Tree}
use Rattle.cbor_view.specs.Parts.{Part, tree_in, parts_at}

abbrev pub left : Items → List Part
left it = parts_at it.count (record { at = it.at; bytes = it.rest.now })

-- the same as trees
abbrev pub trees_left : Items → List Tree
trees_left it = map tree_in (left it)
