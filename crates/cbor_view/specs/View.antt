-- What contracts see of a view.
use Rattle.cbor_view.specs.declared.view.View.{View}
use Rattle.std.specs.Prelude.{Option, Result}
use Rattle.cbor_view.specs.declared.key.Key.{Key}
use Rattle.cbor_view.specs.declared.doubled.Doubled.{Doubled}
use Rattle.cbor_view.specs.Tree.{Tree}
use Rattle.cbor_view.specs.Label.{label_of, entry_of}
use Rattle.cbor_view.specs.Parts.{Part, tree_in, entry_in}

-- the bytes that spell the item, at their place in the bytes first read
abbrev pub part : View → Part
part v = record { at = v.at; bytes = v.slice.now }

-- the tree that these bytes spell
abbrev pub tree : View → Tree
tree v = tree_in (part v)

abbrev pub both_parts : View × View → Part × Part
both_parts e = (part e.0, part e.1)

-- what stands under a key, as a tree and as a part
abbrev pub entry_tree : Key → View → Result (Option Tree) Doubled
entry_tree key v = entry_of (label_of key) (tree v)

abbrev pub entry_part : Key → View → Result (Option Part) Doubled
entry_part key v = entry_in (label_of key) (part v)
