-- The items of one namespace of a copy.
use Rattle.std.specs.Prelude.{ℕ, List, [], map, Option, Some, None}
use Rattle.cbor_view.specs.Items.{left}
use Rattle.cbor_view.specs.Parts.{Part}
use Rattle.cbor_view.specs.declared.items.Items.{Items}

-- each part of a namespace beside the namespace's name
abbrev pub beside : List ℕ → List Part → List (List ℕ × List ℕ)
beside ns parts = map (λ (part : Part). (ns, part.bytes)) parts

-- the parts that are left of an array that was begun
abbrev pub parts_of : Option Items → List Part
parts_of None = []
parts_of (Some items) = left items
