-- The named fields of a map, and texts of which no two are equal.
use Rattle.std.specs.Prelude.{ℕ, List, [], ◌∷◌, Bool, true, not, ◌&&◌, Option, Some, None, Result, Ok, Err}
use Rattle.std.specs.Str.{bytes_eq}
use Rattle.std.specs.List.{list_any}
use Rattle.cbor_view.specs.Parts.{Part}
use Rattle.cbor_maps.specs.Reading.{field}
use Rattle.cbor_maps.specs.declared.map_fault.MapFault.{MapFault}
use Rattle.mdoc_outside.specs.declared.key_name.KeyName.{KeyName}

abbrev pub if_read : {A : Type 0} → Result A MapFault → Option A
if_read (Ok value) = Some value
if_read (Err fault) = None

-- the value of a kind under a key that a map has once
abbrev pub field_of : {A : Type 0} → KeyName → (Part → Option A) → Part → Option A
field_of name kind map = if_read (field name kind map)

-- whether no two texts of a list are equal
abbrev pub are_distinct : List (List ℕ) → Bool
are_distinct [] = true
are_distinct (text ∷ texts) = not (list_any (bytes_eq text) texts) && are_distinct texts
