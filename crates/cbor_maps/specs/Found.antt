-- What was found under keys so far, as contracts see it.
use Rattle.std.specs.Prelude.{ℕ, if◌then◌else◌, List, ◌∷◌, Option, Some, None, Result, Ok, Err, slice_index_or, bytes_eq}
use Rattle.mdoc_outside.specs.declared.key_name.KeyName.{KeyName}
use Rattle.mdoc_outside.specs.declared.key_name.KeyName.TheVariants.{DigestId}
use Rattle.mdoc_outside.specs.KeyName.{key_text}
use Rattle.cbor_view.specs.declared.doubled.Doubled.{Doubled}
use Rattle.cbor_view.specs.declared.view.View.{View}
use Rattle.cbor_view.specs.Label.{Words, values_of, only_of}
use Rattle.cbor_view.specs.Parts.{Part, tree_in}
use Rattle.cbor_view.specs.View.{part}
use Rattle.cbor_maps.specs.declared.found.Found.{Found}
use Rattle.cbor_maps.specs.declared.found.Found.TheVariants.{Missing, Once, Twice}

abbrev pub seen : Found → Result (Option Part) Doubled
seen Missing = Ok None
seen (Once v) = Ok (Some (part v))
seen Twice = Err (record {})

-- with one value more
abbrev pub added : Found → View → Found
added Missing v = Once v
added (Once w) v = Twice
added Twice v = Twice

abbrev pub found_at : List Found → ℕ → Found
found_at found i = slice_index_or found i Missing

abbrev pub name_at : List KeyName → ℕ → KeyName
name_at names i = slice_index_or names i DigestId

-- after one more pair of the map
abbrev pub noted : KeyName → List ℕ → View → Found → Found
noted name key value found = if bytes_eq key (key_text name) then added found value else found

-- what was found so far, with the values that are left
abbrev pub with_values_left : {A : Type 0} → Result (Option A) Doubled → List A → Result (Option A) Doubled
with_values_left (Ok None) values = only_of values
with_values_left (Ok (Some x)) values = only_of (x ∷ values)
with_values_left (Err twice) values = Err twice

abbrev pub values_under : KeyName → List (Part × Part) → List Part
values_under name entries = values_of tree_in (Words (key_text name)) entries
