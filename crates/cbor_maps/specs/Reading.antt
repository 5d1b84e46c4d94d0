-- What is under the named keys of a map, or what is wrong with the map (RFC 8949, section 5.6).
use Rattle.std.specs.Prelude.{ℕ, List, [], ◌∷◌, Option, Some, None, Result, Ok, Err, option_map, option_and_then}
use Rattle.mdoc_outside.specs.declared.key_name.KeyName.{KeyName}
use Rattle.mdoc_outside.specs.KeyName.{key_text}
use Rattle.mdoc_outside.specs.ResultSteps.{◌>>=◌, or_fault}
use Rattle.cbor_view.specs.declared.cbor_fault.CborFault.{CborFault}
use Rattle.cbor_view.specs.declared.doubled.Doubled as views
use Rattle.cbor_view.specs.Label.{Words}
use Rattle.cbor_view.specs.Parts.{Part, entry_in, pairs_in, bytes_in, tagged}
use Rattle.cbor_maps.specs.declared.map_fault.MapFault.{MapFault}
use Rattle.cbor_maps.specs.declared.map_fault.MapFault.TheVariants.{Doubled, Field}

-- what is under a named key: nothing, or the one value, or that the key is there twice
unfoldable pub entry : Part → KeyName → Result (Option Part) views.Doubled
entry map name = entry_in (Words (key_text name)) map

-- none of the names is there twice, else the first of them that is
abbrev pub single : {A : Type 0} → KeyName → Result A views.Doubled → Result (Unit {0}) MapFault
single name (Ok found) = Ok tt
single name (Err twice) = Err (Doubled name)

abbrev pub distinct : List KeyName → Part → Result (Unit {0}) MapFault
distinct [] map = Ok tt
distinct (name ∷ names) map = single name (entry map name) >>= λ u. distinct names map

-- the value under a named key, as what it is to be
abbrev pub of_kind : {A : Type 0} → KeyName → Option A → Result A MapFault
of_kind name None = Err (Field name)
of_kind name (Some value) = Ok value

abbrev pub needed : {A : Type 0} → KeyName → (Part → Option A) → Result (Option Part) views.Doubled → Result A MapFault
needed name kind (Err twice) = Err (Doubled name)
needed name kind (Ok None) = Err (Field name)
needed name kind (Ok (Some value)) = of_kind name (kind value)

abbrev pub field : {A : Type 0} → KeyName → (Part → Option A) → Part → Result A MapFault
field name kind map = needed name kind (entry map name)

-- the same of a key that may be missing
abbrev pub there : {A : Type 0} → Result A MapFault → Result (Option A) MapFault
there (Ok value) = Ok (Some value)
there (Err fault) = Err fault

abbrev pub allowed : {A : Type 0} → KeyName → (Part → Option A) → Result (Option Part) views.Doubled → Result (Option A) MapFault
allowed name kind (Err twice) = Err (Doubled name)
allowed name kind (Ok None) = Ok None
allowed name kind (Ok (Some value)) = there (of_kind name (kind value))

abbrev pub optional_field : {A : Type 0} → KeyName → (Part → Option A) → Part → Result (Option A) MapFault
optional_field name kind map = allowed name kind (entry map name)

-- what a value may be, beside the kinds of items: anything; a map; the string of bytes that tag 24 marks as
-- encoded CBOR (RFC 8949, section 3.4.5.1)
abbrev pub any_in : Part → Option Part
any_in value = Some value

abbrev pub map_in : Part → Option Part
map_in value = option_map (λ entries. value) (pairs_in value)

abbrev pub encoded_in : Part → Option (List ℕ)
encoded_in value = option_and_then bytes_in (tagged 24 value)

-- ---- the same, with a fault of those who read

-- what is under a key, or a fault where the key is there twice
abbrev pub once : {A E : Type 0} → E → Result A views.Doubled → Result A E
once fault (Ok found) = Ok found
once fault (Err twice) = Err fault

-- what is under named keys, or a fault by what is wrong with a key
abbrev pub map_fault : {A E : Type 0} → (KeyName → E) → (KeyName → E) → Result A MapFault → Result A E
map_fault doubled field (Ok value) = Ok value
map_fault doubled field (Err (Doubled name)) = Err (doubled name)
map_fault doubled field (Err (Field name)) = Err (field name)

-- the string of bytes under tag 24 that an item is, or a fault
abbrev pub tagged_string : {E : Type 0} → E → Result Part CborFault → Result (List ℕ) E
tagged_string fault (Ok whole) = or_fault fault (encoded_in whole)
tagged_string fault (Err other) = Err fault

-- the item that a string spells, or a fault by what is wrong with its CBOR
abbrev pub spelled_item : {E : Type 0} → (CborFault → E) → Result Part CborFault → Result Part E
spelled_item fault (Ok item) = Ok item
spelled_item fault (Err other) = Err (fault other)
