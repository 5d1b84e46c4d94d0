-- Maps with named keys as they are written: every head as short as it can be (RFC 8949, section 4.2.1), the
-- keys in the order of their table, a key that is optional left out where it has no value.
use Rattle.std.specs.Prelude.{ℕ, List, [], ◌∷◌, ◌++◌, length, Option, Some, None}
use Rattle.mdoc_outside.specs.declared.key_name.KeyName.{KeyName}
use Rattle.mdoc_outside.specs.KeyName.{key_text}
use Rattle.cbor_view.specs.Shortest.{shortest_head, text_bytes, bytes_bytes, tag_bytes}

-- each key with the bytes of its value, or with none
abbrev pub Fields : Type 0
Fields = List (KeyName × Option (List ℕ))

-- those that have a value
abbrev pub with_values : Fields → List (KeyName × List ℕ)
with_values [] = []
with_values ((name, None) ∷ fields) = with_values fields
with_values ((name, Some value) ∷ fields) = (name, value) ∷ with_values fields

unfoldable pub key_bytes : KeyName → List ℕ
key_bytes name = text_bytes (key_text name)

unfoldable pub map_head : ℕ → List ℕ
map_head count = shortest_head 5 count

-- one field after bytes, and several
abbrev pub put : List ℕ → KeyName → Option (List ℕ) → List ℕ
put bytes name None = bytes
put bytes name (Some value) = bytes ++ key_bytes name ++ value

abbrev pub onto : List ℕ → Fields → List ℕ
onto bytes [] = bytes
onto bytes (field ∷ fields) = onto (put bytes field.0 field.1) fields

-- the map: its head, and then the fields in order
abbrev pub named_map : Fields → List ℕ
named_map fields = onto (map_head (length (with_values fields))) fields

-- a string of bytes that holds encoded CBOR (RFC 8949, section 3.4.5.1)
abbrev pub encoded_bytes : List ℕ → List ℕ
encoded_bytes inner = tag_bytes 24 (bytes_bytes inner)

-- the keys as their bytes
abbrev pub spelled_keys : List (KeyName × List ℕ) → List (List ℕ × List ℕ)
spelled_keys [] = []
spelled_keys (field ∷ fields) = (key_bytes field.0, field.1) ∷ spelled_keys fields
