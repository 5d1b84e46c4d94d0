-- Fields that are put after bytes are the map after them.
use Rattle.std.proofs.Common.{◌≡◌, ℕ, ◌+◌, List, [], ◌∷◌, ◌++◌, length, Option, Some, None, refl, ap, ◌∙◌, append_assoc, arith}
use Rattle.mdoc_outside.specs.declared.key_name.KeyName.{KeyName}
use Rattle.cbor_maps.specs.Writing.{Fields, with_values, key_bytes, map_head, put, onto, named_map}
use Rattle.doc_response.specs.Answered.{if_any}
use Rattle.doc_response.specs.Namespaces.{entries_of}

put-after : (old bytes : List ℕ) (name : KeyName) (value : Option (List ℕ)) → put (old ++ bytes) name value ≡ old ++ put bytes name value
put-after old bytes name None = refl
put-after old bytes name (Some value) =
    ap (λ (x : List ℕ). x ++ value) (append_assoc old bytes (key_bytes name)) ∙ append_assoc old (bytes ++ key_bytes name) value

onto-after : (old bytes : List ℕ) (fields : Fields) → onto (old ++ bytes) fields ≡ old ++ onto bytes fields
onto-after old bytes [] = refl
onto-after old bytes (field ∷ fields) =
    ap (λ (x : List ℕ). onto x fields) (put-after old bytes field.0 field.1) ∙ onto-after old (put bytes field.0 field.1) fields

-- a map whose head and fields were put after bytes
pub map-put : (old now : List ℕ) (count : ℕ) (fields : Fields) → count ≡ length (with_values fields) → now ≡ onto (old ++ map_head count) fields → now ≡ old ++ named_map fields
map-put old now count fields count_is now_is =
    now_is ∙ onto-after old (map_head count) fields ∙ ap (λ (n : ℕ). old ++ onto (map_head n) fields) count_is

-- how many of its fields have a value, where one may be missing
pub any-count : {A : Type 0} (name : KeyName) (xs : List A) (value : List ℕ) (fields : Fields) →
    length (with_values ((name, if_any xs value) ∷ fields)) ≡ entries_of (length xs) + length (with_values fields)
any-count name [] value fields = omega arith
any-count name (x ∷ xs) value fields = grind arith
