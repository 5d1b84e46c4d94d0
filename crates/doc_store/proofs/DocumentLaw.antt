-- What is wrong with a document that is whole, against the reading of it.
use Rattle.std.proofs.Common.{◌≡◌, ℕ, zero, suc, Bool, true, false, ◌&&◌, ◌==◌, List, [], ◌∷◌, ◌++◌, map, length, flat_map, Option, Some, None, refl, sym, ap, ◌∙◌, arith}
use Rattle.std.specs.Prelude.{is_some, nat_le, option_map}
use Rattle.std.specs.List.{AllByRecursion}
use Rattle.std.proofs.lemmas.List.{length-map}
use Rattle.std.proofs.lemmas.Bool.Decides.{nat_tests}
use Rattle.cbor_view.specs.PartialItem.{PartialItem, whole}
use Rattle.cbor_view.specs.Parts.{Part, uint_in, items_in}
use Rattle.cbor_view.proofs.ReadParts.{IsRead, items_read}
use Rattle.mdoc_outside.specs.declared.key_name.KeyName.TheVariants as keys
use Rattle.mdoc_outside.specs.declared.limit_name.LimitName.TheVariants as limits
use Rattle.mdoc_outside.specs.OptionSteps.{◌>>=◌, where_true, each}
use Rattle.mdoc_outside.specs.ListSteps.{unless}
use Rattle.doc_store.specs.declared.store_check.StoreCheck.TheVariants as checks
use Rattle.doc_store.specs.Store.{Copy, Document, name_in, within, copy, is_mac, document}
use Rattle.doc_store.specs.Faults.{fault, if_kind, beyond, doc_type_faults, auth_faults, copy_faults, copies_faults, copy_list_faults, document_faults, no_copy}
use Rattle.doc_store.proofs.CleanLaw.{is_clean, and_false, and_true, clean_joined, and_same, clean_unless, clean_beyond, clean_each}
use Rattle.doc_store.proofs.KeyLaw.{FieldTest, all_hold, clean_map, value_in, field_value}
use Rattle.doc_store.proofs.SpaceLaw.{clean_name}
use Rattle.doc_store.proofs.CopyLaw.{some_then, clean_copy}

-- ---- how its device authentication is made

few_macs : (n : ℕ) → nat_le n 1 ≡ is_some (is_mac n)
few_macs zero = refl
few_macs (suc zero) = refl
few_macs (suc (suc n)) =
    let none : (suc (suc n) == 0) ≡ false = grind (arith, nat_tests) in
    let one : (suc (suc n) == 1) ≡ false = grind (arith, nat_tests) in
    let large : nat_le (suc (suc n)) 1 ≡ false = grind (arith, nat_tests) in
    rw (none, one, large) refl

clean_mac : (p : Part) → is_clean (auth_faults (whole p)) ≡ is_some (uint_in p >>= is_mac)
clean_mac p = go (uint_in p) where
  go : (o : Option ℕ) →
      is_clean (if_kind (fault (checks.Field keys.Auth) (whole p) ∷ []) (λ (n : ℕ). unless (nat_le n 1) (fault (checks.Field keys.Auth) (whole p))) o)
      ≡ is_some (o >>= is_mac)
  go None = refl
  go (Some n) = clean_unless (nat_le n 1) (fault (checks.Field keys.Auth) (whole p)) ∙ few_macs n

-- ---- its copies

clean_no_copy : (g : PartialItem) (gs : List PartialItem) → is_clean (no_copy g gs) ≡ nat_le 1 (length gs)
clean_no_copy g [] = refl
clean_no_copy g (copy ∷ copies) = grind (arith, nat_tests)

-- the copies that are so many, of which there is one at least
copies_within : (some few : Bool) (parts : List Part) →
    ((some && is_some (each copy parts)) && few) ≡ is_some (where_true (some && few) parts >>= each copy)
copies_within false few parts = refl
copies_within true false parts = and_false _
copies_within true true parts = and_true _

clean_parts : (p : Part) (parts : List Part) → AllByRecursion IsRead parts → is_clean (copy_list_faults (whole p) (map whole parts)) ≡ is_some (within 1 64 parts >>= each copy)
clean_parts p parts read =
    let missing = no_copy (whole p) (map whole parts) in
    let same : length (map whole parts) ≡ length parts = length-map parts whole in
    clean_joined (missing ++ flat_map copy_faults (map whole parts)) (beyond limits.Copies 64 (map whole parts))
    ∙ and_same _ _ _ _
    (clean_joined missing (flat_map copy_faults (map whole parts))
    ∙ and_same _ _ _ _
    (clean_no_copy (whole p) (map whole parts) ∙ ap (nat_le 1) same)
    (clean_each IsRead whole copy_faults copy clean_copy parts read))
    (clean_beyond limits.Copies 64 (map whole parts) ∙ ap (λ (n : ℕ). nat_le n 64) same)
    ∙ copies_within (nat_le 1 (length parts)) (nat_le (length parts) 64) parts

clean_copies : (p : Part) → IsRead p → is_clean (copies_faults (whole p)) ≡ is_some ((items_in p >>= within 1 64) >>= each copy)
clean_copies p read = go (items_in p) refl where
  go : (o : Option (List Part)) → items_in p ≡ o →
      is_clean (if_kind (fault (checks.Field keys.Copies) (whole p) ∷ []) (copy_list_faults (whole p)) (option_map (map whole) o)) ≡ is_some ((o >>= within 1 64) >>= each copy)
  go None is = refl
  go (Some parts) is = clean_parts p parts (items_read p parts read is)

-- ---- a document

abbrev type_field : FieldTest
type_field = record { key = record { name = keys.DocType; value = doc_type_faults }; test = λ value. is_some (name_in value); law = λ value read. clean_name (checks.Field keys.DocType) value }

abbrev mac_field : FieldTest
mac_field = record { key = record { name = keys.Auth; value = auth_faults }; test = λ value. is_some (uint_in value >>= is_mac); law = λ value read. clean_mac value }

abbrev copies_field : FieldTest
copies_field = record { key = record { name = keys.Copies; value = copies_faults }; test = λ value. is_some ((items_in value >>= within 1 64) >>= each copy); law = clean_copies }

abbrev document_of_fields : List ℕ → Bool → List Copy → Document
document_of_fields doc_type uses_mac copies = record { doc_type = doc_type; uses_mac = uses_mac; copies = copies }

abbrev after_mac : Part → List ℕ → Bool → Option Document
after_mac p doc_type uses_mac = (((value_in keys.Copies p >>= items_in) >>= within 1 64) >>= each copy) >>= λ copies. Some (document_of_fields doc_type uses_mac copies)

abbrev pub after_type : Part → List ℕ → Option Document
after_type p doc_type = ((value_in keys.Auth p >>= uint_in) >>= is_mac) >>= λ uses_mac. after_mac p doc_type uses_mac

-- the type stays what it was
pub type_stays : (p : Part) (doc_type : List ℕ) (d : Document) → after_type p doc_type ≡ Some d → doc_type ≡ d.doc_type
type_stays p doc_type d is = go ((value_in keys.Auth p >>= uint_in) >>= is_mac) (((value_in keys.Copies p >>= items_in) >>= within 1 64) >>= each copy) is where
  go : (a : Option Bool) (c : Option (List Copy)) → (a >>= λ uses_mac. c >>= λ copies. Some (document_of_fields doc_type uses_mac copies)) ≡ Some d → doc_type ≡ d.doc_type
  go None c e = cc
  go (Some uses_mac) None e = cc
  go (Some uses_mac) (Some copies) e = let same : document_of_fields doc_type uses_mac copies ≡ d = cc in ap (λ (x : Document). x.doc_type) same

some_after_mac : (p : Part) (doc_type : List ℕ) (uses_mac : Bool) → is_some (after_mac p doc_type uses_mac) ≡ all_hold p (copies_field ∷ [])
some_after_mac p doc_type uses_mac =
    some_then (λ (o : Option Part). ((o >>= items_in) >>= within 1 64) >>= each copy) (value_in keys.Copies p) (λ copies. Some (document_of_fields doc_type uses_mac copies)) true refl (λ copies. refl)

some_after_type : (p : Part) (doc_type : List ℕ) → is_some (after_type p doc_type) ≡ all_hold p (mac_field ∷ copies_field ∷ [])
some_after_type p doc_type =
    some_then (λ (o : Option Part). (o >>= uint_in) >>= is_mac) (value_in keys.Auth p) (λ uses_mac. after_mac p doc_type uses_mac) (all_hold p (copies_field ∷ [])) refl
    (λ uses_mac. some_after_mac p doc_type uses_mac)

-- a document by the values under its keys
pub document_values : (p : Part) → document p ≡ ((value_in keys.DocType p >>= name_in) >>= λ doc_type. after_type p doc_type)
document_values p = rw (field_value keys.DocType name_in p, field_value keys.Auth uint_in p, field_value keys.Copies items_in p) refl

some_document : (p : Part) → is_some (document p) ≡ all_hold p (type_field ∷ mac_field ∷ copies_field ∷ [])
some_document p =
    ap (λ (o : Option Document). is_some o) (document_values p)
    ∙ some_then (λ (o : Option Part). o >>= name_in) (value_in keys.DocType p) (λ doc_type. after_type p doc_type) (all_hold p (mac_field ∷ copies_field ∷ [])) refl
    (λ doc_type. some_after_type p doc_type)

-- nothing is wrong with a document exactly where it is read
pub clean_document : (p : Part) → IsRead p → is_clean (document_faults (whole p)) ≡ is_some (document p)
clean_document p read = clean_map type_field (mac_field ∷ copies_field ∷ []) p read ∙ sym (some_document p)
