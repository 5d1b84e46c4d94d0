-- What is wrong with a copy that is whole, against the reading of it.
use Rattle.std.proofs.Common.{◌≡◌, ℕ, ◌^◌, Bool, true, ◌&&◌, ◌==◌, List, [], ◌∷◌, length, Option, Some, None, refl, sym, ap, ◌∙◌, arith}
use Rattle.std.specs.Prelude.{is_some, nat_le, nat_lt, option_map}
use Rattle.std.proofs.lemmas.Bool.Decides.{nat_tests}
use Rattle.cbor_view.specs.PartialItem.{whole}
use Rattle.cbor_view.specs.Parts.{Part, uint_in, boolean_in, items_in, pairs_in}
use Rattle.cbor_view.proofs.ReadParts.{IsRead}
use Rattle.mdoc_outside.specs.declared.key_name.KeyName.TheVariants as keys
use Rattle.mdoc_outside.specs.OptionSteps.{◌>>=◌, where_true}
use Rattle.mdoc_outside.specs.ListSteps.{unless}
use Rattle.doc_store.specs.declared.first_fault.Fault.{Fault}
use Rattle.doc_store.specs.declared.store_check.StoreCheck.TheVariants as checks
use Rattle.doc_store.specs.Store.{Copy, within, items_of, copy}
use Rattle.doc_store.specs.Faults.{fault, if_kind, nothing, key_number, used_faults, auth_of_issuer, spaces_faults, copy_faults}
use Rattle.doc_store.proofs.CleanLaw.{is_clean, clean_unless, some_where}
use Rattle.doc_store.proofs.KeyLaw.{holds, FieldTest, all_hold, clean_map, value_in, field_value, field_any}
use Rattle.doc_store.proofs.SpaceLaw.{clean_spaces}

-- ---- readings step by step

-- what is read of a field, and of the others whatever that was
pub some_then : {A B : Type 0} (chain : Option Part → Option A) (o : Option Part) (others : A → Option B) (c : Bool) →
    chain None ≡ None → ((x : A) → is_some (others x) ≡ c) →
    is_some (chain o >>= others) ≡ (holds (λ value. is_some (chain (Some value))) o && c)
some_then {A} {B} chain None others c missing rest = ap (λ (x : Option A). is_some (x >>= others)) missing
some_then {A} {B} chain (Some value) others c missing rest = go (chain (Some value)) where
  go : (x : Option A) → is_some (x >>= others) ≡ (is_some x && c)
  go None = refl
  go (Some x) = rest x

-- the same of the last
pub some_last : {A : Type 0} (chain : Option Part → Option A) (o : Option Part) → chain None ≡ None →
    is_some (chain o) ≡ (holds (λ value. is_some (chain (Some value))) o && true)
some_last {A} chain None missing = ap (λ (x : Option A). is_some x) missing
some_last {A} chain (Some value) missing = go (chain (Some value)) where
  go : (x : Option A) → is_some x ≡ (is_some x && true)
  go None = refl
  go (Some x) = refl

-- ---- the number of the device key

abbrev small_key : ℕ → Option ℕ
small_key key = where_true (nat_lt key (2 ^ 32)) key

clean_number : (p : Part) → is_clean (key_number (whole p)) ≡ is_some (uint_in p >>= small_key)
clean_number p = go (uint_in p) where
  go : (o : Option ℕ) →
      is_clean (if_kind (fault (checks.Field keys.Key) (whole p) ∷ []) (λ (n : ℕ). unless (nat_lt n (2 ^ 32)) (fault (checks.Field keys.Key) (whole p))) o)
      ≡ is_some (o >>= small_key)
  go None = refl
  go (Some n) = clean_unless (nat_lt n (2 ^ 32)) (fault (checks.Field keys.Key) (whole p)) ∙ sym (some_where (nat_lt n (2 ^ 32)) n)

regroup_key : {B : Type 0} (o : Option Part) (others : ℕ → Option B) →
    ((o >>= uint_in) >>= λ key. small_key key >>= others) ≡ (((o >>= uint_in) >>= small_key) >>= others)
regroup_key None others = refl
regroup_key {B} (Some value) others = go (uint_in value) where
  go : (x : Option ℕ) → (x >>= λ key. small_key key >>= others) ≡ ((x >>= small_key) >>= others)
  go None = refl
  go (Some key) = refl

-- ---- whether it was used

clean_used : (p : Part) → is_clean (used_faults (whole p)) ≡ is_some (boolean_in p)
clean_used p = go (boolean_in p) where
  go : (o : Option Bool) → is_clean (if_kind (fault (checks.Field keys.Used) (whole p) ∷ []) nothing o) ≡ is_some o
  go None = refl
  go (Some used) = refl

-- ---- the issuer's signature

four : (n : ℕ) → (n == 4) ≡ (nat_le 4 n && nat_le n 4)
four n = grind (arith, nat_tests)

abbrev faults_of_auth : Part → Option ℕ → List Fault
faults_of_auth p o = if_kind (fault (checks.Field keys.IssuerAuth) (whole p) ∷ []) (λ (n : ℕ). unless (n == 4) (fault (checks.Field keys.IssuerAuth) (whole p))) o

clean_auth : (p : Part) → is_clean (auth_of_issuer (whole p)) ≡ is_some (items_in p >>= within 4 4)
clean_auth p = go (items_in p) where
  go : (o : Option (List Part)) → is_clean (faults_of_auth p (option_map (λ (parts : List Part). length parts) o)) ≡ is_some (o >>= within 4 4)
  go None = refl
  go (Some parts) =
      clean_unless (length parts == 4) (fault (checks.Field keys.IssuerAuth) (whole p)) ∙ four (length parts)
      ∙ sym (some_where (nat_le 4 (length parts) && nat_le (length parts) 4) parts)

some_auth : {B : Type 0} (o : Option Part) (others : Part → Option B) (c : Bool) → ((auth : Part) → is_some (others auth) ≡ c) →
    is_some (o >>= λ auth. (items_in auth >>= within 4 4) >>= λ parts. others auth) ≡ (holds (λ auth. is_some (items_in auth >>= within 4 4)) o && c)
some_auth None others c rest = refl
some_auth {B} (Some auth) others c rest = go (items_in auth >>= within 4 4) where
  go : (x : Option (List Part)) → is_some (x >>= λ parts. others auth) ≡ (is_some x && c)
  go None = refl
  go (Some parts) = rest auth

-- ---- a copy

abbrev key_field : FieldTest
key_field = record { key = record { name = keys.Key; value = key_number }; test = λ value. is_some (uint_in value >>= small_key); law = λ value read. clean_number value }

abbrev used_field : FieldTest
used_field = record { key = record { name = keys.Used; value = used_faults }; test = λ value. is_some (boolean_in value); law = λ value read. clean_used value }

abbrev auth_field : FieldTest
auth_field = record { key = record { name = keys.IssuerAuth; value = auth_of_issuer }; test = λ value. is_some (items_in value >>= within 4 4); law = λ value read. clean_auth value }

abbrev spaces_field : FieldTest
spaces_field = record { key = record { name = keys.NameSpaces; value = spaces_faults }; test = λ value. is_some (pairs_in value >>= items_of); law = clean_spaces }

abbrev other_fields : List FieldTest
other_fields = used_field ∷ auth_field ∷ spaces_field ∷ []

regroup_spaces : {B : Type 0} (o : Option Part) (others : List (List ℕ × List ℕ) → Option B) →
    ((o >>= pairs_in) >>= λ spaces. items_of spaces >>= others) ≡ (((o >>= pairs_in) >>= items_of) >>= others)
regroup_spaces None others = refl
regroup_spaces {B} (Some value) others = go (pairs_in value) where
  go : (x : Option (List (Part × Part))) → (x >>= λ spaces. items_of spaces >>= others) ≡ ((x >>= items_of) >>= others)
  go None = refl
  go (Some spaces) = refl

abbrev copy_of_fields : ℕ → Bool → Part → List (List ℕ × List ℕ) → Copy
copy_of_fields key used auth items = record { key = key; used = used; issuer_auth = auth.bytes; items = items }

abbrev after_auth : Part → ℕ → Bool → Part → Option Copy
after_auth p key used auth = (value_in keys.NameSpaces p >>= pairs_in) >>= λ spaces. items_of spaces >>= λ items. Some (copy_of_fields key used auth items)

abbrev after_used : Part → ℕ → Bool → Option Copy
after_used p key used = value_in keys.IssuerAuth p >>= λ auth. (items_in auth >>= within 4 4) >>= λ parts. after_auth p key used auth

abbrev after_key : Part → ℕ → Option Copy
after_key p key = (value_in keys.Used p >>= boolean_in) >>= λ used. after_used p key used

some_after_auth : (p : Part) (key : ℕ) (used : Bool) (auth : Part) → is_some (after_auth p key used auth) ≡ all_hold p (spaces_field ∷ [])
some_after_auth p key used auth =
    ap (λ (o : Option Copy). is_some o) (regroup_spaces (value_in keys.NameSpaces p) (λ items. Some (copy_of_fields key used auth items)))
    ∙ some_then (λ (o : Option Part). (o >>= pairs_in) >>= items_of) (value_in keys.NameSpaces p) (λ items. Some (copy_of_fields key used auth items)) true refl (λ items. refl)

some_after_used : (p : Part) (key : ℕ) (used : Bool) → is_some (after_used p key used) ≡ all_hold p (auth_field ∷ spaces_field ∷ [])
some_after_used p key used =
    some_auth (value_in keys.IssuerAuth p) (λ auth. after_auth p key used auth) (all_hold p (spaces_field ∷ [])) (λ auth. some_after_auth p key used auth)

some_after_key : (p : Part) (key : ℕ) → is_some (after_key p key) ≡ all_hold p other_fields
some_after_key p key =
    some_then (λ (o : Option Part). o >>= boolean_in) (value_in keys.Used p) (λ used. after_used p key used) (all_hold p (auth_field ∷ spaces_field ∷ [])) refl
    (λ used. some_after_used p key used)

abbrev copy_by : Part → Option Copy
copy_by p = (value_in keys.Key p >>= uint_in) >>= λ key. small_key key >>= λ small. after_key p small

copy_values : (p : Part) → copy p ≡ copy_by p
copy_values p =
    rw (field_value keys.Key uint_in p, field_value keys.Used boolean_in p, field_any keys.IssuerAuth p, field_value keys.NameSpaces pairs_in p) refl

some_copy : (p : Part) → is_some (copy p) ≡ all_hold p (key_field ∷ other_fields)
some_copy p =
    ap (λ (o : Option Copy). is_some o) (copy_values p)
    ∙ ap (λ (o : Option Copy). is_some o) (regroup_key (value_in keys.Key p) (λ key. after_key p key))
    ∙ some_then (λ (o : Option Part). (o >>= uint_in) >>= small_key) (value_in keys.Key p) (λ key. after_key p key) (all_hold p other_fields) refl
    (λ key. some_after_key p key)

-- nothing is wrong with a copy exactly where it is read
pub clean_copy : (p : Part) → IsRead p → is_clean (copy_faults (whole p)) ≡ is_some (copy p)
clean_copy p read = clean_map key_field other_fields p read ∙ sym (some_copy p)
