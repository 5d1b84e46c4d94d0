-- What is wrong with the keys of a map that is whole, against its fields.
use Rattle.std.proofs.Common.{◌≡◌, ℕ, Bool, true, false, cond, not, ◌&&◌, ◌||◌, List, [], ◌∷◌, ◌++◌, map, filter, filter_map, flat_map, drop, Option, Some, None, Result, Ok, Err, refl, sym, ap, ◌∙◌}
use Rattle.std.specs.Prelude.{option_map}
use Rattle.std.specs.List.{AllByRecursion}
use Rattle.cbor_view.specs.declared.doubled.Doubled.{Doubled}
use Rattle.cbor_view.specs.Label.{Words, is_words}
use Rattle.cbor_view.specs.Label as labels
use Rattle.cbor_view.specs.PartialItem.{PartialItem, whole, both_whole}
use Rattle.cbor_view.specs.Parts.{Part, entry_in, tree_in, text_in, pairs_in}
use Rattle.cbor_maps.specs.Reading.{any_in, entry, needed, of_kind}
use Rattle.mdoc_outside.specs.KeyName.{key_text}
use Rattle.mdoc_outside.specs.declared.key_name.KeyName.{KeyName}
use Rattle.mdoc_outside.specs.OptionSteps.{◌>>=◌}
use Rattle.mdoc_outside.specs.ListSteps.{unless}
use Rattle.doc_store.specs.Fields.{if_read, field_of}
use Rattle.doc_store.specs.declared.first_fault.Fault.{Fault}
use Rattle.doc_store.specs.declared.store_check.StoreCheck.TheVariants as checks
use Rattle.doc_store.specs.Faults.{fault, if_kind, is_text, is_key, Key, Entries, entries_of, values_of, doubled_at, has_key, key_faults, map_faults}
use Rattle.doc_store.proofs.CleanLaw.{is_clean, and_true, and_same, clean_joined}
use Rattle.cbor_view.proofs.ReadParts.{IsRead, BothRead, pairs_read}

-- ---- a field

abbrev once : Result (Option Part) Doubled → Option Part
once (Ok found) = found
once (Err doubled) = None

-- the value under a key that a map has once, of whatever kind
abbrev pub value_in : KeyName → Part → Option Part
value_in name map = once (entry_in (Words (key_text name)) map)

by_kind : {A : Type 0} (name : KeyName) (o : Option A) → if_read (of_kind name o) ≡ o
by_kind name None = refl
by_kind name (Some x) = refl

-- a field of a kind is the value as that kind
pub field_value : {A : Type 0} (name : KeyName) (kind : Part → Option A) (p : Part) → field_of name kind p ≡ (value_in name p >>= kind)
unfolding entry
field_value {A} name kind p = go (entry_in (Words (key_text name)) p) where
  go : (r : Result (Option Part) Doubled) → if_read (needed name kind r) ≡ (once r >>= kind)
  go (Err doubled) = refl
  go (Ok None) = refl
  go (Ok (Some value)) = by_kind name (kind value)

any_value : (o : Option Part) → (o >>= any_in) ≡ o
any_value None = refl
any_value (Some value) = refl

pub field_any : (name : KeyName) (p : Part) → field_of name any_in p ≡ value_in name p
field_any name p = field_value name any_in p ∙ any_value (value_in name p)

-- a field of a kind is the field of any kind, as that kind
pub field_of_any : {A : Type 0} (name : KeyName) (kind : Part → Option A) (p : Part) → field_of name kind p ≡ (field_of name any_in p >>= kind)
field_of_any name kind p = field_value name kind p ∙ ap (λ (o : Option Part). o >>= kind) (sym (field_any name p))

-- ---- the entries of a key

-- whether an entry has that key
abbrev pub names_key : KeyName → Part × Part → Bool
names_key name entry = is_key name (both_whole entry)

abbrev pub under_key : KeyName → List (Part × Part) → List (Part × Part)
under_key name entries = filter (names_key name) entries

abbrev pub values_under : List (Part × Part) → List Part
values_under entries = map (λ (entry : Part × Part). entry.1) entries

abbrev pub partial_entries : List (Part × Part) → Entries
partial_entries entries = map both_whole entries

abbrev is_empty : List (Part × Part) → Bool
is_empty [] = true
is_empty (entry ∷ entries) = false

entries_seen : (name : KeyName) (entries : List (Part × Part)) → entries_of name (partial_entries entries) ≡ partial_entries (under_key name entries)
entries_seen name [] = refl
entries_seen name (e ∷ es) = go (names_key name e) (entries_seen name es) where
  go : (b : Bool) → entries_of name (partial_entries es) ≡ partial_entries (under_key name es) →
      cond b (both_whole e ∷ entries_of name (partial_entries es)) (entries_of name (partial_entries es)) ≡ partial_entries (cond b (e ∷ under_key name es) (under_key name es))
  go true rest = ap (λ xs. both_whole e ∷ xs) rest
  go false rest = rest

key_seen : (name : KeyName) (entries : List (Part × Part)) → has_key name (partial_entries entries) ≡ not (is_empty (under_key name entries))
key_seen name [] = refl
key_seen name (e ∷ es) = go (names_key name e) (key_seen name es) where
  go : (b : Bool) → has_key name (partial_entries es) ≡ not (is_empty (under_key name es)) →
      (b || has_key name (partial_entries es)) ≡ not (is_empty (cond b (e ∷ under_key name es) (under_key name es)))
  go true rest = refl
  go false rest = rest

same_test : (words : List ℕ) (text : Option (List ℕ)) → is_text words text ≡ is_words words text
same_test words None = refl
same_test words (Some text) = refl

label_values : (name : KeyName) (entries : List (Part × Part)) → labels.values_of tree_in (Words (key_text name)) entries ≡ values_under (under_key name entries)
label_values name [] = refl
label_values name (e ∷ es) = go (is_text (key_text name) (text_in e.0)) (is_words (key_text name) (text_in e.0)) (same_test (key_text name) (text_in e.0)) (label_values name es) where
  go : (b c : Bool) → b ≡ c → labels.values_of tree_in (Words (key_text name)) es ≡ values_under (under_key name es) →
      cond c (e.1 ∷ labels.values_of tree_in (Words (key_text name)) es) (labels.values_of tree_in (Words (key_text name)) es)
      ≡ values_under (cond b (e ∷ under_key name es) (under_key name es))
  go true true same rest = ap (λ xs. e.1 ∷ xs) rest
  go false false same rest = rest
  go true false same rest = cc
  go false true same rest = cc

under_read : (name : KeyName) (entries : List (Part × Part)) → AllByRecursion BothRead entries → AllByRecursion BothRead (under_key name entries)
under_read name [] known = known
under_read name (e ∷ es) known = go (names_key name e) (under_read name es known.1) where
  go : (b : Bool) → AllByRecursion BothRead (under_key name es) → AllByRecursion BothRead (cond b (e ∷ under_key name es) (under_key name es))
  go true rest = (known.0, rest)
  go false rest = rest

-- the value of a field
pub field_under : (name : KeyName) (p : Part) (entries : List (Part × Part)) → pairs_in p ≡ Some entries →
    value_in name p ≡ once (labels.only_of (values_under (under_key name entries)))
field_under name p entries is =
    ap (λ (o : Option (List (Part × Part))). once (labels.only_of (labels.values_of tree_in (Words (key_text name)) (labels.entries_or_none o)))) is
    ∙ ap (λ (vs : List Part). once (labels.only_of vs)) (label_values name entries)

pub no_field : (name : KeyName) (p : Part) → pairs_in p ≡ None → value_in name p ≡ None
no_field name p is = ap (λ (o : Option (List (Part × Part))). once (labels.only_of (labels.values_of tree_in (Words (key_text name)) (labels.entries_or_none o)))) is

-- the value of a field, as a partial item
pub value_seen : (name : KeyName) (p : Part) (entries : List (Part × Part)) (value : Part) → pairs_in p ≡ Some entries → value_in name p ≡ Some value →
    values_of name (partial_entries entries) ≡ whole value ∷ []
value_seen name p entries value is found =
    ap (λ (es : Entries). filter_map (λ (entry : PartialItem × Option PartialItem). entry.1) es) (entries_seen name entries)
    ∙ go (under_key name entries) (sym (field_under name p entries is) ∙ found) where
      go : (es : List (Part × Part)) → once (labels.only_of (values_under es)) ≡ Some value →
          filter_map (λ (entry : PartialItem × Option PartialItem). entry.1) (partial_entries es) ≡ whole value ∷ []
      go [] e = cc
      go (e ∷ []) one = cc
      go (e ∷ (other ∷ es)) two = cc

-- ---- a key

-- a test of the value of a field
abbrev pub holds : (Part → Bool) → Option Part → Bool
holds test None = false
holds test (Some value) = test value

-- A key of a map with a test of its value, which tells whether nothing is wrong with it.
pub record FieldTest : Type 0 where
  pub key : Key
  pub test : Part → Bool
  pub law : (value : Part) → IsRead value → is_clean (key.value (whole value)) ≡ test value

clean_under : (field : FieldTest) (missing : Fault) (es : List (Part × Part)) → AllByRecursion BothRead es →
    is_clean (unless (not (is_empty es)) missing ++ (doubled_at (drop 1 (partial_entries es)) ++ flat_map field.key.value (filter_map (λ (entry : PartialItem × Option PartialItem). entry.1) (partial_entries es))))
    ≡ holds field.test (once (labels.only_of (values_under es)))
clean_under field missing [] known = refl
clean_under field missing (e ∷ []) known =
    clean_joined (field.key.value (whole e.1)) [] ∙ and_true (is_clean (field.key.value (whole e.1))) ∙ field.law e.1 known.0.1
clean_under field missing (e ∷ (other ∷ es)) known = refl

clean_key : (field : FieldTest) (p : Part) (entries : List (Part × Part)) → pairs_in p ≡ Some entries → AllByRecursion BothRead entries →
    is_clean (key_faults (whole p) (partial_entries entries) field.key) ≡ holds field.test (value_in field.key.name p)
clean_key field p entries is known =
    let name = field.key.name in
    let missing : Fault = fault (checks.Field name) (whole p) in
    ap (λ (b : Bool). is_clean (unless b missing ++ (doubled_at (drop 1 (entries_of name (partial_entries entries))) ++ flat_map field.key.value (values_of name (partial_entries entries))))) (key_seen name entries)
    ∙ ap (λ (es : Entries). is_clean (unless (not (is_empty (under_key name entries))) missing ++ (doubled_at (drop 1 es) ++ flat_map field.key.value (filter_map (λ (entry : PartialItem × Option PartialItem). entry.1) es)))) (entries_seen name entries)
    ∙ clean_under field missing (under_key name entries) (under_read name entries known)
    ∙ ap (holds field.test) (sym (field_under name p entries is))

-- ---- a map of the form

abbrev pub all_hold : Part → List FieldTest → Bool
all_hold p [] = true
all_hold p (field ∷ others) = holds field.test (value_in field.key.name p) && all_hold p others

abbrev pub keys_of : List FieldTest → List Key
keys_of all = map (λ (field : FieldTest). field.key) all

clean_keys : (p : Part) (entries : List (Part × Part)) (all : List FieldTest) → pairs_in p ≡ Some entries → AllByRecursion BothRead entries →
    is_clean (flat_map (key_faults (whole p) (partial_entries entries)) (keys_of all)) ≡ all_hold p all
clean_keys p entries [] is known = refl
clean_keys p entries (field ∷ others) is known =
    clean_joined (key_faults (whole p) (partial_entries entries) field.key) (flat_map (key_faults (whole p) (partial_entries entries)) (keys_of others))
    ∙ and_same _ _ _ _ (clean_key field p entries is known) (clean_keys p entries others is known)

-- nothing is wrong with a map exactly where each of its keys stands there once, with a value that passes its test
pub clean_map : (first : FieldTest) (others : List FieldTest) (p : Part) → IsRead p →
    is_clean (map_faults first.key (keys_of others) (whole p)) ≡ all_hold p (first ∷ others)
clean_map first others p read = go (pairs_in p) refl where
  go : (o : Option (List (Part × Part))) → pairs_in p ≡ o →
      is_clean (if_kind (fault (checks.Field first.key.name) (whole p) ∷ []) (λ (entries : Entries). flat_map (key_faults (whole p) entries) (first.key ∷ keys_of others)) (option_map partial_entries o))
      ≡ all_hold p (first ∷ others)
  go None is = sym (ap (λ (o : Option Part). holds first.test o && all_hold p others) (no_field first.key.name p is))
  go (Some entries) is = clean_keys p entries (first ∷ others) is (pairs_read p entries read is)
