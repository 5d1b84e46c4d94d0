-- What is wrong with the namespaces of a copy that are whole, against the reading of them.
use Rattle.std.proofs.Common.{◌≡◌, ℕ, Bool, true, false, ◌&&◌, List, [], ◌∷◌, ◌++◌, map, length, filter_map, flat_map, Option, Some, None, refl, sym, ap, ◌∙◌}
use Rattle.std.specs.Prelude.{is_some, nat_le, option_map}
use Rattle.std.specs.List.{AllByRecursion}
use Rattle.std.proofs.lemmas.List.{length-map, length-append}
use Rattle.cbor_view.specs.PartialItem.{PartialItem, whole, both_whole}
use Rattle.cbor_view.specs.Parts.{Part, text_in, items_in, pairs_in}
use Rattle.cbor_view.proofs.ReadParts.{IsRead, BothRead, items_read, pairs_read}
use Rattle.mdoc_outside.specs.OptionSteps.{◌>>=◌, where_true, each}
use Rattle.mdoc_outside.specs.declared.key_name.KeyName.TheVariants as keys
use Rattle.mdoc_outside.specs.declared.limit_name.LimitName.TheVariants as limits
use Rattle.doc_store.specs.Fields.{are_distinct}
use Rattle.issuer_items.specs.Item.{Item}
use Rattle.doc_store.specs.Item.{item}
use Rattle.doc_store.specs.declared.store_check.StoreCheck.{StoreCheck}
use Rattle.doc_store.specs.declared.store_check.StoreCheck.TheVariants as checks
use Rattle.doc_store.specs.Store.{name_in, within, named_item, namespace, spread, items_of}
use Rattle.doc_store.specs.Faults.{fault, if_kind, of_kind, text_if_whole, name_limit, with_text, repeats, beyond, item_faults, item_name, items_or_none, space_items, space_value, space_faults, keys_in, entries_faults, spaces_faults}
use Rattle.doc_store.proofs.EachPart.{each_length}
use Rattle.doc_store.proofs.CleanLaw.{is_clean, and_true, and_false, and_assoc, and_same, from_zero, clean_joined, clean_unless, clean_beyond, some_where, clean_each}
use Rattle.doc_store.proofs.DistinctLaw.{texts_of, clean_repeats}
use Rattle.doc_store.proofs.ItemLaw.{clean_item}
use Rattle.doc_store.proofs.KeyLaw.{partial_entries}

abbrev NamedItem : Type 0
NamedItem = List ℕ × List ℕ

abbrev Space : Type 0
Space = List ℕ × List (List ℕ)

abbrev space_of : List ℕ → List NamedItem → Space
space_of name items = (name, map (λ (named : NamedItem). named.1) items)

abbrev is_short : List ℕ → Bool
is_short name = nat_le (length name) 128

-- a name
pub clean_name : (check : StoreCheck) (p : Part) → is_clean (of_kind check text_if_whole (name_limit (whole p)) (whole p)) ≡ is_some (name_in p)
clean_name check p = go (text_in p) where
  go : (o : Option (List ℕ)) → is_clean (if_kind (fault check (whole p) ∷ []) (name_limit (whole p)) o) ≡ is_some (o >>= λ name. where_true (is_short name) name)
  go None = refl
  go (Some name) = clean_unless (is_short name) (fault (checks.Limit limits.Name (length name)) (whole p)) ∙ sym (some_where (is_short name) name)

pub name_is_text : (p : Part) (name : List ℕ) → name_in p ≡ Some name → text_in p ≡ Some name
name_is_text p name is = go (text_in p) is where
  by : (b : Bool) (text : List ℕ) → where_true b text ≡ Some name → Some text ≡ Some name
  by true text e = e
  by false text e = cc

  go : (o : Option (List ℕ)) → (o >>= λ text. where_true (is_short text) text) ≡ Some name → o ≡ Some name
  go None e = cc
  go (Some text) e = by (is_short text) text e

-- ---- the items of a namespace

abbrev names_of : List NamedItem → List (List ℕ)
names_of items = map (λ (named : NamedItem). named.0) items

abbrev raws_of : List NamedItem → List (List ℕ)
raws_of items = map (λ (named : NamedItem). named.1) items

abbrev name_at : Part → List ℕ → List ℕ × PartialItem
name_at p name = (name, whole p)

item_named : (p : Part) (named : NamedItem) → named_item p ≡ Some named → item_name (whole p) ≡ Some (named.0, whole p)
item_named p named is = go (item p.bytes) is where
  by : (b : Bool) (name : List ℕ) → where_true b (name, p.bytes) ≡ Some named → Some (name_at p name) ≡ Some (name_at p named.0)
  by true name e = let same : ◌≡◌ {A = NamedItem} (name, p.bytes) named = cc in ap (λ (n : NamedItem). Some (name_at p n.0)) same
  by false name e = cc

  go : (o : Option Item) → (o >>= λ read. where_true (nat_le (length read.name) 128 && nat_le (length read.value) 262144) (read.name, p.bytes)) ≡ Some named →
      option_map (λ (read : Item). name_at p read.name) o ≡ Some (name_at p named.0)
  go None e = cc
  go (Some read) e = by (nat_le (length read.name) 128 && nat_le (length read.value) 262144) read.name e

items_named : (parts : List Part) (items : List NamedItem) → each named_item parts ≡ Some items → texts_of (filter_map item_name (map whole parts)) ≡ names_of items
items_named [] items is = let same : [] ≡ items = cc in ap names_of same
items_named (p ∷ parts) items is = go (named_item p) refl (each named_item parts) (items_named parts) is where
  go : (o : Option NamedItem) → named_item p ≡ o → (rest : Option (List NamedItem)) →
      ((others : List NamedItem) → rest ≡ Some others → texts_of (filter_map item_name (map whole parts)) ≡ names_of others) →
      (o >>= λ y. rest >>= λ ys. Some (y ∷ ys)) ≡ Some items → texts_of (filter_map item_name (map whole (p ∷ parts))) ≡ names_of items
  go None one rest known e = cc
  go (Some named) one None known e = cc
  go (Some named) one (Some others) known e =
      let same : named ∷ others ≡ items = cc in
      rw (item_named p named one) (ap (λ names. named.0 ∷ names) (known others refl) ∙ ap names_of same)

abbrev distinct_items : List NamedItem → Bool
distinct_items items = are_distinct (names_of items)

abbrev items_of_space : Part → Option (List NamedItem)
items_of_space value = (items_in value >>= each named_item) >>= λ items. where_true (distinct_items items) items

clean_value : (value : Part) → IsRead value → is_clean (space_value (Some (whole value))) ≡ is_some (items_of_space value)
clean_value value read = go (items_in value) refl where
  last : (parts : List Part) (o : Option (List NamedItem)) → each named_item parts ≡ o →
      (is_some o && are_distinct (texts_of (filter_map item_name (map whole parts)))) ≡ is_some (o >>= λ items. where_true (distinct_items items) items)
  last parts None is = refl
  last parts (Some items) is = ap are_distinct (items_named parts items is) ∙ sym (some_where (distinct_items items) items)

  go : (o : Option (List Part)) → items_in value ≡ o →
      is_clean (if_kind (fault (checks.Field keys.NameSpaces) (whole value) ∷ []) (λ (gs : List PartialItem). flat_map item_faults gs ++ repeats (filter_map item_name gs)) (option_map (map whole) o))
      ≡ is_some ((o >>= each named_item) >>= λ items. where_true (distinct_items items) items)
  go None is = refl
  go (Some parts) is =
      clean_joined (flat_map item_faults (map whole parts)) (repeats (filter_map item_name (map whole parts)))
      ∙ and_same _ _ _ _ (clean_each IsRead whole item_faults named_item clean_item parts (items_read value parts read is)) (clean_repeats (filter_map item_name (map whole parts)))
      ∙ last parts (each named_item parts) refl

-- ---- a namespace

clean_space : (entry : Part × Part) → BothRead entry → is_clean (space_faults (both_whole entry)) ≡ is_some (namespace entry)
clean_space entry read =
    clean_joined (of_kind (checks.Field keys.NameSpaces) text_if_whole (name_limit (whole entry.0)) (whole entry.0)) (space_value (Some (whole entry.1)))
    ∙ and_same _ _ _ _ (clean_name (checks.Field keys.NameSpaces) entry.0) (clean_value entry.1 read.1)
    ∙ go (name_in entry.0) (items_in entry.1 >>= each named_item) where
      go : (n : Option (List ℕ)) (o : Option (List NamedItem)) →
          (is_some n && is_some (o >>= λ items. where_true (distinct_items items) items))
          ≡ is_some (n >>= λ name. o >>= λ items. where_true (distinct_items items) (space_of name items))
      go None o = refl
      go (Some name) None = refl
      go (Some name) (Some items) = some_where (distinct_items items) items ∙ sym (some_where (distinct_items items) (space_of name items))

record SpaceSays (entry : Part × Part) (space : Space) : Type 0 where
  name : with_text (whole entry.0) ≡ Some (space.0, whole entry.0)
  size : length (space_items (both_whole entry)) ≡ length (spread space)

space_says : (entry : Part × Part) (space : Space) → namespace entry ≡ Some space → SpaceSays entry space
space_says entry space is = go (name_in entry.0) refl (items_in entry.1) refl is where
  sized : (name : List ℕ) (parts : List Part) (items : List NamedItem) → items_in entry.1 ≡ Some parts → each named_item parts ≡ Some items →
      length (space_items (both_whole entry)) ≡ length (spread (space_of name items))
  sized name parts items at read =
      ap (λ (o : Option (List Part)). length (items_or_none (option_map (map whole) o))) at
      ∙ length-map parts whole ∙ sym (each_length named_item parts items read)
      ∙ sym (length-map (raws_of items) (λ (raw : List ℕ). (name, raw)) ∙ length-map items (λ (named : NamedItem). named.1))

  test : (name : List ℕ) (parts : List Part) (items : List NamedItem) (d : Bool) → name_in entry.0 ≡ Some name → items_in entry.1 ≡ Some parts → each named_item parts ≡ Some items →
      where_true d (space_of name items) ≡ Some space → SpaceSays entry space
  test name parts items false n at read e = cc
  test name parts items true n at read e =
      let same : space_of name items ≡ space = cc in
      record {
        name = ap (option_map (λ (text : List ℕ). (text, whole entry.0))) (name_is_text entry.0 name n) ∙ ap (λ (s : Space). Some (s.0, whole entry.0)) same;
        size = sized name parts items at read ∙ ap (λ (s : Space). length (spread s)) same;
      }

  inner : (name : List ℕ) (parts : List Part) (o : Option (List NamedItem)) → name_in entry.0 ≡ Some name → items_in entry.1 ≡ Some parts → each named_item parts ≡ o →
      (o >>= λ items. where_true (distinct_items items) (space_of name items)) ≡ Some space → SpaceSays entry space
  inner name parts None n at read e = cc
  inner name parts (Some items) n at read e = test name parts items (distinct_items items) n at read e

  go : (n : Option (List ℕ)) → name_in entry.0 ≡ n → (i : Option (List Part)) → items_in entry.1 ≡ i →
      (n >>= λ name. (i >>= each named_item) >>= λ items. where_true (distinct_items items) (space_of name items)) ≡ Some space → SpaceSays entry space
  go None n i at e = cc
  go (Some name) n None at e = cc
  go (Some name) n (Some parts) at e = inner name parts (each named_item parts) n at refl e

-- ---- the namespaces of a copy

abbrev names_of_spaces : List Space → List (List ℕ)
names_of_spaces spaces = map (λ (space : Space). space.0) spaces

abbrev names_seen : List (Part × Part) → List (List ℕ)
names_seen entries = texts_of (filter_map with_text (keys_in (partial_entries entries)))

abbrev size_seen : List (Part × Part) → ℕ
size_seen entries = length (flat_map space_items (partial_entries entries))

record SpacesSay (entries : List (Part × Part)) (spaces : List Space) : Type 0 where
  names : names_seen entries ≡ names_of_spaces spaces
  size : size_seen entries ≡ length (flat_map spread spaces)

spaces_say : (entries : List (Part × Part)) (spaces : List Space) → each namespace entries ≡ Some spaces → SpacesSay entries spaces
spaces_say [] spaces is =
    let same : [] ≡ spaces = cc in
    record { names = ap names_of_spaces same; size = ap (λ (ss : List Space). length (flat_map spread ss)) same }
spaces_say (entry ∷ entries) spaces is = go (namespace entry) refl (each namespace entries) (spaces_say entries) is where
  go : (o : Option Space) → namespace entry ≡ o → (rest : Option (List Space)) →
      ((others : List Space) → rest ≡ Some others → SpacesSay entries others) →
      (o >>= λ y. rest >>= λ ys. Some (y ∷ ys)) ≡ Some spaces → SpacesSay (entry ∷ entries) spaces
  go None one rest known e = cc
  go (Some space) one None known e = cc
  go (Some space) one (Some others) known e =
      let same : space ∷ others ≡ spaces = cc in
      let says = space_says entry space one in
      let rest = known others refl in
      let sum : length (space_items (both_whole entry) ++ flat_map space_items (partial_entries entries)) ≡ length (spread space ++ flat_map spread others) =
      rw (length-append (space_items (both_whole entry)) (flat_map space_items (partial_entries entries)), length-append (spread space) (flat_map spread others), says.size, rest.size) refl in
      record {
        names = rw says.name (ap (λ names. space.0 ∷ names) rest.names ∙ ap names_of_spaces same);
        size = sum ∙ ap (λ (ss : List Space). length (flat_map spread ss)) same;
      }

abbrev items_of_spaces : List Space → Option (List NamedItem)
items_of_spaces spaces = where_true (are_distinct (names_of_spaces spaces)) spaces >>= λ distinct. within 0 512 (flat_map spread distinct)

pub few_enough : {A : Type 0} (most : ℕ) (xs : List A) → (nat_le 0 (length xs) && nat_le (length xs) most) ≡ nat_le (length xs) most
few_enough most xs = ap (λ b. b && nat_le (length xs) most) (from_zero (length xs))

items_test : (spaces : List Space) → is_some (items_of_spaces spaces) ≡ (are_distinct (names_of_spaces spaces) && nat_le (length (flat_map spread spaces)) 512)
items_test spaces = go (are_distinct (names_of_spaces spaces)) where
  go : (d : Bool) → is_some (where_true d spaces >>= λ distinct. within 0 512 (flat_map spread distinct)) ≡ (d && nat_le (length (flat_map spread spaces)) 512)
  go false = refl
  go true = some_where (nat_le 0 (length (flat_map spread spaces)) && nat_le (length (flat_map spread spaces)) 512) (flat_map spread spaces) ∙ few_enough 512 (flat_map spread spaces)

spaces_test : (entries : List (Part × Part)) (o : Option (List Space)) → each namespace entries ≡ o →
    (is_some o && (are_distinct (names_seen entries) && nat_le (size_seen entries) 512)) ≡ is_some (o >>= items_of_spaces)
spaces_test entries None is = refl
spaces_test entries (Some spaces) is =
    let says = spaces_say entries spaces is in
    and_same _ _ _ _ (ap are_distinct says.names) (ap (λ (n : ℕ). nat_le n 512) says.size) ∙ sym (items_test spaces)

-- the namespaces that are no more than so many
few_spaces : (entries : List (Part × Part)) (few : Bool) →
    (((is_some (each namespace entries) && are_distinct (names_seen entries)) && few) && nat_le (size_seen entries) 512)
    ≡ is_some ((where_true few entries >>= each namespace) >>= items_of_spaces)
few_spaces entries false = ap (λ b. b && nat_le (size_seen entries) 512) (and_false _)
few_spaces entries true =
    ap (λ b. b && nat_le (size_seen entries) 512) (and_true _)
    ∙ and_assoc (is_some (each namespace entries)) (are_distinct (names_seen entries)) (nat_le (size_seen entries) 512)
    ∙ spaces_test entries (each namespace entries) refl

keys_few : (entries : List (Part × Part)) → nat_le (length (keys_in (partial_entries entries))) 16 ≡ (nat_le 0 (length entries) && nat_le (length entries) 16)
keys_few entries =
    let keys_length : length (keys_in (partial_entries entries)) ≡ length entries = length-map (partial_entries entries) (λ (entry : PartialItem × Option PartialItem). entry.0) ∙ length-map entries both_whole in
    ap (λ (n : ℕ). nat_le n 16) keys_length ∙ sym (few_enough 16 entries)

clean_entries : (entries : List (Part × Part)) → AllByRecursion BothRead entries → is_clean (entries_faults (partial_entries entries)) ≡ is_some (items_of entries)
clean_entries entries read =
    let spaces = flat_map space_faults (partial_entries entries) in
    let doubled = repeats (filter_map with_text (keys_in (partial_entries entries))) in
    let many = beyond limits.Namespaces 16 (keys_in (partial_entries entries)) in
    let more = beyond limits.Items 512 (flat_map space_items (partial_entries entries)) in
    clean_joined ((spaces ++ doubled) ++ many) more
    ∙ and_same _ _ _ _
    (clean_joined (spaces ++ doubled) many
    ∙ and_same _ _ _ _
    (clean_joined spaces doubled
    ∙ and_same _ _ _ _ (clean_each BothRead both_whole space_faults namespace clean_space entries read) (clean_repeats (filter_map with_text (keys_in (partial_entries entries)))))
    (clean_beyond limits.Namespaces 16 (keys_in (partial_entries entries)) ∙ keys_few entries))
    (clean_beyond limits.Items 512 (flat_map space_items (partial_entries entries)))
    ∙ few_spaces entries (nat_le 0 (length entries) && nat_le (length entries) 16)

-- nothing is wrong with the namespaces of a copy exactly where its items are read
pub clean_spaces : (p : Part) → IsRead p → is_clean (spaces_faults (whole p)) ≡ is_some (pairs_in p >>= items_of)
clean_spaces p read = go (pairs_in p) refl where
  go : (o : Option (List (Part × Part))) → pairs_in p ≡ o →
      is_clean (if_kind (fault (checks.Field keys.NameSpaces) (whole p) ∷ []) entries_faults (option_map partial_entries o)) ≡ is_some (o >>= items_of)
  go None is = refl
  go (Some entries) is = clean_entries entries (pairs_read p entries read is)
