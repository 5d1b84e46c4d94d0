-- What stores that agree have in common.
use Rattle.std.proofs.Common.{◌≡◌, ℕ, Bool, true, false, not, ◌&&◌, ◌||◌, cond, List, [], ◌∷◌, map, Option, Some, None, refl, sym, ap, ◌∙◌}
use Rattle.std.specs.Prelude.{is_some, option_map, unwrap_or, find, filter_map, position, slice_get}
use Rattle.std.specs.List.{list_any, position_or_len, cons_option}
use Rattle.std.specs.Str.{bytes_eq}
use Rattle.std.proofs.lemmas.List.{length-map}
use Rattle.std.proofs.lemmas.Option.{slice_get-map}
use Rattle.mdoc_outside.specs.OptionSteps.{◌>>=◌}
use Rattle.issuer_items.specs.Item.{Item}
use Rattle.doc_store.specs.Item.{item}
use Rattle.doc_store.specs.Store.{Copy, Document, Store}
use Rattle.doc_store.specs.Held.{is_named, is_item, held, chosen, Place, place_at, item_at, place_of}
use Rattle.doc_store.specs.Agreement.{ItemName, name_of_item, names, CopyOutline, DocumentOutline, copy_outline, outline, Agree}

-- ---- a search through a map

prefix-map : {A B : Type 0} (f : A → B) (p : B → Bool) (xs : List A) → position_or_len (λ x. p (f x)) xs ≡ position_or_len p (map f xs)
prefix-map f p [] = refl
prefix-map f p (x ∷ xs) = rw (prefix-map f p xs) refl

position-map : {A B : Type 0} (f : A → B) (p : B → Bool) (xs : List A) → position (λ x. p (f x)) xs ≡ position p (map f xs)
position-map f p xs = rw (prefix-map f p xs, length-map xs f) refl

-- ---- places

abbrev type_test : List ℕ → DocumentOutline → Bool
type_test doc_type document = bytes_eq document.doc_type doc_type

abbrev is_unused_outline : CopyOutline → Bool
is_unused_outline copy = not copy.used

-- what a document's outline says of the copy to show
abbrev chosen_of : DocumentOutline → ℕ
chosen_of document = unwrap_or (position is_unused_outline document.copies) 0

chosen-outline : (document : Document) → chosen document ≡ chosen_of (outline document)
chosen-outline document = ap (λ (found : Option ℕ). unwrap_or found 0) (position-map copy_outline is_unused_outline document.copies)

-- the place of an item, by the outlines of the documents
abbrev place_in : List DocumentOutline → List ℕ → List ℕ → List ℕ → Option Place
place_in documents doc_type ns name = do
  at ← position (type_test doc_type) documents
  document ← slice_get documents at
  Some (place_at at (chosen_of document) ns name)

place_of-outline : (documents : Store) (doc_type ns name : List ℕ) → place_of documents doc_type ns name ≡ place_in (map outline documents) doc_type ns name
place_of-outline documents doc_type ns name =
    rw (position-map outline (type_test doc_type) documents) (at_place (position (type_test doc_type) (map outline documents))) where
      shown : (at : ℕ) (found : Option Document) →
          (found >>= λ document. Some (place_at at (chosen document) ns name))
          ≡ (option_map outline found >>= λ document. Some (place_at at (chosen_of document) ns name))
      shown at None = refl
      shown at (Some document) = ap (λ (copy : ℕ). Some (place_at at copy ns name)) (chosen-outline document)

      at_place : (o : Option ℕ) →
          (o >>= λ at. slice_get documents at >>= λ document. Some (place_at at (chosen document) ns name))
          ≡ (o >>= λ at. slice_get (map outline documents) at >>= λ document. Some (place_at at (chosen_of document) ns name))
      at_place None = refl
      at_place (Some at) = rw (slice_get-map outline documents at) (shown at (slice_get documents at))

pub same_places : (one other : Store) (places : List Place) → Agree one other places →
    (doc_type ns name : List ℕ) → place_of one doc_type ns name ≡ place_of other doc_type ns name
same_places one other places agree doc_type ns name =
    place_of-outline one doc_type ns name ∙ ap (λ (documents : List DocumentOutline). place_in documents doc_type ns name) agree.outlines ∙ sym (place_of-outline other doc_type ns name)

-- ---- items

-- whether a name of a copy is the one of that namespace and name
abbrev is_entry : List ℕ → List ℕ → ItemName → Bool
is_entry ns name entry = bytes_eq entry.ns ns && bytes_eq entry.name name

and-false : (b : Bool) → (b && false) ≡ false
and-false true = refl
and-false false = refl

find-any : {A : Type 0} (p : A → Bool) (xs : List A) → is_some (find p xs) ≡ list_any p xs
find-any p [] = refl
find-any p (x ∷ xs) = either (p x) (find-any p xs) where
  either : (b : Bool) → is_some (find p xs) ≡ list_any p xs → is_some (cond b (Some x) (find p xs)) ≡ (b || list_any p xs)
  either true rest = refl
  either false rest = rest

entries-any : (ns name : List ℕ) (items : List (List ℕ × List ℕ)) → list_any (is_item ns name) items ≡ list_any (is_entry ns name) (filter_map name_of_item items)
entries-any ns name [] = refl
entries-any ns name (stored ∷ items) = rw (entries-any ns name items) (one (item stored.1)) where
  one : (read : Option Item) → ((bytes_eq stored.0 ns && is_named name read) || list_any (is_entry ns name) (filter_map name_of_item items))
      ≡ list_any (is_entry ns name) (cons_option (option_map (λ (item : Item). record { ns = stored.0; name = item.name; digest_id = item.digest_id }) read) (filter_map name_of_item items))
  one None = rw (and-false (bytes_eq stored.0 ns)) refl
  one (Some item) = refl

some-map : {A B : Type 0} (f : A → B) (o : Option A) → is_some (option_map f o) ≡ is_some o
some-map f None = refl
some-map f (Some x) = refl

held-entries : (copy : Copy) (ns name : List ℕ) → is_some (held copy ns name) ≡ list_any (is_entry ns name) (names copy)
held-entries copy ns name =
    some-map (λ (stored : List ℕ × List ℕ). stored.1) (find (is_item ns name) copy.items) ∙ find-any (is_item ns name) copy.items ∙ entries-any ns name copy.items

-- a test of a value, which fails where there is none
abbrev is_some_and : {A : Type 0} → Option A → (A → Bool) → Bool
is_some_and None test = false
is_some_and (Some x) test = test x

some-bind : {A B : Type 0} (o : Option A) (step : A → Option B) → is_some (o >>= step) ≡ is_some_and o (λ x. is_some (step x))
some-bind None step = refl
some-bind (Some x) step = refl

and-same : {A : Type 0} (o : Option A) (p q : A → Bool) → ((x : A) → p x ≡ q x) → is_some_and o p ≡ is_some_and o q
and-same None p q same = refl
and-same (Some x) p q same = same x

and-map : {A B : Type 0} (f : A → B) (o : Option A) (p : B → Bool) → is_some_and o (λ x. p (f x)) ≡ is_some_and (option_map f o) p
and-map f None p = refl
and-map f (Some x) p = refl

-- a test of the one at a place, through a map
get-map : {A B : Type 0} (f : A → B) (xs : List A) (at : ℕ) (p : B → Bool) → is_some_and (slice_get xs at) (λ x. p (f x)) ≡ is_some_and (slice_get (map f xs) at) p
get-map f xs at p = and-map f (slice_get xs at) p ∙ ap (λ (o : Option _). is_some_and o p) (sym (slice_get-map f xs at))

-- whether outlines have an item at a place
abbrev copy_has : Place → CopyOutline → Bool
copy_has place copy = list_any (is_entry place.ns place.name) copy.names

abbrev document_has : Place → DocumentOutline → Bool
document_has place document = is_some_and (slice_get document.copies place.copy) (copy_has place)

copy-has : (place : Place) (document : Document) →
    is_some (slice_get document.copies place.copy >>= λ copy. held copy place.ns place.name) ≡ document_has place (outline document)
copy-has place document =
    some-bind (slice_get document.copies place.copy) (λ copy. held copy place.ns place.name)
    ∙ and-same (slice_get document.copies place.copy) _ (λ copy. copy_has place (copy_outline copy)) (λ copy. held-entries copy place.ns place.name)
    ∙ get-map copy_outline document.copies place.copy (copy_has place)

item_at-outline : (documents : Store) (place : Place) → is_some (item_at documents place) ≡ is_some_and (slice_get (map outline documents) place.document) (document_has place)
item_at-outline documents place =
    some-bind (slice_get documents place.document) _
    ∙ and-same (slice_get documents place.document) _ (λ document. document_has place (outline document)) (λ document. copy-has place document)
    ∙ get-map outline documents place.document (document_has place)

pub same_presence : (one other : Store) (places : List Place) → Agree one other places →
    (place : Place) → is_some (item_at one place) ≡ is_some (item_at other place)
same_presence one other places agree place =
    item_at-outline one place ∙ ap (λ (documents : List DocumentOutline). is_some_and (slice_get documents place.document) (document_has place)) agree.outlines ∙ sym (item_at-outline other place)
