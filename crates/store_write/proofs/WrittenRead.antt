-- A written store is read: its documents, their copies, and the items of these by their namespaces.
use Rattle.std.proofs.Common.{◌≡◌, suc, inl, ◌||◌, ◌+◌, ◌<◌, ◌≤◌, ◌^◌, nat_le, nat_lt, ℕ, Bool, true, false, ◌&&◌, not, cond, List, [], ◌∷◌, length, map, Option, Some, None, Ok, refl, sym, ap, ◌∙◌, arith}
use Rattle.std.specs.Prelude.{filter, option_map}
use Rattle.std.specs.List.{AllByRecursion, list_any}
use Rattle.std.specs.Str.{bytes_eq}
use Rattle.std.proofs.lemmas.Bool.Decides.{nat_tests}
use Rattle.mdoc_outside.specs.OptionSteps.{◌>>=◌, each}
use Rattle.mdoc_outside.specs.declared.key_name.KeyName.TheVariants as keys
use Rattle.cbor_view.specs.Parts.{Part, boolean_in, items_in, pairs_in, uint_in}
use Rattle.cbor_view.specs.Shortest.{array_bytes, boolean_bytes, text_bytes, uint_bytes}
use Rattle.cbor_view.specs.Tree.{Simple, Unsigned}
use Rattle.cbor_view.proofs.WrittenParts.{cbor-piece, entries_from, items-written, items_begin, pairs-written, pairs_begin, parts_from, tree-shortest}
use Rattle.cbor_maps.specs.Reading.{entry}
use Rattle.cbor_maps.specs.Writing.{named_map}
use Rattle.cbor_maps.proofs.WrittenMaps.{piece-named, under}
use Rattle.doc_response.specs.Answered.{distinct_texts, grouped, items_map, namespace_entry, of_namespace}
use Rattle.doc_response.specs.WrittenReads.{regrouped}
use Rattle.doc_response.proofs.Grouping.{map-length}
use Rattle.doc_response.proofs.GroupsRead.{group-pieces, text-read}
use Rattle.doc_store.specs.Fields.{are_distinct}
use Rattle.doc_store.specs.Store.{Copy, Document, Store, copy, document, is_mac, items_of, name_in, named_item, namespace, store, within}
use Rattle.store_write.specs.Written.{auth_number, copy_bytes, copy_fields, document_bytes, document_map, store_bytes, store_fields, store_map}
use Rattle.store_write.specs.Storable.{IsName, IsNamespace, IsCopy, IsDocument, IsStore, named, copy_by_namespace, document_by_namespace, by_namespace}
use Rattle.store_write.proofs.StoredFields.{step, item-fields}
use Rattle.store_write.proofs.Pieces.{copies-pieces, copy-groups, copy-items, document-items, documents-pieces, few-copies, few-documents, few-entries, fields_of, few-of-each, name-text, store-items, auth-small, pieces-of}

abbrev Group : Type 0
Group = List ℕ × List (List ℕ)

-- ---- values

pub uint-read : (at n : ℕ) → n < 2 ^ 64 → uint_in (record { at = at; bytes = uint_bytes n }) ≡ Some n
uint-read at n small = rw (tree-shortest (Unsigned n) small (omega arith)) refl

pub boolean-read : (at : ℕ) (b : Bool) → boolean_in (record { at = at; bytes = boolean_bytes b }) ≡ Some b
boolean-read at false = rw (tree-shortest (Simple 20) (inl (omega arith)) (omega arith)) refl
boolean-read at true = rw (tree-shortest (Simple 21) (inl (omega arith)) (omega arith)) refl

at-most : (n most : ℕ) → n ≤ most → nat_le n most ≡ true
at-most n most few = grind (arith, nat_tests)

pub name-read : (at : ℕ) (name : List ℕ) → IsName name → name_in (record { at = at; bytes = text_bytes name }) ≡ Some name
name-read at name is = rw (text-read at name (name-text name is), at-most (length name) 128 is.short) refl

pub mac-read : (b : Bool) → is_mac (auth_number b) ≡ Some b
mac-read true = refl
mac-read false = refl

-- ---- the items of a namespace

parts-named : (at : ℕ) (raws : List (List ℕ)) → each named_item (parts_from at raws) ≡ each named raws
parts-named at [] = refl
parts-named at (raw ∷ raws) = ap (λ (rest : Option (List (List ℕ × List ℕ))). named raw >>= λ item. rest >>= λ items. Some (item ∷ items)) (parts-named (at + length raw) raws)

named-raws : (raws : List (List ℕ)) (items : List (List ℕ × List ℕ)) → each named raws ≡ Some items → map (λ (item : List ℕ × List ℕ). item.1) items ≡ raws
named-raws [] items e = let same : [] ≡ items = cc in rw (← same) refl
named-raws (raw ∷ raws) items e =
    let one = step (named raw) _ items e in
    let rest = step (each named raws) _ items one.after in
    let same : one.value ∷ rest.value ≡ items = cc in
    let own = item-fields (record { at = 0; bytes = raw }) one.value one.is in
    let raw_is : raw ≡ one.value.1 = ap (λ (x : List ℕ × List ℕ). x.1) own.is in
    rw (← same) (ap (λ (x : List (List ℕ)). one.value.1 ∷ x) (named-raws raws rest.value rest.is) ∙ ap (λ (x : List ℕ). x ∷ raws) (sym raw_is))

pub spaces-read : (at : ℕ) (all : List Group) → AllByRecursion IsNamespace all → AllByRecursion (λ (g : Group). length g.1 ≤ 512) all →
    each namespace (entries_from at (map namespace_entry all)) ≡ Some all
spaces-read at [] are few = refl
spaces-read at (g ∷ all) are few =
    let is = are.0 in
    let least = few.0 in
    let place = at + length (text_bytes g.0) in
    let rest = spaces-read (place + length (array_bytes g.1)) all are.1 few.1 in
    let begin = items_begin place g.1 in
    rw (name-read at g.0 is.name)
    (rw (items-written 25 g.1 place (pieces-of 25 g.1 is.nested) (omega arith) (omega arith))
    (rw (parts-named begin g.1)
    (rw is.items_are
    (rw is.distinct
    (rw (named-raws g.1 is.items is.items_are)
    (rw rest refl))))))

-- ---- the namespaces of a copy

none-left : (text : List ℕ) (texts : List (List ℕ)) → list_any (bytes_eq text) (filter (λ (other : List ℕ). not (bytes_eq text other)) texts) ≡ false
none-left text [] = refl
none-left text (other ∷ texts) = either (bytes_eq text other) refl (none-left text texts) where
  either : (b : Bool) → bytes_eq text other ≡ b → list_any (bytes_eq text) (filter (λ (x : List ℕ). not (bytes_eq text x)) texts) ≡ false →
      list_any (bytes_eq text) (cond (not b) (other ∷ filter (λ (x : List ℕ). not (bytes_eq text x)) texts) (filter (λ (x : List ℕ). not (bytes_eq text x)) texts)) ≡ false
  either true e rest = rest
  either false e rest = rw e rest

any-filter : (p q : List ℕ → Bool) (texts : List (List ℕ)) → list_any p texts ≡ false → list_any p (filter q texts) ≡ false
any-filter p q [] e = refl
any-filter p q (text ∷ texts) e = either (p text) (q text) refl e (any-filter p q texts) where
  either : (b c : Bool) → p text ≡ b → (b || list_any p texts) ≡ false → (list_any p texts ≡ false → list_any p (filter q texts) ≡ false) →
      list_any p (cond c (text ∷ filter q texts) (filter q texts)) ≡ false
  either true c is e rest = absurd (cc)
  either false true is e rest = rw is (rest e)
  either false false is e rest = rest e

distinct-filter : (q : List ℕ → Bool) (texts : List (List ℕ)) → are_distinct texts ≡ true → are_distinct (filter q texts) ≡ true
distinct-filter q [] e = refl
distinct-filter q (text ∷ texts) e = either (list_any (bytes_eq text) texts) (q text) refl e (distinct-filter q texts) where
  either : (b c : Bool) → list_any (bytes_eq text) texts ≡ b → (not b && are_distinct texts) ≡ true → (are_distinct texts ≡ true → are_distinct (filter q texts) ≡ true) →
      are_distinct (cond c (text ∷ filter q texts) (filter q texts)) ≡ true
  either true c is e rest = absurd (cc)
  either false true is e rest = rw (any-filter (bytes_eq text) q texts is) (rest e)
  either false false is e rest = rest e

pub firsts-distinct : (texts : List (List ℕ)) → are_distinct (distinct_texts texts) ≡ true
firsts-distinct [] = refl
firsts-distinct (text ∷ texts) =
    rw (none-left text (distinct_texts texts)) (distinct-filter (λ (other : List ℕ). not (bytes_eq text other)) (distinct_texts texts) (firsts-distinct texts))

group-names : (items : List (List ℕ × List ℕ)) (names : List (List ℕ)) → map (λ (space : Group). space.0) (map (of_namespace items) names) ≡ names
group-names items [] = refl
group-names items (name ∷ names) = ap (λ (x : List (List ℕ)). name ∷ x) (group-names items names)

entries-count : (at : ℕ) (es : List (List ℕ × List ℕ)) → length (entries_from at es) ≡ length es
entries-count at [] = refl
entries-count at (e ∷ es) = ap suc (entries-count (at + length e.0 + length e.1) es)

pub items-of-read : (at : ℕ) (c : Copy) → IsCopy c → items_of (entries_from at (map namespace_entry (grouped c.items))) ≡ Some (regrouped c.items)
items-of-read at c is =
    let all = grouped c.items in
    let count : length (entries_from at (map namespace_entry all)) ≡ length all = entries-count at (map namespace_entry all) ∙ map-length namespace_entry all in
    let names = distinct_texts (map (λ (pair : List ℕ × List ℕ). pair.0) c.items) in
    let distinct : are_distinct (map (λ (space : Group). space.0) all) ≡ true = ap are_distinct (group-names c.items names) ∙ firsts-distinct (map (λ (pair : List ℕ × List ℕ). pair.0) c.items) in
    rw count
    (rw (at-most 0 (length all) (omega arith), at-most (length all) 16 is.few_namespaces)
    (rw (spaces-read at all is.namespaces (few-of-each all 512 is.few_items))
    (rw distinct
    (rw (at-most 0 (length (regrouped c.items)) (omega arith), at-most (length (regrouped c.items)) 512 is.few_items) refl))))

pub spaces-in-read : (at : ℕ) (c : Copy) → IsCopy c → pairs_in (record { at = at; bytes = items_map c.items }) ≡ Some (entries_from (pairs_begin at (map namespace_entry (grouped c.items))) (map namespace_entry (grouped c.items)))
unfolding items_map
spaces-in-read at c is = pairs-written 26 (map namespace_entry (grouped c.items)) at (group-pieces 25 (grouped c.items) (copy-groups c is)) (omega arith) (few-entries c is)

-- ---- a copy

four-read : (o : Option (List Part)) → option_map length o ≡ Some 4 → (parts : List Part) × ((o >>= within 4 4) ≡ Some parts)
four-read None e = absurd (cc)
four-read (Some parts) e = let count : length parts ≡ 4 = cc in (parts, rw count refl)

-- a copy by what is under its keys
copy-from : (p k u a s : Part) (n : ℕ) (b : Bool) (four : List Part) (entries : List (Part × Part)) (items : List (List ℕ × List ℕ)) →
    entry p keys.Key ≡ Ok (Some k) → entry p keys.Used ≡ Ok (Some u) → entry p keys.IssuerAuth ≡ Ok (Some a) → entry p keys.NameSpaces ≡ Ok (Some s) →
    uint_in k ≡ Some n → nat_lt n (2 ^ 32) ≡ true → boolean_in u ≡ Some b → (items_in a >>= within 4 4) ≡ Some four → pairs_in s ≡ Some entries → items_of entries ≡ Some items →
    copy p ≡ Some (record { key = n; used = b; issuer_auth = a.bytes; items = items })
copy-from p k u a s n b four entries items key used auth spaces number small truth parts pairs all =
    rw key (rw used (rw auth (rw spaces (rw number (rw small (rw truth (rw parts (rw pairs (rw all refl)))))))))

pub copy-read : (at : ℕ) (c : Copy) → IsCopy c → copy (record { at = at; bytes = copy_bytes c }) ≡ Some (copy_by_namespace c)
unfolding copy_bytes
copy-read at c is =
    let fields = copy_fields c in
    let are = copy-items c is in
    let key_small = is.key in
    let k = under at fields keys.Key (uint_bytes c.key) are (omega arith) refl in
    let u = under at fields keys.Used (boolean_bytes c.used) are (omega arith) refl in
    let a = under at fields keys.IssuerAuth c.issuer_auth are (omega arith) refl in
    let s = under at fields keys.NameSpaces (items_map c.items) are (omega arith) refl in
    let four = four-read (items_in (record { at = a.at; bytes = c.issuer_auth })) (is.four a.at) in
    let small : nat_lt c.key (2 ^ 32) ≡ true = grind (arith, nat_tests) in
    let entries = map namespace_entry (grouped c.items) in
    copy-from (record { at = at; bytes = named_map fields }) (record { at = k.at; bytes = uint_bytes c.key }) (record { at = u.at; bytes = boolean_bytes c.used })
    (record { at = a.at; bytes = c.issuer_auth }) (record { at = s.at; bytes = items_map c.items }) c.key c.used four.0 (entries_from (pairs_begin s.at entries) entries) (regrouped c.items)
    k.is u.is a.is s.is (uint-read k.at c.key (omega arith)) small (boolean-read u.at c.used) four.1 (spaces-in-read s.at c is) (items-of-read (pairs_begin s.at entries) c is)

pub copies-read : (at : ℕ) (copies : List Copy) → AllByRecursion IsCopy copies → each copy (parts_from at (map copy_bytes copies)) ≡ Some (map copy_by_namespace copies)
copies-read at [] are = refl
copies-read at (c ∷ copies) are =
    rw (copy-read at c are.0) (rw (copies-read (at + length (copy_bytes c)) copies are.1) refl)

-- ---- a document

parts-count : (at : ℕ) (parts : List (List ℕ)) → length (parts_from at parts) ≡ length parts
parts-count at [] = refl
parts-count at (part ∷ parts) = ap suc (parts-count (at + length part) parts)

pub document-read : (at : ℕ) (d : Document) → IsDocument d → document (record { at = at; bytes = document_bytes d }) ≡ Some (document_by_namespace d)
unfolding document_map
document-read at d is =
    let fields = fields_of d in
    let are = document-items d is in
    let bytes = map copy_bytes d.copies in
    let t = under at fields keys.DocType (text_bytes d.doc_type) are (omega arith) refl in
    let m = under at fields keys.Auth (uint_bytes (auth_number d.uses_mac)) are (omega arith) refl in
    let s = under at fields keys.Copies (array_bytes bytes) are (omega arith) refl in
    let begin = items_begin s.at bytes in
    let count : length (parts_from begin bytes) ≡ length d.copies = parts-count begin bytes ∙ map-length copy_bytes d.copies in
    rw t.is
    (rw (name-read t.at d.doc_type is.doc_type)
    (rw m.is
    (rw (uint-read m.at (auth_number d.uses_mac) (auth-small d.uses_mac))
    (rw (mac-read d.uses_mac)
    (rw s.is
    (rw (items-written 28 bytes s.at (copies-pieces d.copies is.copies) (omega arith) (few-copies d is))
    (rw count
    (rw (at-most 1 (length d.copies) is.some, at-most (length d.copies) 64 is.few)
    (rw (copies-read begin d.copies is.copies) refl)))))))))

pub documents-read : (at : ℕ) (documents : Store) → AllByRecursion IsDocument documents → each document (parts_from at (map document_bytes documents)) ≡ Some (by_namespace documents)
documents-read at [] are = refl
documents-read at (d ∷ documents) are =
    rw (document-read at d are.0) (rw (documents-read (at + length (document_bytes d)) documents are.1) refl)

-- ---- the file

same-types : (documents : Store) → map (λ (d : Document). d.doc_type) (by_namespace documents) ≡ map (λ (d : Document). d.doc_type) documents
same-types [] = refl
same-types (d ∷ documents) = ap (λ (x : List (List ℕ)). d.doc_type ∷ x) (same-types documents)

pub written-read : (documents : Store) → IsStore documents → store (store_bytes documents) ≡ Some (by_namespace documents)
unfolding store store_map
written-read documents is =
    let bytes = map document_bytes documents in
    let fields = store_fields bytes in
    let are = store-items documents is in
    let v = under 0 fields keys.Version (uint_bytes 1) are (omega arith) refl in
    let s = under 0 fields keys.Documents (array_bytes bytes) are (omega arith) refl in
    let begin = items_begin s.at bytes in
    let count : length (parts_from begin bytes) ≡ length documents = parts-count begin bytes ∙ map-length document_bytes documents in
    rw (cbor-piece (named_map fields) (piece-named fields are (omega arith)))
    (rw v.is
    (rw (uint-read v.at 1 (omega arith))
    (rw s.is
    (rw (items-written 30 bytes s.at (documents-pieces documents is.each) (omega arith) (few-documents documents is))
    (rw count
    (rw (at-most 0 (length documents) (omega arith), at-most (length documents) 16 is.few)
    (rw (documents-read begin documents is.each)
    (rw (same-types documents)
    (rw is.distinct refl)))))))))
