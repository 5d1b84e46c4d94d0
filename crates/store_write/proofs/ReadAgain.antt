-- A store that was read can be written, and is read as the same.
use Rattle.std.proofs.Common.{◌≡◌, ◌<◌, ◌≤◌, ◌^◌, nat_le, ℕ, true, ◌&&◌, List, [], ◌∷◌, length, map, Option, Some, Ok, refl, sym, ap, ◌∙◌, subst, arith}
use Rattle.std.specs.Prelude.{filter, option_map, IsUtf8}
use Rattle.std.specs.List.{AllByRecursion}
use Rattle.std.proofs.lemmas.Bool.{and_parts}
use Rattle.std.proofs.lemmas.Bool.Decides.{nat_tests}
use Rattle.mdoc_outside.specs.OptionSteps.{◌>>=◌, each}
use Rattle.mdoc_outside.specs.declared.key_name.KeyName.TheVariants as keys
use Rattle.cbor_view.specs.Parts.{Part, tree_in, items_in, parts_at, text_in}
use Rattle.cbor_view.specs.Reading.{head_at, typed}
use Rattle.cbor_view.specs.Spelling as spelling
use Rattle.cbor_view.specs.Spelling.{Spelled, Spells}
use Rattle.cbor_view.specs.Tree.{Tree, Unsigned, Negative, Bytes, Text, Array, Map, Tag, Simple, Float, text_of}
use Rattle.cbor_view.specs.Parts.{array_after, body_of}
use Rattle.cbor_view.proofs.HeadReading.{typed-again}
use Rattle.cbor_view.proofs.PartialCounts.{parts-counted}
use Rattle.cbor_view.proofs.PartsInRow.{items-made}
use Rattle.cbor_view.proofs.ReadParts.{IsRead}
use Rattle.cbor_maps.specs.Reading.{any_in}
use Rattle.cbor_maps.specs.WrittenReads.{SpellsItem}
use Rattle.doc_response.specs.Answered.{grouped}
use Rattle.doc_response.specs.WrittenReads.{regrouped}
use Rattle.doc_response.proofs.Grouping.{filter-all, filter-fewer}
use Rattle.doc_store.specs.Store.{Copy, Document, Store, copy, document, name_in, named_item, namespace, store, within}
use Rattle.doc_store.proofs.EachPart.{each_length}
use Rattle.store_write.specs.Storable.{IsName, IsNamespace, IsCopy, IsDocument, IsStore, named, copy_by_namespace, document_by_namespace, by_namespace}
use Rattle.store_write.proofs.StoredFields.{each-all, copy-fields, document-fields, file-fields, item-fields, passed, space-fields, spaces-fields, step}
use Rattle.store_write.proofs.Grouped.{grouped-spread, has_items, regrouped-spread}
use Rattle.store_write.proofs.Nested.{field-deep, whole-file}
use Rattle.store_write.proofs.Nesting.{BothDeep, IsDeep, items-deep, pairs-deep, spelling-of}

abbrev Group : Type 0
Group = List ℕ × List (List ℕ)

-- ---- counts

at-most : (n most : ℕ) → nat_le n most ≡ true → n ≤ most
at-most n most e = grind (arith, nat_tests)

between : (least n most : ℕ) → nat_le least n && nat_le n most ≡ true → (least ≤ n) × (n ≤ most)
between least n most e = let both = and_parts (nat_le least n) (nat_le n most) e in (at-most least n both.0, at-most n most both.1)

-- ---- names

text-utf8 : (t : Tree) (bytes text : List ℕ) → Spelled t bytes → text_of t ≡ Some text → IsUtf8 text
text-utf8 (Text b) bytes text s e = let same : b ≡ text = cc in subst IsUtf8 same s.1
text-utf8 (Unsigned n) bytes text s e = absurd (cc)
text-utf8 (Negative n) bytes text s e = absurd (cc)
text-utf8 (Bytes b) bytes text s e = absurd (cc)
text-utf8 (Array ts) bytes text s e = absurd (cc)
text-utf8 (Map ps) bytes text s e = absurd (cc)
text-utf8 (Tag n t) bytes text s e = absurd (cc)
text-utf8 (Simple n) bytes text s e = absurd (cc)
text-utf8 (Float w n) bytes text s e = absurd (cc)

name-of : (p : Part) (name : List ℕ) → IsRead p → name_in p ≡ Some name → IsName name
name-of p name read e =
    let a = step (text_in p) _ name e in
    let last = passed (nat_le (length a.value) 128) a.value name a.after in
    subst IsName last.same (record { short = at-most (length a.value) 128 last.holds; utf8 = text-utf8 (tree_in p) p.bytes a.value (spelling-of p read).spelled a.is })

-- ---- items

spells : (d : ℕ) (p : Part) → IsDeep d p → SpellsItem d p.bytes
spells d p deep = record { item = tree_in p; spells = spelling-of p deep.read; nesting = deep.nesting }

abbrev part_bytes : Part → List ℕ
part_bytes p = p.bytes

all-spell : (d : ℕ) (parts : List Part) → AllByRecursion (IsDeep d) parts → AllByRecursion (SpellsItem d) (map part_bytes parts)
all-spell d [] deep = tt
all-spell d (p ∷ parts) deep = (spells d p deep.0, all-spell d parts deep.1)

all-named : (parts : List Part) → each named (map part_bytes parts) ≡ each named_item parts
all-named [] = refl
all-named (p ∷ parts) = ap (λ (rest : Option (List (List ℕ × List ℕ))). named_item p >>= λ item. rest >>= λ items. Some (item ∷ items)) (all-named parts)

named-bytes : (parts : List Part) (items : List (List ℕ × List ℕ)) → each named_item parts ≡ Some items → map (λ (item : List ℕ × List ℕ). item.1) items ≡ map part_bytes parts
named-bytes [] items e = let same : [] ≡ items = cc in rw (← same) refl
named-bytes (p ∷ parts) items e =
    let one = step (named_item p) _ items e in
    let rest = step (each named_item parts) _ items one.after in
    let same : one.value ∷ rest.value ≡ items = cc in
    let own = item-fields p one.value one.is in
    rw (← same) (ap (λ (x : List (List ℕ)). one.value.1 ∷ x) (named-bytes parts rest.value rest.is) ∙ ap (λ (x : List ℕ × List ℕ). x.1 ∷ map part_bytes parts) (sym own.is))

space-of : (entry : Part × Part) (space : Group) → BothDeep 26 entry → namespace entry ≡ Some space → IsNamespace space
space-of entry space deep e =
    let f = space-fields entry space e in
    let parts = items-deep 25 entry.1 f.parts deep.1 f.parts_are in
    let raws : map part_bytes f.parts ≡ space.1 = sym (named-bytes f.parts f.named f.named_are) ∙ f.raws in
    record {
      name = name-of entry.0 space.0 deep.0.read f.name;
      nested = subst (AllByRecursion (SpellsItem 25)) raws (all-spell 25 f.parts parts);
      items = f.named;
      items_are = ap (each named) (sym raws) ∙ all-named f.parts ∙ f.named_are;
      distinct = f.distinct;
    }

-- ---- copies

counted-at : (n at : ℕ) (bytes body : List ℕ) → head_at bytes ≡ Ok (typed 4 n, body) → option_map length (items_in (record { at = at; bytes = bytes })) ≡ Some n
counted-at n at bytes body head =
    let p : Part = record { at = at; bytes = bytes } in
    let is : items_in p ≡ Some (parts_at n (body_of p body)) = ap (array_after p) head in
    ap (option_map length) is ∙ ap (λ (m : ℕ). Some m) (parts-counted n (body_of p body))

four-of : (p : Part) (four : List Part) → IsRead p → (items_in p >>= within 4 4) ≡ Some four → (at : ℕ) → option_map length (items_in (record { at = at; bytes = p.bytes })) ≡ Some 4
four-of p four read e at =
    let a = step (items_in p) (within 4 4) four e in
    let last = passed (nat_le 4 (length a.value) && nat_le (length a.value) 4) a.value four a.after in
    let bounds = between 4 (length a.value) 4 last.holds in
    let count : length a.value ≡ 4 = omega (arith, bounds) in
    let s = spelling-of p read in
    let made = items-made (tree_in p) p a.value s.spelled s.nesting a.is in
    let head : head_at p.bytes ≡ Ok (typed 4 (length a.value), made.body.bytes) = ap head_at made.bytes ∙ typed-again (typed 4 (length a.value)) made.head made.body.bytes made.spelled in
    counted-at (length a.value) at p.bytes made.body.bytes head ∙ ap (λ (m : ℕ). Some m) count

all-fewer : (groups : List Group) (most : ℕ) → length groups ≤ most → length (filter has_items groups) ≤ most
all-fewer groups most few = omega (arith, few, filter-fewer has_items groups)

-- a copy, whose items stand by their namespaces
record IsOwn (c : Copy) : Type 0 where
  is : IsCopy c
  same : copy_by_namespace c ≡ c

copy-of : (p : Part) (c : Copy) → IsDeep 28 p → copy p ≡ Some c → IsOwn c
copy-of p c deep e =
    let f = copy-fields p c e in
    let under = field-deep 27 keys.IssuerAuth any_in p f.auth deep f.auth_is in
    let same_auth : under.item ≡ f.auth = cc in
    let auth : IsDeep 27 f.auth = subst (IsDeep 27) same_auth under.deep in
    let spaces = field-deep 27 keys.NameSpaces _ p f.spaces deep f.spaces_are in
    let entries = pairs-deep 26 spaces.item f.spaces spaces.deep spaces.is in
    let s = spaces-fields f.spaces c.items f.items in
    let all = each-all namespace (BothDeep 26) IsNamespace space-of f.spaces s.spaces entries s.spaces_are in
    let groups : grouped c.items ≡ filter has_items s.spaces = ap grouped (sym s.all) ∙ grouped-spread s.spaces s.distinct in
    let same : regrouped c.items ≡ c.items = ap regrouped (sym s.all) ∙ regrouped-spread s.spaces s.distinct ∙ s.all in
    let few = between 0 (length f.spaces) 16 s.count in
    let as_many : length s.spaces ≡ length f.spaces = each_length namespace f.spaces s.spaces s.spaces_are in
    let few_items = between 0 (length c.items) 512 s.few in
    let small : c.key < 2 ^ 32 = let test = f.small in grind (arith, nat_tests) in
    record {
      is = record {
        key = small;
        issuer_auth = subst (SpellsItem 27) f.auth_bytes (spells 27 f.auth auth);
        four = subst (λ (b : List ℕ). (at : ℕ) → option_map length (items_in (record { at = at; bytes = b })) ≡ Some 4) f.auth_bytes (four-of f.auth f.four auth.read f.four_are);
        namespaces = subst (AllByRecursion IsNamespace) (sym groups) (filter-all IsNamespace has_items s.spaces all);
        few_namespaces = rw groups (all-fewer s.spaces 16 (omega (arith, few, as_many)));
        few_items = rw same few_items.1;
      };
      same = ap (λ (items : List (List ℕ × List ℕ)). let d : Copy = record { key = c.key; used = c.used; issuer_auth = c.issuer_auth; items = items } in d) same;
    }

all-is : (copies : List Copy) → AllByRecursion IsOwn copies → AllByRecursion IsCopy copies
all-is [] all = tt
all-is (c ∷ copies) all = let one = all.0 in (one.is, all-is copies all.1)

all-same : (copies : List Copy) → AllByRecursion IsOwn copies → map copy_by_namespace copies ≡ copies
all-same [] all = refl
all-same (c ∷ copies) all =
    let one = all.0 in
    ap (λ (x : Copy). x ∷ map copy_by_namespace copies) one.same ∙ ap (λ (x : List Copy). c ∷ x) (all-same copies all.1)

-- ---- documents

record IsOwnDocument (d : Document) : Type 0 where
  is : IsDocument d
  same : document_by_namespace d ≡ d

document-of : (p : Part) (d : Document) → IsDeep 30 p → document p ≡ Some d → IsOwnDocument d
document-of p d deep e =
    let f = document-fields p d e in
    let name = field-deep 29 keys.DocType name_in p d.doc_type deep f.doc_type in
    let list = field-deep 29 keys.Copies items_in p f.parts deep f.parts_are in
    let all = each-all copy (IsDeep 28) IsOwn copy-of f.parts d.copies (items-deep 28 list.item f.parts list.deep list.is) f.copies in
    let count = between 1 (length f.parts) 64 f.count in
    let as_many = each_length copy f.parts d.copies f.copies in
    record {
      is = record {
        doc_type = name-of name.item d.doc_type (let deep_name = name.deep in deep_name.read) name.is;
        some = omega (arith, count, as_many);
        few = omega (arith, count, as_many);
        copies = all-is d.copies all;
      };
      same = ap (λ (copies : List Copy). let x : Document = record { doc_type = d.doc_type; uses_mac = d.uses_mac; copies = copies } in x) (all-same d.copies all);
    }

documents-are : (documents : Store) → AllByRecursion IsOwnDocument documents → AllByRecursion IsDocument documents
documents-are [] all = tt
documents-are (d ∷ documents) all = let one = all.0 in (one.is, documents-are documents all.1)

documents-same : (documents : Store) → AllByRecursion IsOwnDocument documents → by_namespace documents ≡ documents
documents-same [] all = refl
documents-same (d ∷ documents) all =
    let one = all.0 in
    ap (λ (x : Document). x ∷ by_namespace documents) one.same ∙ ap (λ (x : Store). d ∷ x) (documents-same documents all.1)

-- ---- the file

pub read-again : (bytes : List ℕ) (documents : Store) → spelling.AreBytes bytes → store bytes ≡ Some documents → IsStore documents × (by_namespace documents ≡ documents)
read-again bytes documents are e =
    let f = file-fields bytes documents e in
    let list = field-deep 31 keys.Documents items_in f.file f.parts (whole-file bytes f.file are f.file_is) f.parts_are in
    let all = each-all document (IsDeep 30) IsOwnDocument document-of f.parts documents (items-deep 30 list.item f.parts list.deep list.is) f.read in
    let count = between 0 (length f.parts) 16 f.count in
    let as_many = each_length document f.parts documents f.read in (
      record { few = omega (arith, count, as_many); distinct = f.distinct; each = documents-are documents all },
      documents-same documents all,
    )
