-- A copy that the plan of issuing comes to is within the limits of a store.
use Rattle.std.proofs.Common.{◌≡◌, ◌<◌, ◌≤◌, ◌^◌, ℕ, pos, true, List, [], ◌∷◌, length, map, Some, sym, ap, subst, ◌∙◌, arith}
use Rattle.std.specs.Prelude.{option_map}
use Rattle.std.specs.List.{AllByRecursion}
use Rattle.cbor_maps.proofs.LabelledMaps.{piece-label, piece-of-fields}
use Rattle.cbor_maps.specs.Labels.{label_bytes}
use Rattle.cbor_maps.specs.Writing.{map_head}
use Rattle.cbor_maps.specs.WrittenReads.{SpellsItem}
use Rattle.cbor_view.proofs.WrittenParts.{AllPieces, IsPiece, items-written, piece-array, piece-shortest}
use Rattle.cbor_view.specs.Parts.{items_in}
use Rattle.cbor_view.specs.Shortest.{bytes_bytes}
use Rattle.cbor_view.specs.Tree.{Bytes}
use Rattle.cose_msgs.specs.Written.{chain_map, es256, sign1_bytes}
use Rattle.doc_response.proofs.Grouping.{firsts-all, map-all, map-length, of-all}
use Rattle.doc_response.specs.Answered.{distinct_texts, grouped, of_namespace}
use Rattle.doc_response.specs.WrittenReads.{regrouped}
use Rattle.doc_store.specs.Fields as fields
use Rattle.doc_store.specs.Store.{Copy}
use Rattle.issuing.specs.IssuedItems.{raw_items}
use Rattle.issuing.specs.declared.issued_item.IssuedItem.{IssuedItem}
use Rattle.issue_spec.specs.SpecFacts as spec
use Rattle.issue_spec.specs.declared.spec_element.SpecElement.{SpecElement}
use Rattle.store_write.specs.Storable.{IsCopy, IsName, IsNamespace}
use Rattle.package_laws.proofs.ItemsOfSpec.{AreItemsOf, pair_ns, raw_items-length, raw_items-names, raw_items-namespaces, raw_items-nested}
use Rattle.package_laws.proofs.SpecValueItems.{item-of}
use Rattle.package_laws.proofs.Namespaces.{distinct-names, named-in, namespaces-are-firsts, regrouped-fewer}

-- ---- the issuer's signature

es256-short : length es256 < 2 ^ 32
unfolding es256 map_head label_bytes
es256-short = omega arith

string-piece : (d : ℕ) (b : List ℕ) → length b < 2 ^ 32 → IsPiece d (bytes_bytes b)
string-piece d b short = piece-shortest d (Bytes b) short (omega arith)

chain-piece : (chain : List ℕ) → length chain < 2 ^ 32 → IsPiece 26 (chain_map (Some chain))
unfolding chain_map
chain-piece chain short =
    piece-of-fields 25 ((pos 33, Some (bytes_bytes chain)) ∷ []) (piece-label 25 (pos 33) (omega arith), string-piece 25 chain short, tt) (omega arith)

abbrev four_parts : List ℕ → List ℕ → List ℕ → List (List ℕ)
four_parts chain payload signature = bytes_bytes es256 ∷ chain_map (Some chain) ∷ bytes_bytes payload ∷ bytes_bytes signature ∷ []

four-pieces : (chain payload signature : List ℕ) → length chain < 2 ^ 32 → length payload < 2 ^ 32 → length signature ≡ 64 → AllPieces 26 (four_parts chain payload signature)
four-pieces chain payload signature chain_short payload_short size =
    (string-piece 26 es256 es256-short, (chain-piece chain chain_short, (string-piece 26 payload payload_short, (string-piece 26 signature (omega (arith, size)), tt))))

pub signature-spelled : (chain payload signature : List ℕ) → length chain < 2 ^ 32 → length payload < 2 ^ 32 → length signature ≡ 64 → SpellsItem 27 (sign1_bytes (Some chain) (Some payload) signature)
unfolding sign1_bytes
signature-spelled chain payload signature chain_short payload_short size =
    item-of 27 27 (sign1_bytes (Some chain) (Some payload) signature) (omega arith) (omega arith)
    (piece-array 26 (four_parts chain payload signature) (four-pieces chain payload signature chain_short payload_short size) (omega arith))

pub signature-of-four : (chain payload signature : List ℕ) → length chain < 2 ^ 32 → length payload < 2 ^ 32 → length signature ≡ 64
    → (at : ℕ) → option_map length (items_in (record { at = at; bytes = sign1_bytes (Some chain) (Some payload) signature })) ≡ Some 4
unfolding sign1_bytes
signature-of-four chain payload signature chain_short payload_short size at =
    ap (option_map length) (items-written 26 (four_parts chain payload signature) at (four-pieces chain payload signature chain_short payload_short size) (omega arith) (omega arith))

-- ---- namespaces

pub weaker : {A : Type 0} (P Q : A → Type 0) → ((x : A) → P x → Q x) → (xs : List A) → AllByRecursion P xs → AllByRecursion Q xs
weaker P Q known [] all = tt
weaker P Q known (x ∷ xs) all = (known x all.0, weaker P Q known xs all.1)

namespace-of : (es : List SpecElement) (items : List IssuedItem) → AreItemsOf es items → spec.are_distinct es ≡ true → (ns : List ℕ) → IsName ns → IsNamespace (of_namespace (raw_items items) ns)
namespace-of es items all distinct ns is =
    let found = named-in ns es items all in
    record {
      name = is;
      nested = of-all (SpellsItem 25) ns (raw_items items) (raw_items-nested es items all);
      items = found.items;
      items_are = found.are;
      distinct = ap fields.are_distinct found.names_are ∙ distinct-names ns es distinct;
    }

namespaces-of : (es : List SpecElement) (items : List IssuedItem) → AreItemsOf es items → spec.are_distinct es ≡ true → AllByRecursion IsNamespace (grouped (raw_items items))
namespaces-of es items all distinct =
    let names = map pair_ns (raw_items items) in
    map-all IsNamespace (of_namespace (raw_items items)) (distinct_texts names)
    (weaker IsName (λ (ns : List ℕ). IsNamespace (of_namespace (raw_items items) ns)) (namespace-of es items all distinct) (distinct_texts names)
    (firsts-all IsName names (raw_items-names es items all)))

-- ---- a copy

pub copy-stored : (c : Copy) (items : List IssuedItem) (es : List SpecElement) → spec.IsCopy es → AreItemsOf es items → c.items ≡ raw_items items → c.key < 2 ^ 32
    → SpellsItem 27 c.issuer_auth → ((at : ℕ) → option_map length (items_in (record { at = at; bytes = c.issuer_auth })) ≡ Some 4) → IsCopy c
copy-stored c items es is all same key auth four =
    let few : length (raw_items items) ≤ 512 = let most = is.few in omega (arith, most, raw_items-length es items all) in
    let groups : length (grouped (raw_items items)) ≤ 16 =
    let most = is.namespaces in
    let one = map-length (of_namespace (raw_items items)) (distinct_texts (map pair_ns (raw_items items))) in
    let two = ap (λ (x : List (List ℕ)). length (distinct_texts x)) (raw_items-namespaces es items all) in
    let three = ap (λ (x : List (List ℕ)). length x) (namespaces-are-firsts es) in
    omega (arith, most, one, two, three) in
    record {
      key = key;
      issuer_auth = auth;
      four = four;
      namespaces = subst (λ (x : List (List ℕ × List ℕ)). AllByRecursion IsNamespace (grouped x)) (sym same) (namespaces-of es items all is.distinct);
      few_namespaces = subst (λ (x : List (List ℕ × List ℕ)). length (grouped x) ≤ 16) (sym same) groups;
      few_items = subst (λ (x : List (List ℕ × List ℕ)). length (regrouped x) ≤ 512) (sym same) (omega (arith, few, regrouped-fewer (raw_items items)));
    }
