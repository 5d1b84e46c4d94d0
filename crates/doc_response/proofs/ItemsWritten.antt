-- Items that were written are read by their namespaces.
use Rattle.std.proofs.Common.{ℕ, ◌<◌, ◌^◌, List, [], ◌∷◌, length, map, ap, ◌∙◌, arith}
use Rattle.std.specs.List.{AllByRecursion, flat_map}
use Rattle.cbor_view.proofs.WrittenParts.{AllPieces, IsPiece, piece-map}
use Rattle.cbor_maps.specs.WrittenReads.{SpellsItem}
use Rattle.doc_response.specs.Answered.{distinct_texts, grouped, items_map, namespace_entry, of_namespace}
use Rattle.doc_response.specs.WrittenReads.{AreWritable, IsText, IsWritableItem, ReadsItems, spread_group}
use Rattle.doc_response.proofs.Grouping.{all-plain, firsts-all, grouped-fewer, map-all, map-length, of-all, of-fewer}
use Rattle.doc_response.proofs.GroupsRead.{AreGroups, group-pieces, map-read}

to-piece : (bytes : List ℕ) → SpellsItem 25 bytes → IsPiece 25 bytes
to-piece bytes s = record { item = s.item; spelled = s.spells.spelled; nesting = s.nesting }

to-pieces : (raws : List (List ℕ)) → AllByRecursion (SpellsItem 25) raws → AllPieces 25 raws
to-pieces [] all = tt
to-pieces (raw ∷ raws) all = (to-piece raw all.0, to-pieces raws all.1)

abbrev Pairs : Type 0
Pairs = List (List ℕ × List ℕ)

raws-all : (items : Pairs) → AllByRecursion IsWritableItem items → AllByRecursion (λ (item : List ℕ × List ℕ). SpellsItem 25 item.1) items
raws-all [] all = tt
raws-all (item ∷ items) all = (all.0.1, raws-all items all.1)

names-all : (items : Pairs) → AllByRecursion IsWritableItem items → AllByRecursion (λ (item : List ℕ × List ℕ). IsText item.0) items
names-all [] all = tt
names-all (item ∷ items) all = (all.0.0, names-all items all.1)

groups-of : (items : Pairs) → AreWritable items → (names : List (List ℕ)) → AllByRecursion IsText names → AreGroups 25 (map (of_namespace items) names)
groups-of items are [] all = tt
groups-of items are (name ∷ names) all =
    let few = are.few in
    let fewer = of-fewer name items in (
      record {
        text = all.0;
        items = to-pieces (of_namespace items name).1 (of-all (SpellsItem 25) name items (raws-all items are.each));
        few = omega (arith, few, fewer);
      },
      groups-of items are names all.1,
    )

pub item-groups : (items : Pairs) → AreWritable items → AreGroups 25 (grouped items)
item-groups items are =
    let names = distinct_texts (map (λ (item : List ℕ × List ℕ). item.0) items) in
    let texts = firsts-all IsText (map (λ (item : List ℕ × List ℕ). item.0) items) (map-all IsText (λ (item : List ℕ × List ℕ). item.0) items (names-all items are.each)) in
    groups-of items are names texts

pub few-groups : (items : Pairs) → length items < 2 ^ 32 → length (map namespace_entry (grouped items)) < 2 ^ 32
few-groups items few =
    let fewer = grouped-fewer items in
    let count = map-length namespace_entry (grouped items) in
    omega (arith, few, fewer, count)

pub items-read : (at : ℕ) (items : Pairs) → AreWritable items → ReadsItems (record { at = at; bytes = items_map items }) items
unfolding items_map
items-read at items are =
    let read = map-read at 25 (grouped items) (item-groups items are) (omega arith) (few-groups items are.few) in
    record {
      namespaces = read.spaces;
      is = read.is;
      same = all-plain read.spaces ∙ ap (flat_map spread_group) read.same;
    }

pub items-piece : (items : Pairs) → AreWritable items → IsPiece 27 (items_map items)
unfolding items_map
items-piece items are = piece-map 26 (map namespace_entry (grouped items)) (group-pieces 25 (grouped items) (item-groups items are)) (few-groups items are.few)
