-- The parts of an item as trees, wherever the item stands.
use Rattle.std.proofs.Common.{◌≡◌, ℕ, zero, suc, ◌+◌, List, [], ◌∷◌, drop, map, true, false, if◌then◌else◌, Option, Some, option_map, Result, Ok, Err, refl, sym, ap, ◌∙◌, subst}
use Rattle.cbor_view.specs.declared.doubled.Doubled.{Doubled}
use Rattle.cbor_view.specs.Label.{Label, is_label, values_of, only_of, entries_or_none, entry_of}
use Rattle.cbor_view.specs.Tree.{Tree, Array, Map, listed, listed_pairs, items_of, pairs_of}
use Rattle.cbor_view.specs.declared.heads.Head.{Head}
use Rattle.cbor_view.specs.declared.heads.Head.TheVariants as heads
use Rattle.cbor_view.specs.Opening.{Opens}
use Rattle.cbor_view.specs.Reading.{size}
use Rattle.cbor_view.specs.Parts.{Part, tree_in, both_trees, trees_of, pairs_from, first_part, after_first, parts_at, entries_at, pairs_in, entry_in}

listed-trees_of : (ps : List Part) → listed (trees_of ps) ≡ map tree_in ps
listed-trees_of [] = refl
listed-trees_of (p ∷ ps) = ap (λ ts. tree_in p ∷ ts) (listed-trees_of ps)

listed-pairs_from : (es : List (Part × Part)) → listed_pairs (pairs_from es) ≡ map both_trees es
listed-pairs_from [] = refl
listed-pairs_from (e ∷ es) = ap (λ ts. both_trees e ∷ ts) (listed-pairs_from es)

-- the place doesn't matter to the trees
trees-moved : (n at to : ℕ) (bytes : List ℕ) → map tree_in (parts_at n (record { at = at; bytes = bytes })) ≡ map tree_in (parts_at n (record { at = to; bytes = bytes }))
unfolding parts_at
trees-moved zero at to bytes = refl
trees-moved (suc n) at to bytes = ap (λ ts. tree_in (first_part (record { at = at; bytes = bytes })) ∷ ts) (trees-moved n (at + size bytes) (to + size bytes) (drop (size bytes) bytes))

pairs-moved : (n at to : ℕ) (bytes : List ℕ) → map both_trees (entries_at n (record { at = at; bytes = bytes })) ≡ map both_trees (entries_at n (record { at = to; bytes = bytes }))
unfolding entries_at
pairs-moved zero at to bytes = refl
pairs-moved (suc n) at to bytes =
    let p : Part = record { at = at; bytes = bytes } in
    let rest = drop (size bytes) bytes in
    ap (λ ts. both_trees (first_part p, first_part (after_first p)) ∷ ts) (pairs-moved n (at + size bytes + size rest) (to + size bytes + size rest) (drop (size rest) rest))

array-items : (t : Tree) (n at : ℕ) (bytes : List ℕ) → t ≡ Array (trees_of (parts_at n (record { at = 0; bytes = bytes }))) → Some (map tree_in (parts_at n (record { at = at; bytes = bytes }))) ≡ items_of t
array-items t n at bytes e = ap (λ ts. Some ts) (trees-moved n at 0 bytes ∙ sym (listed-trees_of (parts_at n (record { at = 0; bytes = bytes })))) ∙ sym (ap items_of e)

map-pairs : (t : Tree) (n at : ℕ) (bytes : List ℕ) → t ≡ Map (pairs_from (entries_at n (record { at = 0; bytes = bytes }))) → Some (map both_trees (entries_at n (record { at = at; bytes = bytes }))) ≡ pairs_of t
map-pairs t n at bytes e = ap (λ ts. Some ts) (pairs-moved n at 0 bytes ∙ sym (listed-pairs_from (entries_at n (record { at = 0; bytes = bytes })))) ∙ sym (ap pairs_of e)

pub opened-items : (h : Head) (body : List ℕ) (t : Tree) (n at : ℕ) → h ≡ heads.Array n → Opens h body t → Some (map tree_in (parts_at n (record { at = at; bytes = body }))) ≡ items_of t
opened-items h body t n at is o = let k : Opens (heads.Array n) body t = subst (λ x. Opens x body t) is o in array-items t n at body k.0

pub opened-pairs : (h : Head) (body : List ℕ) (t : Tree) (n at : ℕ) → h ≡ heads.Map n → Opens h body t → Some (map both_trees (entries_at n (record { at = at; bytes = body }))) ≡ pairs_of t
opened-pairs h body t n at is o = let k : Opens (heads.Map n) body t = subst (λ x. Opens x body t) is o in map-pairs t n at body k.0

-- ---- what stands under a key, as a tree

abbrev as_trees : Result (Option Part) Doubled → Result (Option Tree) Doubled
as_trees (Ok o) = Ok (option_map tree_in o)
as_trees (Err e) = Err e

values-trees : (label : Label) (es : List (Part × Part)) → values_of (λ k. k) label (map both_trees es) ≡ map tree_in (values_of tree_in label es)
values-trees label [] = refl
values-trees label (e ∷ es) = elim (is_label label (tree_in e.0)) as (λ b. (if b then tree_in e.1 ∷ values_of (λ k. k) label (map both_trees es) else values_of (λ k. k) label (map both_trees es)) ≡ map tree_in (if b then e.1 ∷ values_of tree_in label es else values_of tree_in label es)) [ true ↦ ap (λ ts. tree_in e.1 ∷ ts) (values-trees label es) | false ↦ values-trees label es ]

only-trees : (ps : List Part) → only_of (map tree_in ps) ≡ as_trees (only_of ps)
only-trees [] = refl
only-trees (p ∷ []) = refl
only-trees (p ∷ (q ∷ ps)) = refl

entry-trees : (label : Label) (t : Tree) (p : Part) (es : List (Part × Part)) → Some (map both_trees es) ≡ pairs_of t → Some es ≡ pairs_in p → entry_of label t ≡ as_trees (entry_in label p)
entry-trees label t p es exact at_offset =
    ap (λ o. only_of (values_of (λ k. k) label (entries_or_none o))) (sym exact)
    ∙ ap only_of (values-trees label es)
    ∙ only-trees (values_of tree_in label es)
    ∙ ap (λ o. as_trees (only_of (values_of tree_in label (entries_or_none o)))) at_offset

pub entry-doubled : (label : Label) (t : Tree) (p : Part) (es : List (Part × Part)) → Some (map both_trees es) ≡ pairs_of t → Some es ≡ pairs_in p → entry_in label p ≡ Err (record {}) → entry_of label t ≡ Err (record {})
entry-doubled label t p es exact at_offset e = entry-trees label t p es exact at_offset ∙ ap as_trees e

pub entry-found : (label : Label) (t : Tree) (p : Part) (es : List (Part × Part)) (found : Option Part) → Some (map both_trees es) ≡ pairs_of t → Some es ≡ pairs_in p → entry_in label p ≡ Ok found → entry_of label t ≡ Ok (option_map tree_in found)
entry-found label t p es found exact at_offset e = entry-trees label t p es exact at_offset ∙ ap as_trees e
