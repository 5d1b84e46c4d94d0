-- A map with numbers as keys that was written is read as its fields.
use Rattle.std.proofs.Common.{◌≡◌, ℕ, suc, ◌+◌, ◌<◌, ◌^◌, if◌then◌else◌, true, false, ℤ, pos, negsuc, List, [], ◌∷◌, ◌++◌, length, Some, None, Ok, refl, sym, ap, ◌∙◌, arith}
use Rattle.std.specs.Prelude.{flat_map, map, option_map}
use Rattle.std.specs.Ordering.{int_eq}
use Rattle.std.proofs.lemmas.List.{append_assoc, append-nil}
use Rattle.cbor_view.specs.Label.{Number, values_of, only_of, entries_or_none}
use Rattle.cbor_view.specs.Parts.{Part, tree_in, pairs_in}
use Rattle.cbor_view.specs.Reading.{tree_of}
use Rattle.cbor_view.specs.Shortest.{map_bytes, shortest_head}
use Rattle.cbor_view.specs.Tree.{Tree, Unsigned, Negative, int_of}
use Rattle.cbor_view.proofs.WrittenParts.{IsPiece, piece-shortest, ArePieces, entries_from, pairs_begin, pairs-written, piece-map, tree-shortest}
use Rattle.cbor_maps.specs.Reading.{map_in}
use Rattle.cbor_maps.specs.Writing.{map_head}
use Rattle.cbor_maps.specs.Labels.{labelled, LabelledFields, labelled_values, label_bytes, onto_labelled, labelled_map, spelled_labels, values_labelled, IsLabel}
use Rattle.cbor_maps.specs.WrittenReads.{AreLabelled, bytes_under}
use Rattle.cbor_maps.proofs.WrittenMaps.{both, only-bytes, one-value, no-value, part_bytes}

-- ---- the bytes of a map

onto-bytes : (bytes : List ℕ) (fields : LabelledFields) → onto_labelled bytes fields ≡ bytes ++ flat_map both (spelled_labels (labelled_values fields))
onto-bytes bytes [] = sym (append-nil bytes)
onto-bytes bytes ((number, None) ∷ fields) = onto-bytes bytes fields
onto-bytes bytes ((number, Some value) ∷ fields) =
    onto-bytes (bytes ++ label_bytes number ++ value) fields
    ∙ ap (λ (x : List ℕ). x ++ flat_map both (spelled_labels (labelled_values fields))) (append_assoc bytes (label_bytes number) value)
    ∙ append_assoc bytes (label_bytes number ++ value) (flat_map both (spelled_labels (labelled_values fields)))

labels-length : (fields : List (ℤ × List ℕ)) → length (spelled_labels fields) ≡ length fields
labels-length [] = refl
labels-length (field ∷ fields) = ap suc (labels-length fields)

pub labelled-map : (fields : LabelledFields) → labelled_map fields ≡ map_bytes (spelled_labels (labelled_values fields))
unfolding map_head
labelled-map fields =
    onto-bytes (shortest_head 5 (length (labelled_values fields))) fields
    ∙ ap (λ n. shortest_head 5 n ++ flat_map both (spelled_labels (labelled_values fields))) (sym (labels-length (labelled_values fields)))

-- ---- its keys are items

abbrev integer : ℤ → Tree
integer (pos n) = Unsigned n
integer (negsuc n) = Negative n

tree-label : (number : ℤ) → IsLabel number → tree_of (label_bytes number) ≡ integer number
unfolding label_bytes
tree-label (pos n) fits = tree-shortest (Unsigned n) fits (omega arith)
tree-label (negsuc n) fits = tree-shortest (Negative n) fits (omega arith)

pub piece-label : (d : ℕ) (number : ℤ) → IsLabel number → IsPiece d (label_bytes number)
unfolding label_bytes
piece-label d (pos n) fits = piece-shortest d (Unsigned n) fits (omega arith)
piece-label d (negsuc n) fits = piece-shortest d (Negative n) fits (omega arith)

pieces : (fields : List (ℤ × List ℕ)) → AreLabelled fields → ArePieces 31 (spelled_labels fields)
pieces [] are = tt
pieces (field ∷ fields) are = let v = are.1 in (piece-label 31 field.0 are.0, record { item = v.item; spelled = v.spells.spelled; nesting = v.nesting }, pieces fields are.2)

pub piece-of-fields : (d : ℕ) (fields : LabelledFields) → ArePieces d (spelled_labels (labelled_values fields)) → length (labelled_values fields) < 2 ^ 32 → IsPiece (d + 1) (labelled_map fields)
piece-of-fields d fields are few = rw (labelled-map fields) (piece-map d (spelled_labels (labelled_values fields)) are (rw (labels-length (labelled_values fields)) few))

pub piece-labelled : (fields : LabelledFields) → AreLabelled (labelled_values fields) → length (labelled_values fields) < 2 ^ 32 → IsPiece 32 (labelled_map fields)
piece-labelled fields are few = piece-of-fields 31 fields (pieces (labelled_values fields) are) few

-- ---- what is under its keys

number-of : (own number : ℤ) → (int_of (integer own)) ≡ Some own
number-of (pos n) number = refl
number-of (negsuc n) number = refl

values-labelled : (number : ℤ) (at : ℕ) (fields : List (ℤ × List ℕ)) → AreLabelled fields → map part_bytes (values_of tree_in (Number number) (entries_from at (spelled_labels fields))) ≡ values_labelled number fields
values-labelled number at [] are = refl
values-labelled number at (field ∷ fields) are =
    let others = values-labelled number (at + length (label_bytes field.0) + length field.1) fields are.2 in
    rw (tree-label field.0 are.0, number-of field.0 number)
    (elim (int_eq field.0 number) as (λ b. map part_bytes (if b then (record { at = at + length (label_bytes field.0); bytes = field.1 }) ∷ values_of tree_in (Number number) (entries_from (at + length (label_bytes field.0) + length field.1) (spelled_labels fields)) else values_of tree_in (Number number) (entries_from (at + length (label_bytes field.0) + length field.1) (spelled_labels fields))) ≡ (if b then field.1 ∷ values_labelled number fields else values_labelled number fields)) [
      | true ↦ ap (λ (x : List (List ℕ)). field.1 ∷ x) others
      | false ↦ others
    ])

labelled-pairs : (map : Part) (number : ℤ) (es : List (Part × Part)) → pairs_in map ≡ Some es → labelled map number ≡ only_of (values_of tree_in (Number number) es)
unfolding labelled
labelled-pairs map number es e = ap (λ o. only_of (values_of tree_in (Number number) (entries_or_none o))) e

pub pairs-labelled : (at : ℕ) (fields : LabelledFields) → AreLabelled (labelled_values fields) → length (labelled_values fields) < 2 ^ 32 → pairs_in (record { at = at; bytes = labelled_map fields }) ≡ Some (entries_from (pairs_begin at (spelled_labels (labelled_values fields))) (spelled_labels (labelled_values fields)))
pairs-labelled at fields are few =
    let es = spelled_labels (labelled_values fields) in
    rw (labelled-map fields) (pairs-written 31 es at (pieces (labelled_values fields) are) (omega arith) (rw (labels-length (labelled_values fields)) few))

pub map-labelled : (at : ℕ) (fields : LabelledFields) → AreLabelled (labelled_values fields) → length (labelled_values fields) < 2 ^ 32 → map_in (record { at = at; bytes = labelled_map fields }) ≡ Some (record { at = at; bytes = labelled_map fields })
map-labelled at fields are few = ap (option_map (λ (entries : List (Part × Part)). record { at = at; bytes = labelled_map fields })) (pairs-labelled at fields are few)

pub written-label : (at : ℕ) (fields : LabelledFields) (number : ℤ) → AreLabelled (labelled_values fields) → length (labelled_values fields) < 2 ^ 32 → bytes_under (labelled (record { at = at; bytes = labelled_map fields }) number) ≡ only_of (values_labelled number (labelled_values fields))
written-label at fields number are few =
    let es = spelled_labels (labelled_values fields) in
    let pairs = pairs-written 31 es at (pieces (labelled_values fields) are) (omega arith) (rw (labels-length (labelled_values fields)) few) in
    rw (labelled-map fields)
    (ap bytes_under (labelled-pairs (record { at = at; bytes = map_bytes es }) number (entries_from (pairs_begin at es) es) pairs)
    ∙ only-bytes (values_of tree_in (Number number) (entries_from (pairs_begin at es) es))
    ∙ ap only_of (values-labelled number (pairs_begin at es) (labelled_values fields) are))

-- the one value under a number, wherever it is
pub record IsLabelled (map : Part) (number : ℤ) (value : List ℕ) : Type 0 where
  pub at : ℕ
  pub is : labelled map number ≡ Ok (Some (record { at = at; bytes = value }))

pub under-label : (at : ℕ) (fields : LabelledFields) (number : ℤ) (value : List ℕ) → AreLabelled (labelled_values fields) → length (labelled_values fields) < 2 ^ 32 → only_of (values_labelled number (labelled_values fields)) ≡ Ok (Some value) → IsLabelled (record { at = at; bytes = labelled_map fields }) number value
under-label at fields number value are few one =
    let v = one-value (labelled (record { at = at; bytes = labelled_map fields }) number) value (written-label at fields number are few ∙ one) in
    record { at = v.0; is = v.1 }

pub no-label : (at : ℕ) (fields : LabelledFields) (number : ℤ) → AreLabelled (labelled_values fields) → length (labelled_values fields) < 2 ^ 32 → only_of (values_labelled number (labelled_values fields)) ≡ Ok None → labelled (record { at = at; bytes = labelled_map fields }) number ≡ Ok None
no-label at fields number are few none = no-value (labelled (record { at = at; bytes = labelled_map fields }) number) (written-label at fields number are few ∙ none)
