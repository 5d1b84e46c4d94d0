-- The kinds of partial items.
use Rattle.std.proofs.Common.{◌≡◌, refl}
use Rattle.std.specs.Prelude.{◌&&◌, is_none}
use Rattle.cbor_view.specs.PartialItem.{PartialItem, whole, in_array, in_map, in_value, in_tag, broken, whole_in, partial_items, partial_pairs, partial_tag}
use Rattle.doc_store.specs.Faults.{is_broken}

-- an item is broken where it is none of these
pub is_broken_by : (g : PartialItem) → is_broken g ≡ (is_none (whole_in g) && (is_none (partial_items g) && (is_none (partial_pairs g) && is_none (partial_tag g))))
is_broken_by (whole p) = refl
is_broken_by (in_array at n items next) = refl
is_broken_by (in_map at pairs key) = refl
is_broken_by (in_value at pairs key value) = refl
is_broken_by (in_tag at n inner) = refl
is_broken_by (broken f) = refl
