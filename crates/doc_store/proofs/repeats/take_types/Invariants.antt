use Rattle.std.proofs.Common.{◌≡◌, ℕ, List, ◌++◌}
use Rattle.std.specs.Prelude.{filter_map}
use Rattle.cbor_view.specs.PartialItem.{PartialItem}
use Rattle.cbor_view.specs.PartialPairs.{partial_pairs_left}
use Rattle.mdoc_outside.specs.declared.key_name.KeyName.TheVariants as keys
use Rattle.doc_store.specs.Faults.{values_of, with_text}
use Rattle.doc_store.specs.Names.{repeats_from}
use Rattle.doc_store.proofs.repeats.take_types.Given as goal

-- the pairs that are left decide, by the types so far
abbrev pub invariant-loop-key : goal.invariant-loop-key
invariant-loop-key l =
    (goal.iterator-loop-key).can_next l.key-iterator ×
    (goal.iterator-loop-key).is_finite l.key-iterator ×
    ((others : List (List ℕ × PartialItem)) →
    repeats_from l.types (filter_map with_text (values_of keys.DocType (partial_pairs_left l.key-iterator)) ++ others)
    ≡ repeats_from l.fn.types (filter_map with_text (values_of keys.DocType (partial_pairs_left l.fn.entries)) ++ others))
