use Rattle.std.proofs.Common.{◌≡◌}
use Rattle.std.specs.Prelude.{flat_map}
use Rattle.cbor_view.specs.PartialItems.{partial_items_left}
use Rattle.doc_store.specs.Faults.{doc_types, document_faults, first_fault, repeats, earlier}
use Rattle.doc_store.specs.Names.{repeats_from}
use Rattle.doc_store.proofs.document_faults.of_documents.Given as goal

-- what was found, the names so far, and what is left
abbrev pub invariant-loop-document : goal.invariant-loop-document
invariant-loop-document l =
    (goal.iterator-loop-document).can_next l.document-iterator ×
    (goal.iterator-loop-document).is_finite l.document-iterator ×
    (earlier l.found (first_fault (flat_map document_faults (partial_items_left l.document-iterator))) ≡ first_fault (flat_map document_faults (partial_items_left l.fn.documents))) ×
    (repeats_from l.types (flat_map doc_types (partial_items_left l.document-iterator)) ≡ repeats (flat_map doc_types (partial_items_left l.fn.documents)))
