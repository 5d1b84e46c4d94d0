use Rattle.std.proofs.Common.{◌≡◌, [], true}
use Rattle.std.specs.Prelude.{is_some, unwrap_or}
use Rattle.cbor_view.specs.Items.{left}
use Rattle.cbor_view.specs.Parts.{AllLieIn}
use Rattle.mdoc_outside.specs.OptionSteps.{each}
use Rattle.doc_store.specs.Held.{document_found}
use Rattle.doc_store.specs.Store.{document}
use Rattle.doc_store.specs.StoreView.{documents_in, whole_file}
use Rattle.doc_store.proofs.store.Store.find.Given as goal

-- it is among the documents that are left, which stand in the file
abbrev pub invariant-loop-stored : goal.invariant-loop-stored
invariant-loop-stored l =
    (goal.iterator-loop-stored).can_next l.stored-iterator ×
    (goal.iterator-loop-stored).is_finite l.stored-iterator ×
    (is_some (each document (left l.stored-iterator)) ≡ true) ×
    (document_found (unwrap_or (each document (left l.stored-iterator)) []) l.doc_type ≡ document_found (documents_in l.self) l.doc_type) ×
    AllLieIn (whole_file l.self) (left l.stored-iterator)
