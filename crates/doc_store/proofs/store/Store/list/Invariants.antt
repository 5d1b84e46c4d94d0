use Rattle.std.proofs.Common.{◌≡◌, ◌++◌, [], map, true}
use Rattle.std.specs.Prelude.{is_some, unwrap_or}
use Rattle.std.specs.List.{AllByRecursion}
use Rattle.cbor_view.specs.Items.{left}
use Rattle.cbor_view.specs.Parts.{AllLieIn, LiesIn}
use Rattle.mdoc_outside.specs.OptionSteps.{each}
use Rattle.doc_store.specs.Document.{document_of, document_part}
use Rattle.doc_store.specs.Store.{document}
use Rattle.doc_store.specs.StoreView.{documents_in, whole_file}
use Rattle.doc_store.proofs.store.Store.list.Given as goal

-- those in the list and those that are left are all, and stand in the file
abbrev pub invariant-loop-stored : goal.invariant-loop-stored
invariant-loop-stored l =
    (goal.iterator-loop-stored).can_next l.stored-iterator ×
    (goal.iterator-loop-stored).is_finite l.stored-iterator ×
    (is_some (each document (left l.stored-iterator)) ≡ true) ×
    (map document_of l.list.items ++ unwrap_or (each document (left l.stored-iterator)) [] ≡ documents_in l.self) ×
    AllByRecursion (λ d. LiesIn (whole_file l.self) (document_part d)) l.list.items ×
    AllLieIn (whole_file l.self) (left l.stored-iterator)
