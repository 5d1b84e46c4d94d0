use Rattle.std.proofs.Common.{◌≡◌, ◌+◌, [], length, true}
use Rattle.std.specs.Prelude.{is_some, unwrap_or}
use Rattle.std.specs.List.{position_or_len}
use Rattle.cbor_view.specs.Items.{left}
use Rattle.mdoc_outside.specs.OptionSteps.{each}
use Rattle.doc_store.specs.Document.{document_of}
use Rattle.doc_store.specs.Held.{is_unused}
use Rattle.doc_store.specs.Store.{copy}
use Rattle.doc_store.proofs.document.Document.chosen.Given as goal

-- the copies that were ignored are used: the first unused one is among those that are left
abbrev pub invariant-loop-stored : goal.invariant-loop-stored
invariant-loop-stored l =
    (goal.iterator-loop-stored).can_next l.stored-iterator ×
    (goal.iterator-loop-stored).is_finite l.stored-iterator ×
    (is_some (each copy (left l.stored-iterator)) ≡ true) ×
    (l.place + length (unwrap_or (each copy (left l.stored-iterator)) []) ≡ length (document_of l.self).copies) ×
    (l.place + position_or_len is_unused (unwrap_or (each copy (left l.stored-iterator)) []) ≡ position_or_len is_unused (document_of l.self).copies)
