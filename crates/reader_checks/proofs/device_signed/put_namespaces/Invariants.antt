use Rattle.std.proofs.Common.{◌≡◌, ◌++◌}
use Rattle.std.specs.List.{flat_map}
use Rattle.cbor_view.specs.Pairs.{pairs_left}
use Rattle.cbor_view.specs.Parts.{Part, text_in}
use Rattle.verdict_model.specs.Documents.{named_under}
use Rattle.reader_checks.proofs.device_signed.put_namespaces.Given as goal

-- the elements so far, and those of the namespaces that are left, are all
abbrev pub invariant-loop-key : goal.invariant-loop-key
invariant-loop-key l =
    (goal.iterator-loop-key).can_next l.key-iterator ×
    (goal.iterator-loop-key).is_finite l.key-iterator ×
    (l.elements.items ++ flat_map (λ (entry : Part × Part). named_under l.doc_type (text_in entry.0) entry.1) (pairs_left l.key-iterator)
    ≡ l.fn.elements.items ++ flat_map (λ (entry : Part × Part). named_under l.doc_type (text_in entry.0) entry.1) (pairs_left l.fn.namespaces))
