use Rattle.std.proofs.Common.{◌≡◌, ◌++◌, filter_map}
use Rattle.cbor_view.specs.Pairs.{pairs_left}
use Rattle.verdict_model.specs.Documents.{named}
use Rattle.reader_checks.proofs.device_signed.put_names.Given as goal

-- the elements so far, and those of the entries that are left, are all
abbrev pub invariant-loop-key : goal.invariant-loop-key
invariant-loop-key l =
    (goal.iterator-loop-key).can_next l.key-iterator ×
    (goal.iterator-loop-key).is_finite l.key-iterator ×
    (l.elements.items ++ filter_map (named l.doc_type l.ns) (pairs_left l.key-iterator)
    ≡ l.fn.elements.items ++ filter_map (named l.doc_type l.ns) (pairs_left l.fn.names))
