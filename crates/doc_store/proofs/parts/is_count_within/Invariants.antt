use Rattle.std.proofs.Common.{◌≡◌, ◌+◌, ◌≤◌, length}
use Rattle.cbor_view.specs.Items.{left}
use Rattle.doc_store.proofs.parts.is_count_within.Given as goal

-- those counted and those left are all
abbrev pub invariant-loop-item : goal.invariant-loop-item
invariant-loop-item l =
    (goal.iterator-loop-item).can_next l._item-iterator ×
    (goal.iterator-loop-item).is_finite l._item-iterator ×
    (l.count + length (left l._item-iterator) ≡ length (left l.fn.items)) ×
    (l.count ≤ l.most)
