use Rattle.std.proofs.Common.{◌≡◌}
use Rattle.std.specs.List.{list_all}
use Rattle.cbor_view.specs.Items.{left}
use Rattle.cose_msgs.specs.Headers.{is_bytes}
use Rattle.cose_msgs.proofs.chain.are_bytes.Given as goal

-- the items that are left tell what all of them tell
abbrev pub invariant-loop-item : goal.invariant-loop-item
invariant-loop-item l =
    (goal.iterator-loop-item).can_next l.item-iterator ×
    (goal.iterator-loop-item).is_finite l.item-iterator ×
    (list_all is_bytes (left l.item-iterator) ≡ list_all is_bytes (left l.fn.items))
