use Rattle.std.proofs.Common.{◌≡◌, map}
use Rattle.std.specs.Prelude.{find}
use Rattle.cbor_view.specs.Items.{left}
use Rattle.cbor_view.specs.Parts.{Part}
use Rattle.cbor_view.specs.View.{part}
use Rattle.doc_store.specs.HeldItem.{is_raw, raws_in}
use Rattle.doc_store.proofs.held_item.find_named.Given as goal

-- it is among the items that are left
abbrev pub invariant-loop-stored : goal.invariant-loop-stored
invariant-loop-stored l =
    (goal.iterator-loop-stored).can_next l.stored-iterator ×
    (goal.iterator-loop-stored).is_finite l.stored-iterator ×
    (find (is_raw l.name) (map (λ (p : Part). p.bytes) (left l.stored-iterator)) ≡ find (is_raw l.name) (raws_in (part l.list)))
