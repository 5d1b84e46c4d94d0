use Rattle.std.proofs.Common.{◌≡◌}
use Rattle.doc_store.specs.CopyItems.{copy_items_left}
use Rattle.mso_digests.specs.MsoView.{object_seen}
use Rattle.verdict_model.specs.Checked.{items_check}
use Rattle.reader_checks.proofs.items.items_check.Given as goal

-- the items that are left tell what all of them tell
abbrev pub invariant-loop-ns : goal.invariant-loop-ns
invariant-loop-ns l =
    (goal.iterator-loop-ns).can_next l.ns-iterator ×
    (goal.iterator-loop-ns).is_finite l.ns-iterator ×
    (items_check (object_seen l.object) l.doc_type (copy_items_left l.ns-iterator) ≡ items_check (object_seen l.object) l.doc_type (copy_items_left l.fn.items))
