use Rattle.std.proofs.Common.{◌≡◌, ◌++◌, []}
use Rattle.doc_response.specs.ResponseItems.{items_left}
use Rattle.mso_digests.specs.MsoView.{object_seen}
use Rattle.verdict_model.specs.Elements.{elements_after}
use Rattle.reader_checks.specs.FirstCheck.{HasAccepted}
use Rattle.reader_checks.proofs.elements.element_verdicts.Given as goal

-- the verdicts so far, and those on the elements that are left, are all, and the accepted elements are those so far
abbrev pub invariant-loop-ns : goal.invariant-loop-ns
invariant-loop-ns l = record {
  next : (goal.iterator-loop-ns).can_next l.ns-iterator;
  finite : (goal.iterator-loop-ns).is_finite l.ns-iterator;
  verdicts : l.verdicts.items ++ elements_after l.request (object_seen l.object) l.verdicts.items (items_left l.ns-iterator)
      ≡ elements_after l.request (object_seen l.object) [] (items_left l.fn.items);
  accepted : HasAccepted l.accepted l.verdicts.items;
}
