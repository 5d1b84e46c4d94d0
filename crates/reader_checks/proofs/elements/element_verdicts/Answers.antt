use Rattle.std.proofs.Common.{ℕ, List, refl, ap, ◌∙◌}
use Rattle.cbor_view.specs.View.{part}
use Rattle.doc_response.specs.ResponseItems.{items_left}
use Rattle.mso_digests.specs.MsoView.{object_seen}
use Rattle.verdict_model.specs.Elements.{is_requested}
use Rattle.reader_checks.proofs.DigestLength.{indexed_length}
use Rattle.reader_checks.proofs.VerdictSteps.{one_accepted, one_judged}
use Rattle.reader_checks.proofs.elements.element_verdicts.Goals as goal

pub element_verdict-requires : goal.element_verdict-requires
element_verdict-requires c = indexed_length c.in_ok-digests.digests (object_seen c.args.object.now).digests c.in_ok-digests.ensures c.requires

pub loop-ns-init : goal.loop-ns-init
loop-ns-init c = record {
  next = tt;
  finite = tt;
  verdicts = rw (c.new-verdicts.ensures.items, c.into_iter-ns-iterator.ensures.into_iter_gives) refl;
  accepted = λ ns name. rw c.new-verdicts.ensures.items (c.new-accepted.ensures ns name);
}

pub loop-ns-preserved : goal.loop-ns-preserved
loop-ns-preserved c = record {
  next = tt;
  finite = tt;
  verdicts = one_judged c.args.request.now (object_seen c.args.object.now) c.loop-ns.verdicts.items c.in_ok-digests.digests c.in_ok-requested.requested c.loop-ns.accepted
      c.in_ok-digests.ensures (λ ns name. c.in_ok-requested.ensures ns name ∙ ap (λ (doc_type : List ℕ). is_requested c.args.request.now doc_type ns name) c.doc_type.ensures) c.loop-ns.invariant.accepted
      (c.in-Some.ns.now, part c.in-Some.element) (items_left c.loop-ns.ns-iterator) (items_left c.next.new.self) c.in_ok-verdict.verdict c.push.new.self.items _
      c.in-Some.ensures.steps c.in_ok-verdict.ensures.verdict c.in_ok-push.ensures.items c.loop-ns.invariant.verdicts;
  accepted = one_accepted c.loop-ns.accepted c.element_verdict.new.accepted c.loop-ns.verdicts.items c.push.new.self.items c.in_ok-verdict.verdict
      c.loop-ns.invariant.accepted c.in_ok-verdict.ensures.accepted c.in_ok-push.ensures.items;
}
