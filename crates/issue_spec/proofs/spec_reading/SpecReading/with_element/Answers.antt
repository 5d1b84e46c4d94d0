use Rattle.issue_spec.proofs.SpecElementLemmas.{one_more_is_copy}
use Rattle.issue_spec.proofs.SpecNamespaceLemmas.{listed_one_more}
use Rattle.issue_spec.proofs.spec_reading.SpecReading.with_element.Goals as goal

pub invariant_of-result : goal.invariant_of-result
invariant_of-result c = rw c.in_ok-push.ensures.items (record {
  listed = listed_one_more c.args.self.namespaces.items c.in_ok-namespaces.namespaces.items c.args.self.elements.items c.args.element c.as_slice.result.now
      c.args.self.listed c.as_slice.ensures c.in_ok-namespaces.ensures;
  copy = one_more_is_copy c.args.element c.args.self.headers c.args.self.elements.items c.args.self.copy c.requires.element c.requires.room;
})
