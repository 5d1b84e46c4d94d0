use Rattle.std.proofs.Common.{◌≡◌, ◌∙◌}
use Rattle.issue_spec.specs.Spec.{fields}
use Rattle.issuing.proofs.ObjectLemmas.{once_of, texts_of}
use Rattle.issuing.specs.IssuedItems.{entries_of, items_of}
use Rattle.issuing.proofs.objects.write_object.Goals as goal

pub item_digests-requires : goal.item_digests-requires
item_digests-requires c = record {
  elements = rw c.elements.ensures c.args.spec.now.ranges.elements.each;
  salts = rw c.elements.ensures c.requires;
}

pub write_mso-requires-clause-texts : goal.write_mso-requires-clause-texts
write_mso-requires-clause-texts c =
    let same : c.as_slice.result.now ≡ entries_of (items_of (fields c.args.spec.now).elements c.args.salts.now) = c.as_slice.ensures ∙ (rw c.elements.ensures at c.in_ok-digests.ensures) in
    texts_of (fields c.args.spec.now) c.args.salts.now c.as_slice.result.now c.args.spec.now.ranges same

pub write_mso-requires-clause-once : goal.write_mso-requires-clause-once
write_mso-requires-clause-once c =
    let same : c.as_slice.result.now ≡ entries_of (items_of (fields c.args.spec.now).elements c.args.salts.now) = c.as_slice.ensures ∙ (rw c.elements.ensures at c.in_ok-digests.ensures) in
    once_of (fields c.args.spec.now) c.args.salts.now c.as_slice.result.now same
