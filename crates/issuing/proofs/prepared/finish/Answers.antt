use Rattle.issue_spec.specs.Spec.{fields}
use Rattle.issuing.specs.Copies.{finished_copy}
use Rattle.issuing.specs.IssuedItems.{items_of}
use Rattle.store_write.proofs.Parts.{copy_joined}
use Rattle.issuing.proofs.prepared.finish.Goals as goal

pub put_grouped_items-requires : goal.put_grouped_items-requires
put_grouped_items-requires c = record {
  elements = rw c.elements.ensures c.args.spec.now.ranges.elements.each;
  salts = rw c.elements.ensures c.requires;
}

pub returns : goal.returns
returns c =
    let copy = finished_copy c.args.signer.now c.args.made.now (items_of (fields c.args.spec.now).elements c.args.salts.now) c.args.prepared.now.payload c.args.signature.now in
    copy_joined c.put_grouped_items.result c.args.build.now c.put_copy_head.new.build c.put_grouped_items.new.build copy
    (rw (c.as_slice.ensures, c.in_ok-auth.ensures) at c.in_ok-put_copy_head.ensures) (rw c.elements.ensures at c.put_grouped_items.ensures)
