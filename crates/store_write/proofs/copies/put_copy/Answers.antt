use Rattle.store_write.proofs.Parts.{copy_joined}
use Rattle.store_write.specs.CopyView.{copy_seen}
use Rattle.store_write.proofs.copies.put_copy.Goals as goal

pub returns : goal.returns
returns c = copy_joined c.append_items.result c.args.build.now c.put_copy_head.new.build c.append_items.new.build (copy_seen c.args.copy.now) c.in_ok-put_copy_head.ensures c.append_items.ensures
