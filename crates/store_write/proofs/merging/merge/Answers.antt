use Rattle.std.proofs.Common.{arith}
use Rattle.store_write.specs.Merged.{merged_files}
use Rattle.store_write.proofs.MergedStore.{answer-read, files-read}
use Rattle.store_write.proofs.merging.merge.Goals as goal

pub returns-clause-read : goal.returns-clause-read
returns-clause-read c =
    answer-read (merged_files c.args.own.now c.args.received.now) c.merge_stores.result (rw (c.in_ok-own.ensures, c.in_ok-received.ensures) at c.merge_stores.ensures)
    (files-read c.args.own.now c.args.received.now (λ i. omega (arith, c.type_inv.own i)) (λ i. omega (arith, c.type_inv.received i)) c.requires.store c.requires.received)
