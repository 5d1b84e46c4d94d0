use Rattle.store_write.proofs.WrittenRead.{written-read}
use Rattle.store_write.proofs.laws.written_store_is_read.Goals as goal

pub returns : goal.returns
returns c = written-read
