use Rattle.std.proofs.Common.{arith}
use Rattle.aes_gcm.proofs.BitsLemmas.{times_x-even, times_x-odd}
use Rattle.aes_gcm.proofs.galois.times_x.Goals as goal

pub returns-then-v-eq1 : goal.returns-then-v-eq1
returns-then-v-eq1 c = times_x-odd c.args.v (omega arith) (omega arith)

pub returns-else-v-eq1 : goal.returns-else-v-eq1
returns-else-v-eq1 c = times_x-even c.args.v (omega arith) (omega arith)
