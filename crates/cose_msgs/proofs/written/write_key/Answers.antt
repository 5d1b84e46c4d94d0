use Rattle.std.proofs.Common.{rules, sym, subst, arith, List, ℕ}
use Rattle.cose_msgs.specs.Key.{key_of}
use Rattle.cose_msgs.specs.Written.{key_bytes, IsReadAs}
use Rattle.cose_msgs.proofs.WrittenKeys.{key-read}
use Rattle.cose_msgs.proofs.written.write_key.Goals as goal

pub returns-clause-written : goal.returns-clause-written
unfolding key_bytes
returns-clause-written c = search rules

pub returns-clause-read : goal.returns-clause-read
returns-clause-read c = subst (λ (b : List ℕ). IsReadAs key_of b c.args.point.now) (sym (returns-clause-written c)) (key-read c.args.point.now (record { x = omega arith; y = omega arith }))
