use Rattle.std.proofs.Common.{List, ℕ, subst}
use Rattle.cose_msgs.specs.Key.{key_of}
use Rattle.cose_msgs.specs.Written.{IsReadAs}
use Rattle.engagement.proofs.written.write_security.Goals as goal

pub returns-clause-read : goal.returns-clause-read
returns-clause-read c = subst (λ (b : List ℕ). IsReadAs key_of b c.args.point.now) c.in_ok-key.ensures.written c.in_ok-key.ensures.read
