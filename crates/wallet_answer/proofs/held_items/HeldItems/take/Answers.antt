use Rattle.std.proofs.Common.{None}
use Rattle.wallet_answer.proofs.FoundItems.{one_changed}
use Rattle.wallet_answer.specs.Found.{named_in}
use Rattle.wallet_answer.proofs.held_items.HeldItems.take.Goals as goal

pub returns-in-Some-clause-left : goal.returns-in-Some-clause-left
returns-in-Some-clause-left c = λ space name. one_changed (λ found. named_in found name) c.args.self.now.namespaces c.remove.new.self c.args.ns.now None c.remove.ensures.updates space
