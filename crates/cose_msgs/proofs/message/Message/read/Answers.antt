use Rattle.std.proofs.Common.{rules}
use Rattle.cbor_view.specs.View.{part}
use Rattle.cose_msgs.proofs.MessageParts.{message-gives}
use Rattle.cose_msgs.proofs.message.Message.read.Goals as goal

pub returns-in-Some-clause-exact : goal.returns-in-Some-clause-exact
returns-in-Some-clause-exact c = search rules

pub returns-in-Some-clause-stands_in : goal.returns-in-Some-clause-stands_in
returns-in-Some-clause-stands_in c = message-gives c.args.tag (part c.args.item) c.of_items.result (returns-in-Some-clause-exact c)
