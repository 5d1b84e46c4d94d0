use Rattle.std.proofs.Common.{sym, ◌∙◌}
use Rattle.wallet_answer.proofs.FoundItems.{one_added, one_there}
use Rattle.wallet_answer.proofs.held_items.put_named.Goals as goal

pub returns-in_ok-insert : goal.returns-in_ok-insert
returns-in_ok-insert c = one_added c.args.items.now c.insert.new.self c.args.name.now c.args.raw (sym c.contains_key.ensures ∙ c.if-not-contains_key.true) c.in_ok-insert.ensures.updates

pub returns-else-not-contains_key : goal.returns-else-not-contains_key
returns-else-not-contains_key c = one_there c.args.items.now c.args.name.now c.args.raw.now (sym c.contains_key.ensures ∙ c.if-not-contains_key.false)
