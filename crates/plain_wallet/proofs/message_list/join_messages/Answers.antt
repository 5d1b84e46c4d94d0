use Rattle.std.proofs.Common.{◌<◌, ◌∙◌, length, arith}
use Rattle.std.proofs.lemmas.List.{get_or_default}
use Rattle.plain_wallet.proofs.MessageJoiner.{nothing_yet, one_more}
use Rattle.plain_wallet.proofs.message_list.join_messages.Goals as goal

pub loop-fragment-init : goal.loop-fragment-init
loop-fragment-init c = rw c.new.ensures.items (nothing_yet c.new-message_joiner.result c.new-message_joiner.ensures)

pub loop-fragment-preserved : goal.loop-fragment-preserved
loop-fragment-preserved c =
    let within : c.loop-fragment.fragment-index < length c.args.fragments.now = omega arith in
    one_more c.args.fragments.now c.loop-fragment.fragment-index c.fragment-item.result c.in_ok-arrival.arrival c.loop-fragment.message_joiner c.join.new.self
    c.loop-fragment.list.messages.items c.add.new.self.messages.items c.loop-fragment.list.ending c.add.new.self.ending
    within (c.fragment-item.is ∙ get_or_default c.args.fragments.now c.loop-fragment.fragment-index _ _ within) c.loop-fragment.invariant
    c.in_ok-arrival.ensures.brings c.in_ok-arrival.ensures.short c.in_ok-add.ensures.messages c.in_ok-add.ensures.ending
