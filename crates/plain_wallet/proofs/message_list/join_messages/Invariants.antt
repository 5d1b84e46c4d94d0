use Rattle.std.proofs.Common.{take}
use Rattle.plain_wallet.proofs.MessageJoiner.{SoFar}
use Rattle.plain_wallet.proofs.message_list.join_messages.Given as goal

-- the messages of the fragments so far
abbrev pub invariant-loop-fragment : goal.invariant-loop-fragment
invariant-loop-fragment l = SoFar (take l.fragment-index l.fragments) l.message_joiner l.list.messages.items l.list.ending
