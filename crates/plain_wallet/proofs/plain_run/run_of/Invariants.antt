use Rattle.std.proofs.Common.{◌≡◌, ◌++◌, length}
use Rattle.std.specs.Vec.Iter.{into_iter_items, into_iter_len}
use Rattle.round_model.specs.Rounds.{entries_of, replies_of}
use Rattle.plain_wallet.proofs.plain_run.run_of.Given as goal

-- what the rounds so far came to, and what those that are left do
abbrev pub invariant-loop-round : goal.invariant-loop-round
invariant-loop-round l = record {
  replies : l.replies.items ++ replies_of (into_iter_items l.round-iterator) ≡ replies_of l.fn.rounds.items;
  released : l.released.items ++ entries_of (into_iter_items l.round-iterator) ≡ entries_of l.fn.rounds.items;
  count : into_iter_len l.round-iterator ≡ length (into_iter_items l.round-iterator);
}
