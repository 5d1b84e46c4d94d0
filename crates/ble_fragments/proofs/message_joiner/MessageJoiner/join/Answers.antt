use Rattle.ble_fragments.proofs.ArrivalLemmas.{brings, is_short, no_message, same_without_memory, still_joins}
use Rattle.ble_fragments.proofs.message_joiner.MessageJoiner.join.Goals as goal

pub invariant_of-self : goal.invariant_of-self
invariant_of-self c =
    let came = c.self.invariant.0 in
    still_joins came c.args.fragment.now c.feed.result c.self.inside.joiner c.feed.new.self (c.feed.ensures.fed came c.self.invariant.1) c.feed.ensures.memory c.self.invariant.1

pub returns-clause-brings : goal.returns-clause-brings
returns-clause-brings c = λ came joins.
    rw c.arrival_of.ensures (brings came c.args.fragment.now c.feed.result c.feed.new.self (c.feed.ensures.fed came (rw c.self.view_is joins)))

pub returns-clause-short : goal.returns-clause-short
returns-clause-short c =
    rw c.arrival_of.ensures (is_short c.self.invariant.0 c.args.fragment.now c.feed.result c.feed.new.self (c.feed.ensures.fed c.self.invariant.0 c.self.invariant.1))

pub returns-clause-part : goal.returns-clause-part
returns-clause-part c = λ part.
    rw c.arrival_of.ensures (no_message c.self.invariant.0 c.args.fragment.now c.feed.result c.feed.new.self part (c.feed.ensures.fed c.self.invariant.0 c.self.invariant.1))

pub returns-clause-memory : goal.returns-clause-memory
returns-clause-memory c =
    rw (c.arrival_of.ensures, ← c.self.view_is) (same_without_memory c.feed.result c.self.inside.joiner c.feed.new.self c.feed.ensures.memory)
