use Rattle.std.proofs.Common.{◌≡◌, ◌++◌, length}
use Rattle.std.specs.Vec.Iter.{into_iter_items, into_iter_len}
use Rattle.wallet_answer.proofs.places.append_released.Given as goal

-- the places so far, and those that are left
abbrev pub invariant-loop-place : goal.invariant-loop-place
invariant-loop-place l =
    (l.places.items ++ into_iter_items l.place-iterator ≡ l.fn.places.items ++ l.fn.more.items) ×
    (into_iter_len l.place-iterator ≡ length (into_iter_items l.place-iterator))
