use Rattle.std.proofs.Common.{◌≡◌, ℕ}
use Rattle.std.specs.Option.{option_or}
use Rattle.cbor_view.specs.Pairs.{pairs_left}
use Rattle.mso_digests.specs.Indexed.{numbered}
use Rattle.mso_digests.specs.Nested.{under_number}
use Rattle.mso_digests.proofs.index.put_digests.Given as goal

-- the digests so far, and those that are left, are all
abbrev pub invariant-loop-key : goal.invariant-loop-key
invariant-loop-key l =
    (goal.iterator-loop-key).can_next l.key-iterator ×
    (goal.iterator-loop-key).is_finite l.key-iterator ×
    ((id : ℕ) → option_or (numbered l.numbers id) (under_number id (pairs_left l.key-iterator)) ≡ option_or (numbered l.fn.numbers id) (under_number id (pairs_left l.fn.digests)))
