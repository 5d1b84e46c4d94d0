use Rattle.std.proofs.Common.{◌≡◌, ℕ, List}
use Rattle.std.specs.Option.{option_or}
use Rattle.cbor_view.specs.Pairs.{pairs_left}
use Rattle.mso_digests.specs.Indexed.{indexed}
use Rattle.mso_digests.specs.Nested.{under_namespace}
use Rattle.mso_digests.proofs.index.DigestIndex.put_namespaces.Given as goal

-- the digests so far, and those of the namespaces that are left, are all
abbrev pub invariant-loop-name : goal.invariant-loop-name
invariant-loop-name l =
    (goal.iterator-loop-name).can_next l.name-iterator ×
    (goal.iterator-loop-name).is_finite l.name-iterator ×
    ((ns : List ℕ) (id : ℕ) → option_or (indexed l.self ns id) (under_namespace ns id (pairs_left l.name-iterator)) ≡ option_or (indexed l.fn.self ns id) (under_namespace ns id (pairs_left l.fn.namespaces)))
