use Rattle.std.proofs.Common.{◌≡◌, Some}
use Rattle.cbor_view.specs.Pairs.{pairs_left}
use Rattle.mso_digests.specs.Digests.{has_text}
use Rattle.mso_digests.proofs.doubled.has_text.Given as goal

-- the keys that are left tell what all of them tell
abbrev pub invariant-loop-key : goal.invariant-loop-key
invariant-loop-key l =
    (goal.iterator-loop-key).can_next l.key-iterator ×
    (goal.iterator-loop-key).is_finite l.key-iterator ×
    (has_text (Some l.text) (pairs_left l.key-iterator) ≡ has_text (Some l.text) (pairs_left l.fn.entries))
