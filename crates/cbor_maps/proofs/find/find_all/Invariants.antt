use Rattle.std.proofs.Common.{◌≡◌, ℕ, ◌<◌, length}
use Rattle.cbor_view.specs.Pairs.{pairs_left}
use Rattle.cbor_view.specs.View.{part}
use Rattle.cbor_maps.specs.Reading.{entry}
use Rattle.cbor_maps.specs.Found.{seen, found_at, name_at, with_values_left, values_under}
use Rattle.cbor_maps.proofs.find.find_all.Given as goal

-- what was found, with what is left, is what the whole has
abbrev pub invariant-loop-key : goal.invariant-loop-key
invariant-loop-key l = record {
  can_next : (goal.iterator-loop-key).can_next l.key-iterator;
  is_finite : (goal.iterator-loop-key).is_finite l.key-iterator;
  joined : (i : ℕ) → i < length l.names → with_values_left (seen (found_at l.found i)) (values_under (name_at l.names i) (pairs_left l.key-iterator)) ≡ entry (part l.map) (name_at l.names i);
}
