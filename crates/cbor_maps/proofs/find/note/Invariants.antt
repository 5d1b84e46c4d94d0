use Rattle.std.proofs.Common.{◌≡◌, ℕ, ◌<◌, ◌≤◌, length}
use Rattle.cbor_maps.specs.Found.{noted, found_at, name_at}
use Rattle.cbor_maps.proofs.find.note.Given as goal

-- the names so far are noted, and the others are as before
abbrev pub invariant-loop-place : goal.invariant-loop-place
invariant-loop-place l = record {
  eight : length l.found ≡ 8;
  done : (i : ℕ) → i < l.place → found_at l.found i ≡ noted (name_at l.names i) l.key l.value (found_at l.fn.found i);
  left : (i : ℕ) → l.place ≤ i → found_at l.found i ≡ found_at l.fn.found i;
}
