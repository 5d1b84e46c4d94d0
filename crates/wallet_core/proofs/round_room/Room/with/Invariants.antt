use Rattle.std.proofs.Common.{◌≡◌, ◌≤◌, take, vec_len, vec_capacity}
use Rattle.wallet_core.proofs.round_room.Room.with.Given as goal

-- the message so far, for the rest of which there is room
abbrev pub invariant-loop-byte : goal.invariant-loop-byte
invariant-loop-byte l = (l.bytes.items ≡ take l.byte-index l.message) × (vec_len l.bytes ≡ l.byte-index) × (9 ≤ vec_capacity l.bytes)
