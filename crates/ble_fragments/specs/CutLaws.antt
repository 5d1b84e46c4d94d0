-- What is known of messages that were cut (ISO/IEC 18013-5, 8.3.3.1.1).
use Rattle.std.specs.Prelude.{◌≡◌, ℕ, ◌-◌, ◌≤◌, List, [], length, map, max}
use Rattle.std.specs.Int.{div_ceil}
use Rattle.std.specs.List.{All, concat, flat_map}
use Rattle.ble_fragments.specs.declared.ending.Ending.TheVariants.{Open}
use Rattle.ble_fragments.specs.Cut.{cut, fragments_of}
use Rattle.ble_fragments.specs.Whole.{whole}

-- A message that can be joined from its fragments: it and its fragments are within the limits.
pub record IsWithinLimits (size : ℕ) (message : List ℕ) : Type 0 where
  pub bytes : length message ≤ 1048576
  pub fragments : length (cut message size) ≤ 65536

-- Messages that were cut, one after the other, are joined to these messages, whatever the size.
abbrev pub JoinsCuts : Type 0
JoinsCuts =
    (size : ℕ) (messages : List (List ℕ)) → 2 ≤ size → All (IsWithinLimits size) messages
    → whole (flat_map (fragments_of size) messages) ≡ record { messages = messages; rest = []; ending = Open }

-- The pieces of a message, one after the other, are the message.
abbrev pub PiecesJoin : Type 0
PiecesJoin = (size : ℕ) (message : List ℕ) → 2 ≤ size → concat (map (λ piece. piece.bytes) (cut message size)) ≡ message

-- A message has as many pieces as its bytes fill, the last one in part, and at least one.
abbrev pub CountsPieces : Type 0
CountsPieces = (size : ℕ) (message : List ℕ) → 2 ≤ size → length (cut message size) ≡ max 1 (div_ceil (length message) (size - 1))
