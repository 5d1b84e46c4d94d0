-- A message cut into fragments (ISO/IEC 18013-5, 8.3.3.1.1).
use Rattle.std.specs.Prelude.{Bool, true, false, ℕ, zero, suc, ◌-◌, List, [], ◌∷◌, length, map, take, drop, nat_lt, if◌then◌else◌}
use Rattle.mdoc_outside.specs.declared.fragment.Fragment.{Fragment}
use Rattle.mdoc_outside.specs.declared.fragment.Fragment.TheVariants.{Data}

-- A piece of a message: its bytes without a leading one, and whether it is the last.
pub record Cut : Type 0 where
  pub bytes : List ℕ
  pub is_last : Bool

-- Pieces of n bytes up to the last one, which has what is left of the message, at most n bytes; one
-- empty piece for the empty message. There are at most as many as the first argument says, and one
-- more; the message has no more than so many bytes.
abbrev pub pieces : ℕ → ℕ → List ℕ → List Cut
pieces zero n message = record { bytes = message; is_last = true } ∷ []
pieces (suc more) n message =
    if nat_lt n (length message)
    then record { bytes = take n message; is_last = false } ∷ pieces more n (drop n message)
    else record { bytes = message; is_last = true } ∷ []

-- the pieces for fragments of at most this size, of which the leading byte is one
unfoldable pub cut : List ℕ → ℕ → List Cut
cut message size = pieces (length message) (size - 1) message

-- a fragment's leading byte: 0 leads the last of a message, 1 each other
abbrev pub lead_of : Bool → ℕ
lead_of true = 0
lead_of false = 1

abbrev pub fragment_of : Cut → Fragment
fragment_of piece = Data (lead_of piece.is_last ∷ piece.bytes)

-- the fragments of a message
abbrev pub fragments_of : ℕ → List ℕ → List Fragment
fragments_of size message = map fragment_of (cut message size)
