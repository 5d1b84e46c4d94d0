-- Bytes that are a part of others, at a place.
use Rattle.std.specs.Prelude.{◌≡◌, ℕ, List, ◌++◌}

-- the bytes are a part of all of them, after so many
pub record IsPart (all bytes : List ℕ) : Type 0 where
  pub before : List ℕ
  pub after : List ℕ
  pub whole : all ≡ before ++ (bytes ++ after)
