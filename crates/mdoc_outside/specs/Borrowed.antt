-- Bytes that are borrowed.
use Rattle.std.specs.Prelude.{ℕ, List}
use Rattle.std.specs.Borrow.{Bor}

-- the bytes that a reference leads to
abbrev pub content : Bor (List ℕ) → List ℕ
content bytes = bytes.now
