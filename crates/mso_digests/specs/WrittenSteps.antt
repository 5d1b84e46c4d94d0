-- The pairs of a map that is being written, appended one after the other.
use Rattle.std.specs.Prelude.{ℕ, List, [], ◌∷◌, ◌++◌}

abbrev pub put_all : List ℕ → List (List ℕ × List ℕ) → List ℕ
put_all bytes [] = bytes
put_all bytes (pair ∷ pairs) = put_all ((bytes ++ pair.0) ++ pair.1) pairs
