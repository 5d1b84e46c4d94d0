-- An array of four parts that are appended one after the other.
use Rattle.std.proofs.Common.{◌≡◌, ℕ, List, [], ◌∷◌, ◌++◌, sym}
use Rattle.std.proofs.lemmas.List.{append_assoc, append-nil}
use Rattle.cbor_view.specs.Shortest.{array_bytes, shortest_head}

pub four_parts : (a b c d : List ℕ) → array_bytes (a ∷ b ∷ c ∷ d ∷ []) ≡ shortest_head 4 4 ++ a ++ b ++ c ++ d
four_parts a b c d = sym (simp (append_assoc, append-nil))
