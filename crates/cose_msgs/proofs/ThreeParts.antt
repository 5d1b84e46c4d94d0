-- An array of three parts that are appended one after the other.
use Rattle.std.proofs.Common.{◌≡◌, ℕ, List, [], ◌∷◌, ◌++◌, sym}
use Rattle.std.proofs.lemmas.List.{append_assoc, append-nil}
use Rattle.cbor_view.specs.Shortest.{array_bytes, shortest_head}

pub three_parts : (a b c : List ℕ) → array_bytes (a ∷ b ∷ c ∷ []) ≡ shortest_head 4 3 ++ a ++ b ++ c
three_parts a b c = sym (simp (append_assoc, append-nil))
