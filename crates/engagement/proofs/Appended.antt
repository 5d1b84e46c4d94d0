-- Arrays whose parts are appended one after the other.
use Rattle.std.proofs.Common.{◌≡◌, ℕ, List, [], ◌∷◌, ◌++◌, sym}
use Rattle.std.proofs.lemmas.List.{append_assoc, append-nil}
use Rattle.cbor_view.specs.Shortest.{array_bytes, shortest_head}

pub two_parts : (a b : List ℕ) → array_bytes (a ∷ b ∷ []) ≡ shortest_head 4 2 ++ a ++ b
two_parts a b = sym (simp (append_assoc, append-nil))

pub one_method : (a b c : List ℕ) → array_bytes (array_bytes (a ∷ b ∷ c ∷ []) ∷ []) ≡ shortest_head 4 1 ++ shortest_head 4 3 ++ a ++ b ++ c
one_method a b c = sym (simp (append_assoc, append-nil))
