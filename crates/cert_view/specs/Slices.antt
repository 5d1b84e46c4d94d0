-- What contracts see of borrowed bytes.
use Rattle.std.specs.Prelude.{ℕ, List, map}
use Rattle.std.specs.Borrow.{Bor}

abbrev pub slices : List (Bor (List ℕ)) → List (List ℕ)
slices parts = map (λ (part : Bor (List ℕ)). part.now) parts
