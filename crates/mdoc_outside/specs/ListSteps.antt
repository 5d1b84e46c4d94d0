-- Lists that a test empties.
use Rattle.std.specs.Prelude.{List, [], ◌∷◌, Bool, true, false}

-- a fault alone, unless a test passes
abbrev pub unless : {A : Type 0} → Bool → A → List A
unless true fault = []
unless false fault = fault ∷ []
