-- The mandatory rows of the element table.
use Rattle.std.proofs.Common.{◌≡◌, [], ◌∷◌, refl}
use Rattle.mdl_table.specs.Elements.{elements}
use Rattle.issue_spec.specs.SpecChecks.{mandatory}

pub mandatory_rows : mandatory ≡ 1 ∷ 2 ∷ 3 ∷ 4 ∷ 5 ∷ 6 ∷ 7 ∷ 8 ∷ 9 ∷ 10 ∷ 11 ∷ []
unfolding mandatory elements
mandatory_rows = refl
