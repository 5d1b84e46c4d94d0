-- Elements that are made of elements (X.690, 8.1 and 10.1).
use Rattle.std.specs.Prelude.{ℕ, List, [], ◌∷◌}
use Rattle.std.specs.List.{AllByRecursion}
use Rattle.der_view.specs.Element.{IsElement}
use Rattle.cert_view.specs.Written.{concatenated}

-- The bytes are an element with that tag, whatever its body.
pub record HasTag (tag : ℕ) (bytes : List ℕ) : Type 0 where
  pub body : List ℕ
  pub is : IsElement bytes tag body

-- The bytes are an element.
pub record IsSomeElement (bytes : List ℕ) : Type 0 where
  pub tag : ℕ
  pub body : List ℕ
  pub is : IsElement bytes tag body

-- The bytes are an element with that tag, and its body is these elements in a row, and nothing else.
pub record IsMadeOf (tag : ℕ) (parts : List (List ℕ)) (bytes : List ℕ) : Type 0 where
  pub is : IsElement bytes tag (concatenated parts)
  pub each : AllByRecursion IsSomeElement parts

-- OPTIONAL (X.680, 25.6): no part, or one that is such
abbrev pub IsOptional : (List ℕ → Type 0) → List (List ℕ) → Type 0
IsOptional Is [] = Unit {0}
IsOptional Is (part ∷ []) = Is part
IsOptional Is (part ∷ (other ∷ parts)) = ⊥
