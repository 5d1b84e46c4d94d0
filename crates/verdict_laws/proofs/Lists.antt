-- The first failure of a list.
use Rattle.std.proofs.Common.{◌≡◌, List, [], ◌∷◌, ◌++◌, Option, Some, None, refl, ap}
use Rattle.std.specs.List.{AllByRecursion}
use Rattle.verdict_model.specs.declared.doc_check.DocCheck.{DocCheck}
use Rattle.verdict_laws.specs.Conditions.{Holds, IsFirstFailure}

abbrev pub first_failure : List (Option DocCheck) → Option DocCheck
first_failure [] = None
first_failure (None ∷ rest) = first_failure rest
first_failure (Some check ∷ rest) = Some check

one_of : (one check : DocCheck) → Some one ≡ Some check → one ≡ check
one_of one check is = cc

some_none : (check : DocCheck) → Some check ≡ None → ⊥
some_none check is = cc

pub is_first : (check : DocCheck) (list : List (Option DocCheck)) → first_failure list ≡ Some check → IsFirstFailure check list
is_first check [] is = cc
is_first check (None ∷ rest) is =
    let first = is_first check rest is in
    record { before = None ∷ first.before; behind = first.behind; at = ap (λ (xs : List (Option DocCheck)). None ∷ xs) first.at; holding = (refl, first.holding) }
is_first check (Some one ∷ rest) is =
    record { before = []; behind = rest; at = ap (λ (own : DocCheck). Some own ∷ rest) (one_of one check is); holding = tt }

pub first_of : (check : DocCheck) (before behind : List (Option DocCheck)) → AllByRecursion Holds before → first_failure (before ++ Some check ∷ behind) ≡ Some check
first_of check [] behind holding = refl
first_of check (None ∷ before) behind holding = first_of check before behind holding.1
first_of check (Some one ∷ before) behind holding = absurd (some_none one holding.0)

pub all_hold : (list : List (Option DocCheck)) → first_failure list ≡ None → AllByRecursion Holds list
all_hold [] is = tt
all_hold (None ∷ rest) is = (refl, all_hold rest is)
all_hold (Some check ∷ rest) is = absurd (some_none check is)

pub none_first : (list : List (Option DocCheck)) → AllByRecursion Holds list → first_failure list ≡ None
none_first [] holding = refl
none_first (None ∷ rest) holding = none_first rest holding.1
none_first (Some check ∷ rest) holding = absurd (some_none check holding.0)
