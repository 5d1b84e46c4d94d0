-- Values taken one after another, as a loop takes them: what the first ones gave stands in front.
use Rattle.std.proofs.Common.{◌≡◌, List, [], ◌∷◌, ◌++◌, Result, Ok, Err, refl, sym, ap, ◌∙◌, append_assoc}
use Rattle.mdoc_outside.specs.ResultSteps.{◌>>=◌, each}

-- what was given before, before what is given
abbrev pub with_front : {B E : Type 0} → List B → Result (List B) E → Result (List B) E
with_front front given = given >>= λ others. Ok (front ++ others)

pub regroup : {B E : Type 0} (front : List B) (first : B) (given : Result (List B) E) →
    with_front front (given >>= λ others. Ok (first ∷ others)) ≡ with_front (front ++ first ∷ []) given
regroup front first (Ok others) = ap Ok (sym (append_assoc front (first ∷ []) others))
regroup front first (Err fault) = refl

-- one value more was taken
pub each-next : {A B E : Type 0} (step : A → Result B E) (front : List B) (value : A) (values : List A) (first : B) →
    step value ≡ Ok first → with_front front (each step (value ∷ values)) ≡ with_front (front ++ first ∷ []) (each step values)
each-next step front value values first given =
    ap (λ (r : Result _ _). with_front front (r >>= λ x. each step values >>= λ others. Ok (x ∷ others))) given
    ∙ regroup front first (each step values)
