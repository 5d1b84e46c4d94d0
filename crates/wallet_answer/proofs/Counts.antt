-- A plan for each of a list comes to as many outcomes.
use Rattle.std.proofs.Common.{◌≡◌, ℕ, suc, List, [], ◌∷◌, length, map, Some, Result, Ok, refl, sym, ap, ◌∙◌, subst}
use Rattle.std.proofs.lemmas.List.{length-map}
use Rattle.key_device.specs.Plan.{Plan, Done, Then, Other, Draw, Follows, Walks}
use Rattle.key_device.specs.PlanSteps.{◌>>=◌, each}
use Rattle.key_device.specs.declared.exchange.Exchange.{Exchange}
use Rattle.wallet_model.proofs.Always.{Always, Anything, OfValue, always_step}
use Rattle.wallet_model.proofs.ReaderNames.{always_value}

pub holds_of : {A : Type 0} (P : A → Type 0) (p : Plan A) (es os : List Exchange) (ws : List ℕ) (a : A) → Always P p → Walks p es os ws a → P a
holds_of P (Done x) [] [] [] a holds walk = subst P (sym walk) holds
holds_of P (Done x) [] [] (w ∷ ws) a holds walk = absurd walk
holds_of P (Done x) [] (o ∷ os) ws a holds walk = absurd walk
holds_of P (Done x) (e ∷ es) os ws a holds walk = absurd walk
holds_of P (Then ask rest) [] os ws a holds walk = absurd walk
holds_of P (Then ask rest) (e ∷ es) os ws a holds walk = holds_of P (rest e.told) es os ws a (holds e.told) walk.1
holds_of P (Other ask rest) es [] ws a holds walk = absurd walk
holds_of P (Other ask rest) es (o ∷ os) ws a holds walk = holds_of P (rest o.told) es os ws a (holds o.told) walk.1
holds_of P (Draw rest) es os [] a holds walk = absurd walk
holds_of P (Draw rest) es os (w ∷ ws) a holds walk = holds_of P (rest w) es os ws a (holds w) walk

each_counted : {X Y E : Type 0} (step : X → Plan (Result Y E)) (xs : List X) → Always (OfValue (λ (ys : List Y). length ys ≡ length xs)) (each step xs)
each_counted step [] = refl
each_counted {X} {Y} {E} step (x ∷ xs) =
    always_step Anything (λ (ys : List Y). length ys ≡ suc (length xs)) (step x) (λ (y : Y). each step xs >>= λ (ys : List Y). Done (Ok (y ∷ ys))) (always_value (step x))
    (λ y any. always_step (λ (ys : List Y). length ys ≡ length xs) (λ (ys : List Y). length ys ≡ suc (length xs)) (each step xs) (λ (ys : List Y). Done (Ok (y ∷ ys))) (each_counted step xs)
    (λ ys is. ap suc is))

-- of a run
pub as_many : {X Y Z E : Type 0} (step : X → Plan (Result Y E)) (xs : List X) (seen : Z → Y) (zs : List Z) (old new : List Exchange)
    → Follows (each step xs) old new (Some (Ok (map seen zs))) → length zs ≡ length xs
as_many {X} {Y} {Z} {E} step xs seen zs old new follows =
    sym (length-map zs seen)
    ∙ holds_of (OfValue (λ (ys : List Y). length ys ≡ length xs)) (each step xs) follows.gained [] [] (Ok (map seen zs)) (each_counted step xs) follows.fits
