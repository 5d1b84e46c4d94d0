-- Plans one after the other: up to a first fault, for each of a list, up to a first yes, and step by
-- step over a state.
use Rattle.std.specs.Prelude.{ℕ, List, [], ◌∷◌, Bool, true, false, Option, Some, None, Result, Ok, Err, replicate}
use Rattle.key_device.specs.Plan.{Plan, Done, bind}

-- how a plan goes on after a value; a fault ends it
abbrev pub unless_fault : {A B E : Type 0}
    → (A → Plan (Result B E)) → Result A E → Plan (Result B E)
unless_fault step (Ok value) = step value
unless_fault step (Err fault) = Done (Err fault)

-- the first fault, or what the next plan comes to
infixl 10 ◌>>=◌
abbrev pub ◌>>=◌ : {A B E : Type 0}
    → Plan (Result A E) → (A → Plan (Result B E)) → Plan (Result B E)
plan >>= step = bind plan (unless_fault step)

-- a plan for each of a list, in order, up to the first fault
abbrev pub each : {X Y E : Type 0} → (X → Plan (Result Y E)) → List X → Plan (Result (List Y) E)
each step [] = Done (Ok [])
each step (x ∷ xs) = do
  y ← step x
  ys ← each step xs
  Done (Ok (y ∷ ys))

-- one plan so many times, up to the first fault
abbrev pub times : {Y E : Type 0} → ℕ → Plan (Result Y E) → Plan (Result (List Y) E)
times count plan = each (λ u. plan) (replicate count (tt {0}))

-- how a search goes on after an element: a yes finds it
abbrev pub unless_yes : {X E : Type 0} → X → Plan (Result (Option X) E) → Bool → Plan (Result (Option X) E)
unless_yes x rest true = Done (Ok (Some x))
unless_yes x rest false = rest

-- The first of a list to which a plan says yes. It stops there, ends at the first fault, and finds
-- none after the last no.
abbrev pub first_yes : {X E : Type 0} → (X → Plan (Result Bool E)) → List X → Plan (Result (Option X) E)
first_yes says [] = Done (Ok None)
first_yes says (x ∷ xs) = says x >>= unless_yes x (first_yes says xs)

-- a step for each of a list, each from the state that the one before came to
abbrev pub folded : {S X : Type 0} → (S → X → Plan S) → S → List X → Plan S
folded step state [] = Done state
folded step state (x ∷ xs) = bind (step state x) (λ next. folded step next xs)

-- a plan whose outcome, be it a value or a fault, is mapped into another one
abbrev pub mapped : {A B : Type 0} → (A → B) → Plan A → Plan B
mapped answer plan = bind plan (λ outcome. Done (answer outcome))
