-- Equations of plans: how they join, in either grouping and over the parts of a list.
use Rattle.std.proofs.Common.{◌≡◌, List, [], ◌∷◌, ◌++◌, Bool, true, false, Option, Some, None, Result, Ok, Err, refl, sym, ◌∙◌, ap}
use Rattle.key_device.specs.Plan.{Plan, Done, Then, Other, Draw, bind}
use Rattle.key_device.specs.PlanSteps.{unless_fault, ◌>>=◌, each, unless_yes, first_yes, folded}

pub bind_bind : {A B C : Type 0} (p : Plan A) (f : A → Plan B) (g : B → Plan C) → bind (bind p f) g ≡ bind p (λ a. bind (f a) g)
bind_bind (Done a) f g = refl
bind_bind (Then ask next) f g = λ i. Then ask (λ told. bind_bind (next told) f g i)
bind_bind (Other ask next) f g = λ i. Other ask (λ told. bind_bind (next told) f g i)
bind_bind (Draw next) f g = λ i. Draw (λ word. bind_bind (next word) f g i)

pub bind_same : {A B : Type 0} (p : Plan A) (f g : A → Plan B) → ((a : A) → f a ≡ g a) → bind p f ≡ bind p g
bind_same (Done a) f g same = same a
bind_same (Then ask next) f g same = λ i. Then ask (λ told. bind_same (next told) f g same i)
bind_same (Other ask next) f g same = λ i. Other ask (λ told. bind_same (next told) f g same i)
bind_same (Draw next) f g same = λ i. Draw (λ word. bind_same (next word) f g same i)

pub bind_done : {A : Type 0} (p : Plan A) (f : A → Plan A) → ((a : A) → f a ≡ Done a) → bind p f ≡ p
bind_done (Done a) f is = is a
bind_done (Then ask next) f is = λ i. Then ask (λ told. bind_done (next told) f is i)
bind_done (Other ask next) f is = λ i. Other ask (λ told. bind_done (next told) f is i)
bind_done (Draw next) f is = λ i. Draw (λ word. bind_done (next word) f is i)

-- steps in either grouping
pub regrouped : {A B C E : Type 0} (p : Plan (Result A E)) (f : A → Plan (Result B E)) (g : B → Plan (Result C E))
    → (p >>= f) >>= g ≡ p >>= (λ a. f a >>= g)
regrouped {A} {B} {C} {E} p f g = bind_bind p (unless_fault f) (unless_fault g) ∙ bind_same p _ _ both
  where
    both : (r : Result A E) → bind (unless_fault f r) (unless_fault g) ≡ unless_fault (λ a. f a >>= g) r
    both (Ok a) = refl
    both (Err e) = refl

-- equal steps after a plan
pub same_steps : {A B E : Type 0} (p : Plan (Result A E)) (f g : A → Plan (Result B E)) → ((a : A) → f a ≡ g a) → p >>= f ≡ p >>= g
same_steps {A} {B} {E} p f g same = bind_same p (unless_fault f) (unless_fault g) both
  where
    both : (r : Result A E) → unless_fault f r ≡ unless_fault g r
    both (Ok a) = same a
    both (Err e) = refl

-- values after those that are there
abbrev pub behind : {Y E : Type 0} → List Y → List Y → Plan (Result (List Y) E)
behind front back = Done (Ok (front ++ back))

-- a plan for each of two lists is one for each of them joined
pub each_append : {X Y E : Type 0} (step : X → Plan (Result Y E)) (front back : List X)
    → each step (front ++ back) ≡ each step front >>= (λ ys. each step back >>= behind ys)
each_append {X} {Y} {E} step [] back = sym (bind_done (each step back) (unless_fault (behind [])) both)
  where
    both : (r : Result (List Y) E) → unless_fault (behind []) r ≡ Done r
    both (Ok ys) = refl
    both (Err e) = refl
each_append {X} {Y} {E} step (x ∷ front) back =
    same_steps (step x) _ _ (λ y.
    ap (λ (p : Plan (Result (List Y) E)). p >>= behind (y ∷ [])) (each_append step front back)
    ∙ regrouped (each step front) (λ ys. each step back >>= behind ys) (behind (y ∷ []))
    ∙ same_steps (each step front) _ _ (λ ys. regrouped (each step back) (behind ys) (behind (y ∷ [])))
    ∙ sym (regrouped (each step front) (behind (y ∷ [])) (λ ys. each step back >>= behind ys)))
    ∙ sym (regrouped (step x) (λ y. each step front >>= behind (y ∷ [])) (λ ys. each step back >>= behind ys))

-- what is left of a search after what it found so far
abbrev pub unless_found : {X E : Type 0} → Plan (Result (Option X) E) → Option X → Plan (Result (Option X) E)
unless_found rest None = rest
unless_found rest (Some x) = Done (Ok (Some x))

-- a search of two lists is one of each of them
pub first_append : {X E : Type 0} (says : X → Plan (Result Bool E)) (front back : List X)
    → first_yes says (front ++ back) ≡ first_yes says front >>= unless_found (first_yes says back)
first_append says [] back = refl
first_append {X} {E} says (x ∷ front) back =
    same_steps (says x) _ _ (both (first_append says front back))
    ∙ sym (regrouped (says x) (unless_yes x (first_yes says front)) (unless_found (first_yes says back)))
  where
    both : first_yes says (front ++ back) ≡ first_yes says front >>= unless_found (first_yes says back)
        → (yes : Bool) → unless_yes x (first_yes says (front ++ back)) yes
        ≡ unless_yes x (first_yes says front) yes >>= unless_found (first_yes says back)
    both rest true = refl
    both rest false = rest

-- steps over two lists are those over each of them
pub folded_append : {S X : Type 0} (step : S → X → Plan S) (state : S) (front back : List X)
    → folded step state (front ++ back) ≡ bind (folded step state front) (λ next. folded step next back)
folded_append step state [] back = refl
folded_append step state (x ∷ front) back =
    bind_same (step state x) _ _ (λ next. folded_append step next front back)
    ∙ sym (bind_bind (step state x) (λ next. folded step next front) (λ next. folded step next back))

pub folded_one : {S X : Type 0} (step : S → X → Plan S) (state : S) (x : X) → folded step state (x ∷ []) ≡ step state x
folded_one step state x = bind_done (step state x) Done (λ next. refl)

-- and one more step adds itself at the end
pub folded_snoc : {S X : Type 0} (step : S → X → Plan S) (state : S) (front : List X) (x : X)
    → folded step state (front ++ x ∷ []) ≡ bind (folded step state front) (λ next. step next x)
folded_snoc step state front x =
    folded_append step state front (x ∷ []) ∙ bind_same (folded step state front) _ _ (λ next. folded_one step next x)
