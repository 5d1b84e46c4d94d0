-- What each outcome of a plan is, whatever is told.
use Rattle.std.proofs.Common.{◌≡◌, ℕ, List, [], ◌∷◌, Option, Some, Result, Ok, Err, ap, subst}
use Rattle.std.specs.Prelude.{unwrap_or}
use Rattle.key_device.specs.Plan.{Plan, Done, Then, Other, Draw, bind, over_all}
use Rattle.key_device.specs.PlanSteps.{unless_fault, ◌>>=◌}
use Rattle.key_device.specs.Tape.{answer_of, tape_after}
use Rattle.key_device.specs.declared.exchange.Exchange.{Exchange}
use Rattle.key_device.specs.declared.told.Told.{Told}

abbrev pub Always : {A : Type 0} → (A → Type 0) → Plan A → Type 0
Always P (Done a) = P a
Always P (Then ask next) = (told : Told) → Always P (next told)
Always P (Other ask next) = (told : Told) → Always P (next told)
Always P (Draw next) = (word : ℕ) → Always P (next word)

pub some_same : {A : Type 0} (one other : A) → Some one ≡ Some other → one ≡ other
some_same one other is = ap (λ (found : Option _). unwrap_or found one) is

pub always_outcome : {A : Type 0} (P : A → Type 0) (p : Plan A) (tape other : List Exchange) (words : List ℕ) (a : A)
    → Always P p → (over_all p tape other words).outcome ≡ Some a → P a
always_outcome P (Done x) tape other words a holds is = subst P (some_same x a is) holds
always_outcome P (Then ask next) tape other words a holds is =
    always_outcome P (next (answer_of tape ask)) (tape_after tape ask) other words a (holds (answer_of tape ask)) is
always_outcome P (Other ask next) tape other words a holds is =
    always_outcome P (next (answer_of other ask)) tape (tape_after other ask) words a (holds (answer_of other ask)) is
always_outcome P (Draw next) tape other (w ∷ ws) a holds is = always_outcome P (next w) tape other ws a (holds w) is
always_outcome P (Draw next) tape other [] a holds is = cc

pub always_bind : {A B : Type 0} (P : A → Type 0) (Q : B → Type 0) (p : Plan A) (f : A → Plan B)
    → Always P p → ((a : A) → P a → Always Q (f a)) → Always Q (bind p f)
always_bind P Q (Done x) f holds then = then x holds
always_bind P Q (Then ask next) f holds then = λ told. always_bind P Q (next told) f (holds told) then
always_bind P Q (Other ask next) f holds then = λ told. always_bind P Q (next told) f (holds told) then
always_bind P Q (Draw next) f holds then = λ word. always_bind P Q (next word) f (holds word) then

pub always_weaker : {A : Type 0} (P Q : A → Type 0) (p : Plan A) → ((a : A) → P a → Q a) → Always P p → Always Q p
always_weaker P Q (Done x) weaker holds = weaker x holds
always_weaker P Q (Then ask next) weaker holds = λ told. always_weaker P Q (next told) weaker (holds told)
always_weaker P Q (Other ask next) weaker holds = λ told. always_weaker P Q (next told) weaker (holds told)
always_weaker P Q (Draw next) weaker holds = λ word. always_weaker P Q (next word) weaker (holds word)

abbrev pub Anything : {A : Type 0} → A → Type 0
Anything a = Unit {0}

pub always_anything : {A : Type 0} (p : Plan A) → Always Anything p
always_anything (Done x) = tt
always_anything (Then ask next) = λ told. always_anything (next told)
always_anything (Other ask next) = λ told. always_anything (next told)
always_anything (Draw next) = λ word. always_anything (next word)

-- of a value, where there is no fault
abbrev pub OfValue : {A E : Type 0} → (A → Type 0) → Result A E → Type 0
OfValue P (Ok value) = P value
OfValue P (Err fault) = Unit {0}

pub always_step : {A B E : Type 0} (P : A → Type 0) (Q : B → Type 0) (p : Plan (Result A E)) (f : A → Plan (Result B E))
    → Always (OfValue P) p → ((a : A) → P a → Always (OfValue Q) (f a)) → Always (OfValue Q) (p >>= f)
always_step {A} {B} {E} P Q p f holds then = always_bind (OfValue P) (OfValue Q) p (unless_fault f) holds both
  where
    both : (r : Result A E) → OfValue P r → Always (OfValue Q) (unless_fault f r)
    both (Ok value) of_value = then value of_value
    both (Err fault) of_value = tt
