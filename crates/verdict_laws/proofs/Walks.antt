-- What the walk of a check says of the first failure of the list.
use Rattle.std.proofs.Common.{◌≡◌, List, [], ◌∷◌, Bool, true, false, Option, Some, None, Result, Ok, Err, refl, sym, subst}
use Rattle.std.specs.Prelude.{is_some}
use Rattle.mdoc_outside.specs.OptionSteps.{unless}
use Rattle.key_device.specs.Questions.{by_verify}
use Rattle.key_device.specs.Plan.{Plan, Done, Then, Other, Draw, Walks}
use Rattle.key_device.specs.PlanSteps.{◌>>=◌}
use Rattle.key_device.specs.declared.exchange.Exchange.{Exchange}
use Rattle.key_device.specs.declared.told.Told.{Told}
use Rattle.key_device.specs.declared.told.Told.TheVariants as tells
use Rattle.key_device.specs.declared.device_fault.DeviceFault.TheVariants.{Failed}
use Rattle.verdict_model.specs.IssuerStatement.{IssuerStatement}
use Rattle.verdict_model.specs.Steps.{Stop, Refused, Unanswered, check_that, needed, or_unanswered}
use Rattle.verdict_model.specs.declared.doc_check.DocCheck.{DocCheck}
use Rattle.verdict_laws.specs.Found.{is_yes}
use Rattle.verdict_laws.proofs.Lists.{first_failure}

-- an outcome is by the first failure, or there is none
abbrev pub Says : Result IssuerStatement Stop → Option DocCheck → Type 0
Says (Ok said) first = first ≡ None
Says (Err (Refused check)) first = first ≡ Some check
Says (Err Unanswered) first = Unit {0}

pub record Agrees (list : List (Option DocCheck)) (outcome : Result IssuerStatement Stop) : Type 0 where
  pub says : Says outcome (first_failure list)

abbrev pub stopped : Stop → Plan (Result IssuerStatement Stop)
stopped stop = Done (Err stop)

pub ended : (stop : Stop) (es : List Exchange) (outcome : Result IssuerStatement Stop) → Walks (stopped stop) es [] [] outcome → outcome ≡ Err stop
ended stop [] outcome walk = walk
ended stop (e ∷ es) outcome walk = absurd walk

pub unanswered : (list : List (Option DocCheck)) (es : List Exchange) (outcome : Result IssuerStatement Stop) → Walks (stopped Unanswered) es [] [] outcome → Agrees list outcome
unanswered list es outcome walk = subst (Agrees list) (sym (ended Unanswered es outcome walk)) (record { says = tt })

pub refused : (check : DocCheck) (list : List (Option DocCheck)) (es : List Exchange) (outcome : Result IssuerStatement Stop)
    → first_failure list ≡ Some check → Walks (stopped (Refused check)) es [] [] outcome → Agrees list outcome
refused check list es outcome is walk = subst (Agrees list) (sym (ended (Refused check) es outcome walk)) (record { says = is })

-- the list goes on after a check that holds
pub passed : (list : List (Option DocCheck)) (outcome : Result IssuerStatement Stop) → Agrees list outcome → Agrees (None ∷ list) outcome
passed list outcome agrees = record { says = agrees.says }

-- steps may be grouped from the back
pub regrouped : {A B C E : Type 0} (p : Plan (Result A E)) (f : A → Plan (Result B E)) (g : B → Plan (Result C E)) (es : List Exchange) (outcome : Result C E)
    → Walks ((p >>= f) >>= g) es [] [] outcome → Walks (p >>= λ a. f a >>= g) es [] [] outcome
regrouped (Done (Ok a)) f g es outcome walk = walk
regrouped (Done (Err e)) f g es outcome walk = walk
regrouped (Then ask next) f g [] outcome walk = absurd walk
regrouped (Then ask next) f g (e ∷ es) outcome walk = (walk.0, regrouped (next e.told) f g es outcome walk.1)
regrouped (Other ask next) f g es outcome walk = absurd walk
regrouped (Draw next) f g es outcome walk = absurd walk

-- a check that asks nothing
pub checked : (check : DocCheck) (test : Bool) (f : Unit {0} → Plan (Result IssuerStatement Stop)) (es : List Exchange) (outcome : Result IssuerStatement Stop) (list : List (Option DocCheck))
    → Walks (check_that check test >>= f) es [] [] outcome → (Walks (f tt) es [] [] outcome → Agrees list outcome) → Agrees (unless test check ∷ list) outcome
checked check true f es outcome list walk go = passed list outcome (go walk)
checked check false f es outcome list walk go = refused check (Some check ∷ list) es outcome refl walk

-- what it needs
pub there : {A : Type 0} (check : DocCheck) (found : Option A) (f : A → Plan (Result IssuerStatement Stop)) (es : List Exchange) (outcome : Result IssuerStatement Stop) (list : List (Option DocCheck))
    → Walks (needed check found >>= f) es [] [] outcome → ((a : A) → found ≡ Some a → Walks (f a) es [] [] outcome → Agrees list outcome)
    → Agrees (unless (is_some found) check ∷ list) outcome
there check (Some a) f es outcome list walk go = passed list outcome (go a refl walk)
there check None f es outcome list walk go = refused check (Some check ∷ list) es outcome refl walk

-- a question about a signature
pub answered : (f : Bool → Plan (Result IssuerStatement Stop)) (told : Told) (es : List Exchange) (outcome : Result IssuerStatement Stop) (list : List (Option DocCheck))
    → Walks (Done (or_unanswered (by_verify Failed told)) >>= f) es [] [] outcome → (Walks (f (is_yes (Some told))) es [] [] outcome → Agrees list outcome) → Agrees list outcome
answered f (tells.Made made) es outcome list walk go = unanswered list es outcome walk
answered f (tells.Secret secret) es outcome list walk go = unanswered list es outcome walk
answered f tells.Refused es outcome list walk go = unanswered list es outcome walk
answered f (tells.Signature pair) es outcome list walk go = unanswered list es outcome walk
answered f tells.Yes es outcome list walk go = go walk
answered f tells.No es outcome list walk go = go walk
answered f tells.Failed es outcome list walk go = unanswered list es outcome walk
