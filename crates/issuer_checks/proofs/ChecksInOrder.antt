-- How the talk of a run follows checks one after the other.
use Rattle.std.proofs.Common.{◌≡◌, List, Bool, true, false, Option, Some, None, Result, Ok, Err, subst, sym}
use Rattle.issuer_checks.specs.Ending.{came_to}
use Rattle.issuer_checks.specs.declared.check_end.CheckEnd as read
use Rattle.issuer_checks.specs.declared.check_end.CheckEnd.TheVariants as stops
use Rattle.key_device.proofs.PlanLemmas.{then_more, cut_short, ended}
use Rattle.key_device.specs.Plan.{Plan, Done, Follows}
use Rattle.key_device.specs.PlanSteps.{◌>>=◌, unless_fault}
use Rattle.key_device.specs.declared.exchange.Exchange.{Exchange}
use Rattle.verdict_model.specs.Steps.{Stop, Refused, check_that, needed}
use Rattle.verdict_model.specs.declared.doc_check.DocCheck.{DocCheck}

-- A check that asks nothing: it holds, and the rest follows;
pub holds : {B : Type 0} (check : DocCheck) (f : Unit {0} → Plan (Result B Stop)) {old new : List Exchange} {outcome : Option (Result B Stop)} (test : Bool)
    → test ≡ true → Follows (f tt) old new outcome → Follows (check_that check test >>= f) old new outcome
holds check f true is rest = rest
holds check f false is rest = absurd (cc)

-- or it fails, and is the last;
pub fails : {B : Type 0} (check : DocCheck) (f : Unit {0} → Plan (Result B Stop)) (test : Bool) (talk : List Exchange)
    → test ≡ false → Follows (check_that check test >>= f) talk talk (Some (Err (Refused check)))
fails check f true talk is = absurd (cc)
fails check f false talk is = ended talk

pub last_holds : (check : DocCheck) (test : Bool) (talk : List Exchange) → test ≡ true → Follows (check_that check test) talk talk (Some (Ok tt))
last_holds check true talk is = ended talk
last_holds check false talk is = absurd (cc)

pub last_fails : (check : DocCheck) (test : Bool) (talk : List Exchange) → test ≡ false → Follows (check_that check test) talk talk (Some (Err (Refused check)))
last_fails check true talk is = absurd (cc)
last_fails check false talk is = ended talk

-- what it needs is there, and the rest follows; or it isn't.
pub there : {A B : Type 0} (check : DocCheck) (f : A → Plan (Result B Stop)) {old new : List Exchange} {outcome : Option (Result B Stop)} (found : Option A) (a : A)
    → found ≡ Some a → Follows (f a) old new outcome → Follows (needed check found >>= f) old new outcome
there check f {old} {new} {outcome} found a is rest =
    subst (λ own. Follows (needed check own >>= f) old new outcome) (sym is) rest

pub missing : {A B : Type 0} (check : DocCheck) (f : A → Plan (Result B Stop)) (found : Option A) (talk : List Exchange)
    → found ≡ None → Follows (needed check found >>= f) talk talk (Some (Err (Refused check)))
missing check f None talk is = ended talk
missing check f (Some a) talk is = absurd (cc)

-- Checks that ask nothing more come to this.
pub answered : {A : Type 0} {p : Plan A} {a : A} (talk : List Exchange) → p ≡ Done a → Follows p talk talk (Some a)
answered {a = a} talk is = subst (λ plan. Follows plan talk talk (Some a)) (sym is) (ended talk)

-- What ends the first of two ends both.
pub stopped : {A B X Y : Type 0} (view : X → A) (other : Y → B) {p : Plan (Result A Stop)} (f : A → Plan (Result B Stop)) {old new : List Exchange} (stop : read.CheckEnd)
    → Follows p old new (came_to view (Err stop)) → Follows (p >>= f) old new (came_to other (Err stop))
stopped view other f {old} {new} (stops.Refused check) first = then_more (unless_fault f) first (ended new)
stopped view other f {old} {new} stops.Device first = then_more (unless_fault f) first (ended new)
stopped view other f {old} {new} stops.Memory first = cut_short (unless_fault f) first
