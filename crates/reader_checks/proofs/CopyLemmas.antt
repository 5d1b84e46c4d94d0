-- How the talk of a run follows the checks of copies one after the other.
use Rattle.std.proofs.Common.{◌≡◌, ◌+◌, ◌<◌, ℕ, zero, suc, List, [], ◌∷◌, ◌++◌, length, take, get_or, Option, Some, None, Result, Ok, Err, refl, sym, ap, subst, add-one, arith}
use Rattle.std.specs.Prelude.{IfSome, replicate, slice_get}
use Rattle.key_device.proofs.PlanLemmas.{cut_short, ended, then_more, unasked}
use Rattle.key_device.proofs.PlanStepLemmas.{each_cut, each_more, each_stopped, mapped_came, mapped_cut}
use Rattle.key_device.specs.Plan.{Plan, Done, Follows}
use Rattle.key_device.specs.PlanSteps.{◌>>=◌, each, mapped, unless_fault}
use Rattle.key_device.specs.declared.exchange.Exchange.{Exchange}
use Rattle.issuer_checks.specs.Ending.{came_to as stop_came_to, is_device}
use Rattle.issuer_checks.specs.declared.check_end.CheckEnd as read
use Rattle.issuer_checks.specs.declared.check_end.CheckEnd.TheVariants as stops
use Rattle.verdict_model.specs.Checked.{Failure, as_failure}
use Rattle.reader_checks.specs.PackageEnding.{all_came_to, came_to, failure_of, is_unanswered}
use Rattle.reader_checks.specs.declared.failure.Failure as found
use Rattle.reader_checks.specs.declared.failure.Failure.TheVariants as ways
use Rattle.verdict_model.specs.Steps.{Stop}

-- ---- the one at a place

pub place_of : {A : Type 0} (xs : List A) (n : ℕ) (x : A) → slice_get xs n ≡ Some x → n < length xs
place_of [] n x is = absurd (cc)
place_of (y ∷ xs) zero x is = omega arith
place_of (y ∷ xs) (suc n) x is = let later = place_of xs n x is in omega arith

pub one_at : {A : Type 0} (xs : List A) (n : ℕ) (x : A) → slice_get xs n ≡ Some x → x ≡ get_or xs n x
one_at [] n x is = absurd (cc)
one_at (y ∷ xs) zero x is = cc
one_at (y ∷ xs) (suc n) x is = one_at xs n x is

all_taken : {A : Type 0} (xs : List A) → take (length xs) xs ≡ xs
all_taken [] = refl
all_taken (x ∷ xs) = ap (λ (ys : List _). x ∷ ys) (all_taken xs)

one_more : (n : ℕ) → replicate n (tt {0}) ++ tt ∷ [] ≡ replicate (suc n) tt
one_more zero = refl
one_more (suc n) = ap (λ (us : List (Unit {0})). tt ∷ us) (one_more n)

-- ---- the copies of a document: one more,

pub copies_more : {X E : Type 0} (step : X → Plan (Result (Unit {0}) E)) (xs : List X) (i : ℕ) (x : X) {old mid new : List Exchange}
    → Follows (each step (take i xs)) old mid (Some (Ok (replicate i tt))) → slice_get xs i ≡ Some x → Follows (step x) mid new (Some (Ok tt))
    → Follows (each step (take (i + 1) xs)) old new (Some (Ok (replicate (i + 1) tt)))
copies_more step xs i x {old} {mid} {new} first at second =
    subst (λ (us : List (Unit {0})). Follows (each step (take (i + 1) xs)) old new (Some (Ok us))) (rw add-one (one_more i))
    (each_more step xs i x tt first (place_of xs i x at) (one_at xs i x at) second)

-- one whose checks end,
pub copies_ended : {X : Type 0} (step : X → Plan (Result (Unit {0}) Failure)) (xs : List X) (i count : ℕ) (x : X) {old mid new : List Exchange} (failure : found.Failure)
    → Follows (each step (take i xs)) old mid (Some (Ok (replicate i tt))) → slice_get xs i ≡ Some x → Follows (step x) mid new (came_to (Err failure))
    → Follows (each step xs) old new (all_came_to count (Err failure))
copies_ended step xs i count x (ways.DocFails check) first at second = each_stopped step xs i x first (place_of xs i x at) (one_at xs i x at) second
copies_ended step xs i count x (ways.ItemFails element check) first at second = each_stopped step xs i x first (place_of xs i x at) (one_at xs i x at) second
copies_ended step xs i count x ways.Device first at second = each_stopped step xs i x first (place_of xs i x at) (one_at xs i x at) second
copies_ended step xs i count x ways.Memory first at second = each_cut step xs i x first (place_of xs i x at) (one_at xs i x at) second

-- or all of them.
pub copies_done : {X : Type 0} (step : X → Plan (Result (Unit {0}) Failure)) (xs : List X) (i : ℕ) {old new : List Exchange}
    → Follows (each step (take i xs)) old new (Some (Ok (replicate i tt))) → i ≡ length xs → Follows (each step xs) old new (all_came_to (length xs) (Ok tt))
copies_done step xs i {old} {new} first is =
    subst (λ (ys : List _). Follows (each step ys) old new (Some (Ok (replicate (length xs) tt)))) (all_taken xs)
    (subst (λ (n : ℕ). Follows (each step (take n xs)) old new (Some (Ok (replicate n tt)))) is first)

-- ---- each of a list, once all are passed

pub each_done : {X Y E : Type 0} (step : X → Plan (Result Y E)) (xs : List X) (i : ℕ) {old new : List Exchange} {ys : List Y}
    → Follows (each step (take i xs)) old new (Some (Ok ys)) → i ≡ length xs → Follows (each step xs) old new (Some (Ok ys))
each_done step xs i {old} {new} {ys} first is =
    subst (λ (zs : List _). Follows (each step zs) old new (Some (Ok ys))) (all_taken xs)
    (subst (λ (n : ℕ). Follows (each step (take n xs)) old new (Some (Ok ys))) is first)

-- ---- a copy: its items after what its issuer says

-- which end by an outcome or for want of memory,
pub copy_came : {A : Type 0} {p : Plan (Result A Stop)} (value : A) (next : A → Result (Unit {0}) Failure) {old new : List Exchange} (outcome : Option (Result (Unit {0}) Failure))
    → Follows p old new (Some (Ok value)) → IfSome outcome (λ it. it ≡ next value)
    → Follows (mapped as_failure p >>= λ said. Done (next said)) old new outcome
copy_came value next {old} {new} None first is = then_more (unless_fault (λ said. Done (next said))) (mapped_came as_failure first) (unasked refl)
copy_came value next {old} {new} (Some it) first is =
    then_more (unless_fault (λ said. Done (next said))) (mapped_came as_failure first)
    (subst (λ (own : Result (Unit {0}) Failure). Follows (Done (next value)) new new (Some own)) (sym is) (ended new))

-- or the issuer's part ends.
pub copy_stopped : {A X : Type 0} (view : X → A) {p : Plan (Result A Stop)} (next : A → Result (Unit {0}) Failure) {old new : List Exchange} (stop : read.CheckEnd)
    → Follows p old new (stop_came_to view (Err stop)) → Follows (mapped as_failure p >>= λ said. Done (next said)) old new (came_to (Err (failure_of stop)))
copy_stopped view next {old} {new} (stops.Refused check) first = then_more (unless_fault (λ said. Done (next said))) (mapped_came as_failure first) (ended new)
copy_stopped view next {old} {new} stops.Device first = then_more (unless_fault (λ said. Done (next said))) (mapped_came as_failure first) (ended new)
copy_stopped view next {old} {new} stops.Memory first = cut_short (unless_fault (λ said. Done (next said))) (mapped_cut as_failure first)

pub same_cause : (stop : read.CheckEnd) → is_unanswered (failure_of stop) ≡ is_device stop
same_cause (stops.Refused check) = refl
same_cause stops.Device = refl
same_cause stops.Memory = refl
