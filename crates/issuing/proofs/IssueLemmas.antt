-- How the parts of issuing join, at each way in which a part may end.
use Rattle.std.proofs.Common.{◌≡◌, ◌<◌, inl, inr, ℕ, List, Result, Ok, Err, refl, sym, ap, subst, arith}
use Rattle.mdoc_outside.specs.Faults.{HasCause}
use Rattle.mdoc_outside.specs.declared.dice_fault.DiceFault.{DiceFault}
use Rattle.mdoc_outside.specs.declared.dice_fault.DiceFault.TheVariants as dices
use Rattle.key_device.proofs.AllPlanLemmas.{all_more, all_cut, all_undealt, all_ended, by_one, by_other}
use Rattle.key_device.proofs.AllPlanStepLemmas.{all_times_stopped, all_times_undealt, all_times_cut}
use Rattle.key_device.proofs.PlanLemmas.{then_more, cut_short, ended}
use Rattle.key_device.specs.Plan.{Plan, of_other, Finished, Follows, FollowsAll}
use Rattle.key_device.specs.PlanSteps.{◌>>=◌, unless_fault, times}
use Rattle.key_device.specs.declared.device_fault.DeviceFault.{DeviceFault}
use Rattle.key_device.specs.declared.device_fault.DeviceFault.TheVariants as devices
use Rattle.key_device.specs.declared.exchange.Exchange.{Exchange}
use Rattle.key_device.specs.Ends.{came_to, dice_end, of_device, of_dice}
use Rattle.issuing.specs.Ends.{end_at, Fails}
use Rattle.issuing.specs.declared.issue_fault.IssueFault.{IssueFault}
use Rattle.issuing.specs.declared.issue_fault.IssueFault.TheVariants.{Device, Dice, Limit, Memory}

-- ---- a fault of the first part ends the whole by that fault

-- of one device,
pub device_ended : {A B : Type 0} {p : Plan (Result A IssueFault)} (f : A → Plan (Result B IssueFault)) {old new : List Exchange} (fault : DeviceFault)
    → Follows p old new (came_to {A = A} {B = A} Device (λ a. a) (Err fault)) → Follows (p >>= f) old new (came_to {A = B} {B = B} Device (λ b. b) (Err fault))
device_ended f {new = new} devices.Failed first = then_more (unless_fault f) first (ended new)
device_ended f devices.Memory first = cut_short (unless_fault f) first

-- of dice,
pub dice_ended : {A B : Type 0} {p : Plan (Result A IssueFault)} (f : A → Plan (Result B IssueFault)) {one other one' other' : List Exchange} {dealt dealt' : List ℕ} (fault : DiceFault)
    → FollowsAll p one other dealt one' other' dealt' (dice_end {A = A} {B = Result A IssueFault} (λ a. Ok a) (Err fault)) → FollowsAll (p >>= f) one other dealt one' other' dealt' (dice_end {A = B} {B = Result B IssueFault} (λ b. Ok b) (Err fault))
dice_ended f dices.Failed first = all_undealt (unless_fault f) first
dice_ended f dices.Memory first = all_cut (unless_fault f) first

-- of all.
pub all_ended_early : {A B : Type 0} {p : Plan (Result A IssueFault)} (f : A → Plan (Result B IssueFault)) {one other one' other' : List Exchange} {dealt dealt' : List ℕ} (fault : IssueFault)
    → FollowsAll p one other dealt one' other' dealt' (end_at {A = A} (Err fault)) → FollowsAll (p >>= f) one other dealt one' other' dealt' (end_at {A = B} (Err fault))
all_ended_early f {one' = one'} {other' = other'} {dealt' = dealt'} Device first = all_more (unless_fault f) first (all_ended one' other' dealt')
all_ended_early f Dice first = all_undealt (unless_fault f) first
all_ended_early f {one' = one'} {other' = other'} {dealt' = dealt'} (Limit passed by) first = all_more (unless_fault f) first (all_ended one' other' dealt')
all_ended_early f Memory first = all_cut (unless_fault f) first

-- one of so many does too
pub dice_times_ended : {A : Type 0} (p : Plan (Result A IssueFault)) (i n : ℕ) {one other one' other' one'' other'' : List Exchange} {dealt dealt' dealt'' : List ℕ} {ys : List A} (fault : DiceFault)
    → FollowsAll (times i p) one other dealt one' other' dealt' (Finished (Ok ys)) → i < n
    → FollowsAll p one' other' dealt' one'' other'' dealt'' (dice_end {A = A} {B = Result A IssueFault} (λ a. Ok a) (Err fault)) → FollowsAll (times n p) one other dealt one'' other'' dealt'' (dice_end {A = List A} {B = Result (List A) IssueFault} (λ ys. Ok ys) (Err fault))
dice_times_ended p i n dices.Failed first within second = all_times_undealt p i n first within second
dice_times_ended p i n dices.Memory first within second = all_times_cut p i n first within second

pub all_times_ended : {A : Type 0} (p : Plan (Result A IssueFault)) (i n : ℕ) {one other one' other' one'' other'' : List Exchange} {dealt dealt' dealt'' : List ℕ} {ys : List A} (fault : IssueFault)
    → FollowsAll (times i p) one other dealt one' other' dealt' (Finished (Ok ys)) → i < n
    → FollowsAll p one' other' dealt' one'' other'' dealt'' (end_at {A = A} (Err fault)) → FollowsAll (times n p) one other dealt one'' other'' dealt'' (end_at {A = List A} (Err fault))
all_times_ended p i n Device first within second = all_times_stopped p i n first within second
all_times_ended p i n Dice first within second = all_times_undealt p i n first within second
all_times_ended p i n (Limit passed by) first within second = all_times_stopped p i n first within second
all_times_ended p i n Memory first within second = all_times_cut p i n first within second

-- ---- a part that asks one alone is a part of the whole

pub by_holder : {A : Type 0} {p : Plan (Result A IssueFault)} {old new : List Exchange} (fault : DeviceFault) (other : List Exchange) (dealt : List ℕ)
    → Follows p old new (came_to {A = A} {B = A} Device (λ a. a) (Err fault)) → FollowsAll p old other dealt new other dealt (end_at {A = A} (Err (of_device Device Memory fault)))
by_holder devices.Failed other dealt follows = by_one other dealt follows
by_holder devices.Memory other dealt follows = by_one other dealt follows

pub by_issuer : {A : Type 0} {p : Plan (Result A IssueFault)} {old new : List Exchange} (fault : DeviceFault) (one : List Exchange) (dealt : List ℕ)
    → Follows p old new (came_to {A = A} {B = A} Device (λ a. a) (Err fault)) → FollowsAll (of_other p) one old dealt one new dealt (end_at {A = A} (Err (of_device Device Memory fault)))
by_issuer devices.Failed one dealt follows = by_other one dealt follows
by_issuer devices.Memory one dealt follows = by_other one dealt follows

pub by_words : {A : Type 0} {p : Plan (Result A IssueFault)} {one other one' other' : List Exchange} {dealt dealt' : List ℕ} (fault : DiceFault)
    → FollowsAll p one other dealt one' other' dealt' (dice_end {A = A} {B = Result A IssueFault} (λ a. Ok a) (Err fault)) → FollowsAll p one other dealt one' other' dealt' (end_at {A = A} (Err (of_dice Dice Memory fault)))
by_words dices.Failed follows = follows
by_words dices.Memory follows = follows

-- ---- the counts of faults

abbrev failed_with : {E : Type 0} (A : Type 0) → E → Result A E
failed_with A e = Err e

same_fault : {E : Type 0} (A B : Type 0) (e f : E) → failed_with B e ≡ failed_with B f → failed_with A e ≡ failed_with A f
same_fault {E} A B e f is = let same : e ≡ f = cc in ap (λ (x : E). failed_with A x) same

-- the count stayed in a first part, and then the call ended with a fault,
pub caused_then : {A B E : Type 0} {failed memory fault : E} {before mid after : ℕ} → mid ≡ before
    → HasCause {T = A} failed memory mid after (Err fault) → HasCause {T = B} failed memory before after (Err fault)
caused_then {A} {B} {E} {failed} {memory} {fault} {before} {mid} {after} same cause =
    let own : HasCause {T = B} failed memory mid after (Err fault) = record { later = cause.later; rose = λ is. cause.rose (same_fault A B fault failed is); done = tt; out_of_memory = λ is. cause.out_of_memory (same_fault A B fault memory is) } in
    subst (λ (n : ℕ). HasCause {T = B} failed memory n after (Err fault)) same own

pub caused_before : {A E : Type 0} {failed memory : E} {before mid after : ℕ} {outcome : Result A E} → mid ≡ before
    → HasCause failed memory mid after outcome → HasCause failed memory before after outcome
caused_before {A} {E} {failed} {memory} {after = after} {outcome = outcome} same cause = subst (λ (n : ℕ). HasCause failed memory n after outcome) same cause

-- or with a value
pub caused_ok : {A E : Type 0} {failed memory : E} {before after : ℕ} (a : A) → after ≡ before → HasCause failed memory before after (Ok a)
caused_ok a same = record { later = omega arith; rose = λ is. absurd cc; done = same; out_of_memory = λ is. absurd cc }

-- memory was wanting where nothing had been asked
pub caused_memory : {A E : Type 0} {failed memory : E} {before after : ℕ} → (failed ≡ memory → ⊥) → after ≡ before → HasCause {T = A} failed memory before after (Err memory)
caused_memory {A} {E} {failed} {memory} differ same = record { later = omega arith; rose = λ is. let e : memory ≡ failed = cc in absurd (differ (sym e)); done = tt; out_of_memory = λ is. same }

pub device_memory : {A : Type 0} {before after : ℕ} → after ≡ before → HasCause {T = A} devices.Failed devices.Memory before after (Err devices.Memory)
device_memory same = caused_memory (λ (is : devices.Failed ≡ devices.Memory). cc) same

-- A part that ended with a fault is the cause of the whole.
pub holder_failed : {A : Type 0} {h h' i i' d d' : ℕ} (fault : DeviceFault) → i' ≡ i → d' ≡ d
    → HasCause {T = A} devices.Failed devices.Memory h h' (Err fault) → Fails h h' i i' d d' (of_device Device Memory fault)
holder_failed devices.Failed issuer dice cause = inl (cause.rose refl, issuer, dice)
holder_failed devices.Memory issuer dice cause = (cause.out_of_memory refl, issuer, dice)

pub issuer_failed : {A : Type 0} {h h' i i' d d' : ℕ} (fault : DeviceFault) → h' ≡ h → d' ≡ d
    → HasCause {T = A} devices.Failed devices.Memory i i' (Err fault) → Fails h h' i i' d d' (of_device Device Memory fault)
issuer_failed devices.Failed holder dice cause = inr (holder, cause.rose refl, dice)
issuer_failed devices.Memory holder dice cause = (holder, cause.out_of_memory refl, dice)

pub dice_failed : {A : Type 0} {h h' i i' d d' : ℕ} (fault : DiceFault) → h' ≡ h → i' ≡ i
    → HasCause {T = A} dices.Failed dices.Memory d d' (Err fault) → Fails h h' i i' d d' (of_dice Dice Memory fault)
dice_failed dices.Failed holder issuer cause = (holder, issuer, cause.rose refl)
dice_failed dices.Memory holder issuer cause = (holder, issuer, cause.out_of_memory refl)

-- So is one after parts that left the counts.
pub failed_then : {h h' i i' d d' : ℕ} (h'' i'' d'' : ℕ) (fault : IssueFault) → h' ≡ h → i' ≡ i → d' ≡ d
    → Fails h' h'' i' i'' d' d'' fault → Fails h h'' i i'' d d'' fault
failed_then {h} {h'} {i} {i'} {d} {d'} h'' i'' d'' fault holder issuer dice fails =
    subst (λ (n : ℕ). Fails h h'' i i'' n d'' fault) dice (subst (λ (n : ℕ). Fails h h'' n i'' d' d'' fault) issuer (subst (λ (n : ℕ). Fails n h'' i' i'' d' d'' fault) holder fails))
