-- How the talks and words of a run follow plans one after the other: up to a first fault, for each of
-- a list, up to a first yes, and step by step over a state.
use Rattle.std.proofs.Common.{◌≡◌, ◌+◌, ◌-◌, ◌<◌, ◌≤◌, ℕ, suc, List, [], ◌∷◌, ◌++◌, Bool, true, false, length, take, drop, get_or, replicate, Option, Some, None, Result, Ok, Err, refl, sym, ◌∙◌, ap, subst, add-one, drop-cons, arith}
use Rattle.std.proofs.Math.Seq.{take-suc}
use Rattle.std.proofs.lemmas.List.{take-append-drop, replicate-append-replicate}
use Rattle.key_device.proofs.AllPlanLemmas.{all_more, all_cut, all_undealt, all_ended, all_unasked}
use Rattle.key_device.proofs.PlanEquations.{behind, each_append, unless_found, first_append, folded_append, folded_one}
use Rattle.key_device.specs.Plan.{Plan, Done, End, Finished, OutOfWords, OutOfMemory, FollowsAll}
use Rattle.key_device.specs.PlanSteps.{unless_fault, ◌>>=◌, each, times, first_yes, folded, mapped}
use Rattle.key_device.specs.declared.exchange.Exchange.{Exchange}

-- what a part of a list came to, after the values of the part before
abbrev pub with_front : {Y E : Type 0} → List Y → End (Result (List Y) E) → End (Result (List Y) E)
with_front front OutOfMemory = OutOfMemory
with_front front OutOfWords = OutOfWords
with_front front (Finished (Err e)) = Finished (Err e)
with_front front (Finished (Ok back)) = Finished (Ok (front ++ back))

-- a run that followed a plan for each of one list, and then of another
pub each_joined : {X Y E : Type 0} (step : X → Plan (Result Y E)) (front back : List X) {one other one' other' one'' other'' : List Exchange} {dealt dealt' dealt'' : List ℕ} (ys : List Y) (end : End (Result (List Y) E))
    → FollowsAll (each step front) one other dealt one' other' dealt' (Finished (Ok ys)) → FollowsAll (each step back) one' other' dealt' one'' other'' dealt'' end
    → FollowsAll (each step (front ++ back)) one other dealt one'' other'' dealt'' (with_front ys end)
each_joined {X} {Y} {E} step front back {one} {other} {one'} {other'} {one''} {other''} {dealt} {dealt'} {dealt''} ys end first second =
    subst (λ (p : Plan (Result (List Y) E)). FollowsAll p one other dealt one'' other'' dealt'' (with_front ys end)) (sym (each_append step front back))
    (all_more (unless_fault (λ zs. each step back >>= behind zs)) first (last end second))
  where
    last : (t : End (Result (List Y) E)) → FollowsAll (each step back) one' other' dealt' one'' other'' dealt'' t → FollowsAll (each step back >>= behind ys) one' other' dealt' one'' other'' dealt'' (with_front ys t)
    last OutOfMemory follows = all_cut (unless_fault (behind ys)) follows
    last OutOfWords follows = all_undealt (unless_fault (behind ys)) follows
    last (Finished (Err e)) follows = all_more (unless_fault (behind ys)) follows (all_ended one'' other'' dealt'')
    last (Finished (Ok zs)) follows = all_more (unless_fault (behind ys)) follows (all_ended one'' other'' dealt'')

-- what a plan of one came to, as one of a list
abbrev pub as_list : {Y E : Type 0} → End (Result Y E) → End (Result (List Y) E)
as_list OutOfMemory = OutOfMemory
as_list OutOfWords = OutOfWords
as_list (Finished (Err e)) = Finished (Err e)
as_list (Finished (Ok y)) = Finished (Ok (y ∷ []))

each_one : {X Y E : Type 0} (step : X → Plan (Result Y E)) (x : X) {one other one' other' : List Exchange} {dealt dealt' : List ℕ} (end : End (Result Y E))
    → FollowsAll (step x) one other dealt one' other' dealt' end → FollowsAll (each step (x ∷ [])) one other dealt one' other' dealt' (as_list end)
each_one step x OutOfMemory follows = all_cut _ follows
each_one step x OutOfWords follows = all_undealt _ follows
each_one step x {one' = one'} {other' = other'} {dealt' = dealt'} (Finished (Err e)) follows = all_more _ follows (all_ended one' other' dealt')
each_one step x {one' = one'} {other' = other'} {dealt' = dealt'} (Finished (Ok y)) follows = all_more _ follows (all_ended one' other' dealt')

-- what came of one ends the list: a fault, a missing word or want of memory
abbrev stops : {Y Z E : Type 0} → End (Result Y E) → End (Result Z E) → Type 0
stops (Finished (Ok y)) end = ⊥
stops (Finished (Err e)) end = end ≡ Finished (Err e)
stops OutOfWords end = end ≡ OutOfWords
stops OutOfMemory end = end ≡ OutOfMemory

stop : {X Y E : Type 0} (step : X → Plan (Result Y E)) (x : X) (xs : List X) {one other one' other' : List Exchange} {dealt dealt' : List ℕ} (came : End (Result Y E)) (end : End (Result (List Y) E))
    → stops came end → FollowsAll (step x) one other dealt one' other' dealt' came → FollowsAll (each step (x ∷ xs)) one other dealt one' other' dealt' end
stop step x xs (Finished (Ok y)) end is follows = absurd is
stop step x xs {one' = one'} {other' = other'} {dealt' = dealt'} (Finished (Err e)) end is follows = rw is (all_more _ follows (all_ended one' other' dealt'))
stop step x xs OutOfWords end is follows = rw is (all_undealt _ follows)
stop step x xs OutOfMemory end is follows = rw is (all_cut _ follows)

pub rest_of : {X : Type 0} (xs : List X) (i : ℕ) (x : X) → i < length xs → x ≡ get_or xs i x → take i xs ++ x ∷ drop (i + 1) xs ≡ xs
rest_of xs i x within is =
    rw add-one (ap (λ (rest : List _). take i xs ++ rest) (sym (drop-cons xs i x within ∙ ap (λ y. y ∷ drop (suc i) xs) (sym is))) ∙ take-append-drop i xs)

pub front_of : {X : Type 0} (xs : List X) (i : ℕ) (x : X) → i < length xs → x ≡ get_or xs i x → take (i + 1) xs ≡ take i xs ++ x ∷ []
front_of xs i x within is = rw add-one (take-suc xs i x within ∙ ap (λ z. take i xs ++ z ∷ []) (sym is))

-- What a loop that asks for each of a list shows: before the first,
pub all_each_begun : {X Y E : Type 0} (step : X → Plan (Result Y E)) (xs : List X) (one other : List Exchange) (dealt : List ℕ)
    → FollowsAll (each step (take 0 xs)) one other dealt one other dealt (Finished (Ok []))
all_each_begun step xs one other dealt = all_ended one other dealt

-- after one more,
pub all_each_more : {X Y E : Type 0} (step : X → Plan (Result Y E)) (xs : List X) (i : ℕ) {one other one' other' one'' other'' : List Exchange} {dealt dealt' dealt'' : List ℕ} {ys : List Y} (x : X) (y : Y)
    → FollowsAll (each step (take i xs)) one other dealt one' other' dealt' (Finished (Ok ys)) → i < length xs → x ≡ get_or xs i x
    → FollowsAll (step x) one' other' dealt' one'' other'' dealt'' (Finished (Ok y)) → FollowsAll (each step (take (i + 1) xs)) one other dealt one'' other'' dealt'' (Finished (Ok (ys ++ y ∷ [])))
all_each_more step xs i {ys = ys} x y first within is second =
    rw (front_of xs i x within is) (each_joined step (take i xs) (x ∷ []) ys (Finished (Ok (y ∷ []))) first (each_one step x (Finished (Ok y)) second))

each_halted : {X Y E : Type 0} (step : X → Plan (Result Y E)) (xs : List X) (i : ℕ) {one other one' other' one'' other'' : List Exchange} {dealt dealt' dealt'' : List ℕ} {ys : List Y} (x : X) (came : End (Result Y E)) (end : End (Result (List Y) E))
    → stops came end → with_front ys end ≡ end
    → FollowsAll (each step (take i xs)) one other dealt one' other' dealt' (Finished (Ok ys)) → i < length xs → x ≡ get_or xs i x
    → FollowsAll (step x) one' other' dealt' one'' other'' dealt'' came → FollowsAll (each step xs) one other dealt one'' other'' dealt'' end
each_halted {X} {Y} {E} step xs i {one} {other} {one'} {other'} {one''} {other''} {dealt} {dealt'} {dealt''} {ys} x came end is same first within at second =
    subst (λ (t : End (Result (List Y) E)). FollowsAll (each step xs) one other dealt one'' other'' dealt'' t) same
    (subst (λ (all : List X). FollowsAll (each step all) one other dealt one'' other'' dealt'' (with_front ys end)) (rest_of xs i x within at)
    (each_joined step (take i xs) (x ∷ drop (i + 1) xs) ys end first (stop step x (drop (i + 1) xs) came end is second)))

-- at a fault,
pub all_each_stopped : {X Y E : Type 0} (step : X → Plan (Result Y E)) (xs : List X) (i : ℕ) {one other one' other' one'' other'' : List Exchange} {dealt dealt' dealt'' : List ℕ} {ys : List Y} {e : E} (x : X)
    → FollowsAll (each step (take i xs)) one other dealt one' other' dealt' (Finished (Ok ys)) → i < length xs → x ≡ get_or xs i x
    → FollowsAll (step x) one' other' dealt' one'' other'' dealt'' (Finished (Err e)) → FollowsAll (each step xs) one other dealt one'' other'' dealt'' (Finished (Err e))
all_each_stopped step xs i {e = e} x first within is second = each_halted step xs i x (Finished (Err e)) (Finished (Err e)) refl refl first within is second

-- where memory was wanting in one,
pub all_each_cut : {X Y E : Type 0} (step : X → Plan (Result Y E)) (xs : List X) (i : ℕ) {one other one' other' one'' other'' : List Exchange} {dealt dealt' dealt'' : List ℕ} {ys : List Y} (x : X)
    → FollowsAll (each step (take i xs)) one other dealt one' other' dealt' (Finished (Ok ys)) → i < length xs → x ≡ get_or xs i x
    → FollowsAll (step x) one' other' dealt' one'' other'' dealt'' OutOfMemory → FollowsAll (each step xs) one other dealt one'' other'' dealt'' OutOfMemory
all_each_cut step xs i x first within is second = each_halted step xs i x OutOfMemory OutOfMemory refl refl first within is second

-- before one,
pub all_each_paused : {X Y E : Type 0} (step : X → Plan (Result Y E)) (xs : List X) (i : ℕ) {one other one' other' : List Exchange} {dealt dealt' : List ℕ} {ys : List Y}
    → FollowsAll (each step (take i xs)) one other dealt one' other' dealt' (Finished (Ok ys)) → FollowsAll (each step xs) one other dealt one' other' dealt' OutOfMemory
all_each_paused {X} {Y} {E} step xs i {one} {other} {one'} {other'} {dealt} {dealt'} {ys} first =
    subst (λ (all : List X). FollowsAll (each step all) one other dealt one' other' dealt' OutOfMemory) (take-append-drop i xs)
    (each_joined step (take i xs) (drop i xs) ys OutOfMemory first (all_unasked refl refl refl))

-- and after one.
pub all_each_left : {X Y E : Type 0} (step : X → Plan (Result Y E)) (xs : List X) (i : ℕ) {one other one' other' one'' other'' : List Exchange} {dealt dealt' dealt'' : List ℕ} {ys : List Y} (x : X) (y : Y)
    → FollowsAll (each step (take i xs)) one other dealt one' other' dealt' (Finished (Ok ys)) → i < length xs → x ≡ get_or xs i x
    → FollowsAll (step x) one' other' dealt' one'' other'' dealt'' (Finished (Ok y)) → FollowsAll (each step xs) one other dealt one'' other'' dealt'' OutOfMemory
all_each_left step xs i x y first within is second = all_each_paused step xs (i + 1) (all_each_more step xs i x y first within is second)

again : {Y E : Type 0} (m n : ℕ) (plan : Plan (Result Y E)) {one other one' other' one'' other'' : List Exchange} {dealt dealt' dealt'' : List ℕ} (ys : List Y) (end : End (Result (List Y) E))
    → FollowsAll (times m plan) one other dealt one' other' dealt' (Finished (Ok ys)) → FollowsAll (times n plan) one' other' dealt' one'' other'' dealt'' end
    → FollowsAll (times (m + n) plan) one other dealt one'' other'' dealt'' (with_front ys end)
again {Y} {E} m n plan {one} {other} {one'} {other'} {one''} {other''} {dealt} {dealt'} {dealt''} ys end first second =
    subst (λ (us : List (Unit {0})). FollowsAll (each (λ u. plan) us) one other dealt one'' other'' dealt'' (with_front ys end)) (replicate-append-replicate m n (tt {0}))
    (each_joined (λ u. plan) (replicate m (tt {0})) (replicate n (tt {0})) ys end first second)

-- What a loop that asks so many times shows: before the first,
pub all_times_begun : {Y E : Type 0} (plan : Plan (Result Y E)) (one other : List Exchange) (dealt : List ℕ)
    → FollowsAll (times 0 plan) one other dealt one other dealt (Finished (Ok []))
all_times_begun plan one other dealt = all_ended one other dealt

-- after one more,
pub all_times_more : {Y E : Type 0} (plan : Plan (Result Y E)) (i : ℕ) {one other one' other' one'' other'' : List Exchange} {dealt dealt' dealt'' : List ℕ} {ys : List Y} (y : Y)
    → FollowsAll (times i plan) one other dealt one' other' dealt' (Finished (Ok ys)) → FollowsAll plan one' other' dealt' one'' other'' dealt'' (Finished (Ok y))
    → FollowsAll (times (i + 1) plan) one other dealt one'' other'' dealt'' (Finished (Ok (ys ++ y ∷ [])))
all_times_more plan i {ys = ys} y first second =
    again i 1 plan ys (Finished (Ok (y ∷ []))) first (each_one (λ u. plan) (tt {0}) (Finished (Ok y)) second)

times_halted : {Y E : Type 0} (plan : Plan (Result Y E)) (i n : ℕ) {one other one' other' one'' other'' : List Exchange} {dealt dealt' dealt'' : List ℕ} {ys : List Y} (came : End (Result Y E)) (end : End (Result (List Y) E))
    → stops came end → with_front ys end ≡ end
    → FollowsAll (times i plan) one other dealt one' other' dealt' (Finished (Ok ys)) → i < n → FollowsAll plan one' other' dealt' one'' other'' dealt'' came
    → FollowsAll (times n plan) one other dealt one'' other'' dealt'' end
times_halted {Y} {E} plan i n {one} {other} {one'} {other'} {one''} {other''} {dealt} {dealt'} {dealt''} {ys} came end is same first within second =
    let all : i + suc (n - (i + 1)) ≡ n = omega arith in
    subst (λ (t : End (Result (List Y) E)). FollowsAll (times n plan) one other dealt one'' other'' dealt'' t) same
    (subst (λ (m : ℕ). FollowsAll (times m plan) one other dealt one'' other'' dealt'' (with_front ys end)) all
    (again i (suc (n - (i + 1))) plan ys end first (stop (λ u. plan) (tt {0}) (replicate (n - (i + 1)) (tt {0})) came end is second)))

-- at a fault,
pub all_times_stopped : {Y E : Type 0} (plan : Plan (Result Y E)) (i n : ℕ) {one other one' other' one'' other'' : List Exchange} {dealt dealt' dealt'' : List ℕ} {ys : List Y} {e : E}
    → FollowsAll (times i plan) one other dealt one' other' dealt' (Finished (Ok ys)) → i < n
    → FollowsAll plan one' other' dealt' one'' other'' dealt'' (Finished (Err e)) → FollowsAll (times n plan) one other dealt one'' other'' dealt'' (Finished (Err e))
all_times_stopped plan i n {e = e} first within second = times_halted plan i n (Finished (Err e)) (Finished (Err e)) refl refl first within second

-- where a word wasn't dealt in one,
pub all_times_undealt : {Y E : Type 0} (plan : Plan (Result Y E)) (i n : ℕ) {one other one' other' one'' other'' : List Exchange} {dealt dealt' dealt'' : List ℕ} {ys : List Y}
    → FollowsAll (times i plan) one other dealt one' other' dealt' (Finished (Ok ys)) → i < n
    → FollowsAll plan one' other' dealt' one'' other'' dealt'' OutOfWords → FollowsAll (times n plan) one other dealt one'' other'' dealt'' OutOfWords
all_times_undealt plan i n first within second = times_halted plan i n OutOfWords OutOfWords refl refl first within second

-- where memory was wanting in one,
pub all_times_cut : {Y E : Type 0} (plan : Plan (Result Y E)) (i n : ℕ) {one other one' other' one'' other'' : List Exchange} {dealt dealt' dealt'' : List ℕ} {ys : List Y}
    → FollowsAll (times i plan) one other dealt one' other' dealt' (Finished (Ok ys)) → i < n
    → FollowsAll plan one' other' dealt' one'' other'' dealt'' OutOfMemory → FollowsAll (times n plan) one other dealt one'' other'' dealt'' OutOfMemory
all_times_cut plan i n first within second = times_halted plan i n OutOfMemory OutOfMemory refl refl first within second

-- before one,
pub all_times_paused : {Y E : Type 0} (plan : Plan (Result Y E)) (i n : ℕ) {one other one' other' : List Exchange} {dealt dealt' : List ℕ} {ys : List Y}
    → FollowsAll (times i plan) one other dealt one' other' dealt' (Finished (Ok ys)) → i ≤ n → FollowsAll (times n plan) one other dealt one' other' dealt' OutOfMemory
all_times_paused {Y} {E} plan i n {one} {other} {one'} {other'} {dealt} {dealt'} {ys} first within =
    let all : i + (n - i) ≡ n = omega arith in
    subst (λ (m : ℕ). FollowsAll (times m plan) one other dealt one' other' dealt' OutOfMemory) all
    (again i (n - i) plan ys OutOfMemory first (all_unasked refl refl refl))

-- and after one.
pub all_times_left : {Y E : Type 0} (plan : Plan (Result Y E)) (i n : ℕ) {one other one' other' one'' other'' : List Exchange} {dealt dealt' dealt'' : List ℕ} {ys : List Y} (y : Y)
    → FollowsAll (times i plan) one other dealt one' other' dealt' (Finished (Ok ys)) → i < n
    → FollowsAll plan one' other' dealt' one'' other'' dealt'' (Finished (Ok y)) → FollowsAll (times n plan) one other dealt one'' other'' dealt'' OutOfMemory
all_times_left plan i n y first within second = all_times_paused plan (i + 1) n (all_times_more plan i y first second) (omega arith)

pub ruleset all_times_exits = (all_times_begun, all_times_more, all_times_stopped, all_times_undealt, all_times_cut, all_times_paused, all_times_left)

search_on : {X E : Type 0} (says : X → Plan (Result Bool E)) (front back : List X) {one other one' other' one'' other'' : List Exchange} {dealt dealt' dealt'' : List ℕ} (end : End (Result (Option X) E))
    → FollowsAll (first_yes says front) one other dealt one' other' dealt' (Finished (Ok None)) → FollowsAll (first_yes says back) one' other' dealt' one'' other'' dealt'' end
    → FollowsAll (first_yes says (front ++ back)) one other dealt one'' other'' dealt'' end
search_on {X} {E} says front back {one} {other} {one'} {other'} {one''} {other''} {dealt} {dealt'} {dealt''} end first second =
    subst (λ (p : Plan (Result (Option X) E)). FollowsAll p one other dealt one'' other'' dealt'' end) (sym (first_append says front back))
    (all_more (unless_fault (unless_found (first_yes says back))) first second)

-- What a search shows: before the first,
pub all_first_begun : {X E : Type 0} (says : X → Plan (Result Bool E)) (xs : List X) (one other : List Exchange) (dealt : List ℕ)
    → FollowsAll (first_yes says (take 0 xs)) one other dealt one other dealt (Finished (Ok None))
all_first_begun says xs one other dealt = all_ended one other dealt

-- after a no,
pub all_first_no : {X E : Type 0} (says : X → Plan (Result Bool E)) (xs : List X) (i : ℕ) {one other one' other' one'' other'' : List Exchange} {dealt dealt' dealt'' : List ℕ} (x : X)
    → FollowsAll (first_yes says (take i xs)) one other dealt one' other' dealt' (Finished (Ok None)) → i < length xs → x ≡ get_or xs i x
    → FollowsAll (says x) one' other' dealt' one'' other'' dealt'' (Finished (Ok false)) → FollowsAll (first_yes says (take (i + 1) xs)) one other dealt one'' other'' dealt'' (Finished (Ok None))
all_first_no says xs i {one'' = one''} {other'' = other''} {dealt'' = dealt''} x first within is second =
    rw (front_of xs i x within is) (search_on says (take i xs) (x ∷ []) (Finished (Ok None)) first (all_more _ second (all_ended one'' other'' dealt'')))

search_halted : {X E : Type 0} (says : X → Plan (Result Bool E)) (xs : List X) (i : ℕ) {one other one' other' one'' other'' : List Exchange} {dealt dealt' dealt'' : List ℕ} (x : X) (end : End (Result (Option X) E))
    → FollowsAll (first_yes says (take i xs)) one other dealt one' other' dealt' (Finished (Ok None)) → i < length xs → x ≡ get_or xs i x
    → FollowsAll (first_yes says (x ∷ drop (i + 1) xs)) one' other' dealt' one'' other'' dealt'' end → FollowsAll (first_yes says xs) one other dealt one'' other'' dealt'' end
search_halted {X} {E} says xs i {one} {other} {one'} {other'} {one''} {other''} {dealt} {dealt'} {dealt''} x end first within is second =
    subst (λ (all : List X). FollowsAll (first_yes says all) one other dealt one'' other'' dealt'' end) (rest_of xs i x within is)
    (search_on says (take i xs) (x ∷ drop (i + 1) xs) end first second)

-- at a yes,
pub all_first_found : {X E : Type 0} (says : X → Plan (Result Bool E)) (xs : List X) (i : ℕ) {one other one' other' one'' other'' : List Exchange} {dealt dealt' dealt'' : List ℕ} (x : X)
    → FollowsAll (first_yes says (take i xs)) one other dealt one' other' dealt' (Finished (Ok None)) → i < length xs → x ≡ get_or xs i x
    → FollowsAll (says x) one' other' dealt' one'' other'' dealt'' (Finished (Ok true)) → FollowsAll (first_yes says xs) one other dealt one'' other'' dealt'' (Finished (Ok (Some x)))
all_first_found says xs i {one'' = one''} {other'' = other''} {dealt'' = dealt''} x first within is second =
    search_halted says xs i x (Finished (Ok (Some x))) first within is (all_more _ second (all_ended one'' other'' dealt''))

-- at a fault,
pub all_first_stopped : {X E : Type 0} (says : X → Plan (Result Bool E)) (xs : List X) (i : ℕ) {one other one' other' one'' other'' : List Exchange} {dealt dealt' dealt'' : List ℕ} {e : E} (x : X)
    → FollowsAll (first_yes says (take i xs)) one other dealt one' other' dealt' (Finished (Ok None)) → i < length xs → x ≡ get_or xs i x
    → FollowsAll (says x) one' other' dealt' one'' other'' dealt'' (Finished (Err e)) → FollowsAll (first_yes says xs) one other dealt one'' other'' dealt'' (Finished (Err e))
all_first_stopped says xs i {one'' = one''} {other'' = other''} {dealt'' = dealt''} {e = e} x first within is second =
    search_halted says xs i x (Finished (Err e)) first within is (all_more _ second (all_ended one'' other'' dealt''))

-- where memory was wanting in one,
pub all_first_cut : {X E : Type 0} (says : X → Plan (Result Bool E)) (xs : List X) (i : ℕ) {one other one' other' one'' other'' : List Exchange} {dealt dealt' dealt'' : List ℕ} (x : X)
    → FollowsAll (first_yes says (take i xs)) one other dealt one' other' dealt' (Finished (Ok None)) → i < length xs → x ≡ get_or xs i x
    → FollowsAll (says x) one' other' dealt' one'' other'' dealt'' OutOfMemory → FollowsAll (first_yes says xs) one other dealt one'' other'' dealt'' OutOfMemory
all_first_cut says xs i x first within is second = search_halted says xs i x OutOfMemory first within is (all_cut _ second)

-- and before one.
pub all_first_paused : {X E : Type 0} (says : X → Plan (Result Bool E)) (xs : List X) (i : ℕ) {one other one' other' : List Exchange} {dealt dealt' : List ℕ}
    → FollowsAll (first_yes says (take i xs)) one other dealt one' other' dealt' (Finished (Ok None)) → FollowsAll (first_yes says xs) one other dealt one' other' dealt' OutOfMemory
all_first_paused {X} {E} says xs i {one} {other} {one'} {other'} {dealt} {dealt'} first =
    subst (λ (all : List X). FollowsAll (first_yes says all) one other dealt one' other' dealt' OutOfMemory) (take-append-drop i xs)
    (search_on says (take i xs) (drop i xs) OutOfMemory first (all_unasked refl refl refl))

steps_on : {S X : Type 0} (step : S → X → Plan S) (state : S) (front back : List X) {one other one' other' one'' other'' : List Exchange} {dealt dealt' dealt'' : List ℕ} {mid : S} (end : End S)
    → FollowsAll (folded step state front) one other dealt one' other' dealt' (Finished mid) → FollowsAll (folded step mid back) one' other' dealt' one'' other'' dealt'' end
    → FollowsAll (folded step state (front ++ back)) one other dealt one'' other'' dealt'' end
steps_on {S} {X} step state front back {one} {other} {one'} {other'} {one''} {other''} {dealt} {dealt'} {dealt''} end first second =
    subst (λ (p : Plan S). FollowsAll p one other dealt one'' other'' dealt'' end) (sym (folded_append step state front back))
    (all_more (λ next. folded step next back) first second)

-- What a loop of steps over a state shows: before the first,
pub all_folded_begun : {S X : Type 0} (step : S → X → Plan S) (state : S) (xs : List X) (one other : List Exchange) (dealt : List ℕ)
    → FollowsAll (folded step state (take 0 xs)) one other dealt one other dealt (Finished state)
all_folded_begun step state xs one other dealt = all_ended one other dealt

-- after one more,
pub all_folded_more : {S X : Type 0} (step : S → X → Plan S) (state : S) (xs : List X) (i : ℕ) {one other one' other' one'' other'' : List Exchange} {dealt dealt' dealt'' : List ℕ} {mid last : S} (x : X)
    → FollowsAll (folded step state (take i xs)) one other dealt one' other' dealt' (Finished mid) → i < length xs → x ≡ get_or xs i x
    → FollowsAll (step mid x) one' other' dealt' one'' other'' dealt'' (Finished last) → FollowsAll (folded step state (take (i + 1) xs)) one other dealt one'' other'' dealt'' (Finished last)
all_folded_more {S} {X} step state xs i {one} {other} {one'} {other'} {one''} {other''} {dealt} {dealt'} {dealt''} {mid} {last} x first within is second =
    rw (front_of xs i x within is) (steps_on step state (take i xs) (x ∷ []) (Finished last) first
    (subst (λ (p : Plan S). FollowsAll p one' other' dealt' one'' other'' dealt'' (Finished last)) (sym (folded_one step mid x)) second))

steps_halted : {S X : Type 0} (step : S → X → Plan S) (state : S) (xs : List X) (i : ℕ) {one other one' other' one'' other'' : List Exchange} {dealt dealt' dealt'' : List ℕ} {mid : S} (x : X) (end : End S)
    → FollowsAll (folded step state (take i xs)) one other dealt one' other' dealt' (Finished mid) → i < length xs → x ≡ get_or xs i x
    → FollowsAll (folded step mid (x ∷ drop (i + 1) xs)) one' other' dealt' one'' other'' dealt'' end → FollowsAll (folded step state xs) one other dealt one'' other'' dealt'' end
steps_halted {S} {X} step state xs i {one} {other} {one'} {other'} {one''} {other''} {dealt} {dealt'} {dealt''} x end first within is second =
    subst (λ (all : List X). FollowsAll (folded step state all) one other dealt one'' other'' dealt'' end) (rest_of xs i x within is)
    (steps_on step state (take i xs) (x ∷ drop (i + 1) xs) end first second)

-- where memory was wanting in one,
pub all_folded_cut : {S X : Type 0} (step : S → X → Plan S) (state : S) (xs : List X) (i : ℕ) {one other one' other' one'' other'' : List Exchange} {dealt dealt' dealt'' : List ℕ} {mid : S} (x : X)
    → FollowsAll (folded step state (take i xs)) one other dealt one' other' dealt' (Finished mid) → i < length xs → x ≡ get_or xs i x
    → FollowsAll (step mid x) one' other' dealt' one'' other'' dealt'' OutOfMemory → FollowsAll (folded step state xs) one other dealt one'' other'' dealt'' OutOfMemory
all_folded_cut step state xs i {mid = mid} x first within is second = steps_halted step state xs i x OutOfMemory first within is (all_cut _ second)

-- and before one.
pub all_folded_paused : {S X : Type 0} (step : S → X → Plan S) (state : S) (xs : List X) (i : ℕ) {one other one' other' : List Exchange} {dealt dealt' : List ℕ} {mid : S}
    → FollowsAll (folded step state (take i xs)) one other dealt one' other' dealt' (Finished mid) → FollowsAll (folded step state xs) one other dealt one' other' dealt' OutOfMemory
all_folded_paused {S} {X} step state xs i {one} {other} {one'} {other'} {dealt} {dealt'} {mid} first =
    subst (λ (all : List X). FollowsAll (folded step state all) one other dealt one' other' dealt' OutOfMemory) (take-append-drop i xs)
    (steps_on step state (take i xs) (drop i xs) OutOfMemory first (all_unasked refl refl refl))

-- What a function whose callee's outcome it turns into another one shows: the callee came to one,
pub all_turned_came : {A B : Type 0} (answer : A → B) {p : Plan A} {one other one' other' : List Exchange} {dealt dealt' : List ℕ} {a : A}
    → FollowsAll p one other dealt one' other' dealt' (Finished a) → FollowsAll (mapped answer p) one other dealt one' other' dealt' (Finished (answer a))
all_turned_came answer {one' = one'} {other' = other'} {dealt' = dealt'} follows = all_more (λ a. Done (answer a)) follows (all_ended one' other' dealt')

-- or wanted memory.
pub all_turned_cut : {A B : Type 0} (answer : A → B) {p : Plan A} {one other one' other' : List Exchange} {dealt dealt' : List ℕ}
    → FollowsAll p one other dealt one' other' dealt' OutOfMemory → FollowsAll (mapped answer p) one other dealt one' other' dealt' OutOfMemory
all_turned_cut answer follows = all_cut (λ a. Done (answer a)) follows
