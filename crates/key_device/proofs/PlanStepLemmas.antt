-- How the talk of a run with one device follows plans one after the other: up to a first fault, for
-- each of a list, up to a first yes, and step by step over a state.
use Rattle.std.proofs.Common.{◌≡◌, ◌+◌, ◌<◌, ◌≤◌, ℕ, List, [], ◌∷◌, ◌++◌, Bool, true, false, length, take, get_or, Some, None, Result, Ok, Err}
use Rattle.key_device.proofs.AllPlanLemmas.{wrap, by_one}
use Rattle.key_device.proofs.AllPlanStepLemmas as all
use Rattle.key_device.specs.Plan.{Plan, Follows}
use Rattle.key_device.specs.PlanSteps.{each, times, first_yes, folded, mapped}
use Rattle.key_device.specs.declared.exchange.Exchange.{Exchange}

-- What a loop that asks for each of a list shows of its talk: before the first,
pub each_begun : {X Y E : Type 0} (step : X → Plan (Result Y E)) (xs : List X) (talk : List Exchange)
    → Follows (each step (take 0 xs)) talk talk (Some (Ok []))
each_begun step xs talk = wrap (all.all_each_begun step xs talk [] [])

-- after one more,
pub each_more : {X Y E : Type 0} (step : X → Plan (Result Y E)) (xs : List X) (i : ℕ) {old mid new : List Exchange} {ys : List Y} (x : X) (y : Y)
    → Follows (each step (take i xs)) old mid (Some (Ok ys)) → i < length xs → x ≡ get_or xs i x
    → Follows (step x) mid new (Some (Ok y)) → Follows (each step (take (i + 1) xs)) old new (Some (Ok (ys ++ y ∷ [])))
each_more step xs i x y first within is second = wrap (all.all_each_more step xs i x y (by_one [] [] first) within is (by_one [] [] second))

-- at a fault,
pub each_stopped : {X Y E : Type 0} (step : X → Plan (Result Y E)) (xs : List X) (i : ℕ) {old mid new : List Exchange} {ys : List Y} {e : E} (x : X)
    → Follows (each step (take i xs)) old mid (Some (Ok ys)) → i < length xs → x ≡ get_or xs i x
    → Follows (step x) mid new (Some (Err e)) → Follows (each step xs) old new (Some (Err e))
each_stopped step xs i x first within is second = wrap (all.all_each_stopped step xs i x (by_one [] [] first) within is (by_one [] [] second))

-- where memory was wanting in one,
pub each_cut : {X Y E : Type 0} (step : X → Plan (Result Y E)) (xs : List X) (i : ℕ) {old mid new : List Exchange} {ys : List Y} (x : X)
    → Follows (each step (take i xs)) old mid (Some (Ok ys)) → i < length xs → x ≡ get_or xs i x
    → Follows (step x) mid new None → Follows (each step xs) old new None
each_cut step xs i x first within is second = wrap (all.all_each_cut step xs i x (by_one [] [] first) within is (by_one [] [] second))

-- before one,
pub each_paused : {X Y E : Type 0} (step : X → Plan (Result Y E)) (xs : List X) (i : ℕ) {old new : List Exchange} {ys : List Y}
    → Follows (each step (take i xs)) old new (Some (Ok ys)) → Follows (each step xs) old new None
each_paused step xs i first = wrap (all.all_each_paused step xs i (by_one [] [] first))

-- and after one.
pub each_left : {X Y E : Type 0} (step : X → Plan (Result Y E)) (xs : List X) (i : ℕ) {old mid new : List Exchange} {ys : List Y} (x : X) (y : Y)
    → Follows (each step (take i xs)) old mid (Some (Ok ys)) → i < length xs → x ≡ get_or xs i x
    → Follows (step x) mid new (Some (Ok y)) → Follows (each step xs) old new None
each_left step xs i x y first within is second = wrap (all.all_each_left step xs i x y (by_one [] [] first) within is (by_one [] [] second))

-- all of these, for `using(..)` on a function with such a loop
pub ruleset each_exits = (each_begun, each_more, each_stopped, each_cut, each_paused, each_left)

-- What a loop that asks so many times shows of its talk: before the first,
pub times_begun : {Y E : Type 0} (plan : Plan (Result Y E)) (talk : List Exchange)
    → Follows (times 0 plan) talk talk (Some (Ok []))
times_begun plan talk = wrap (all.all_times_begun plan talk [] [])

-- after one more,
pub times_more : {Y E : Type 0} (plan : Plan (Result Y E)) (i : ℕ) {old mid new : List Exchange} {ys : List Y} (y : Y)
    → Follows (times i plan) old mid (Some (Ok ys)) → Follows plan mid new (Some (Ok y)) → Follows (times (i + 1) plan) old new (Some (Ok (ys ++ y ∷ [])))
times_more plan i y first second = wrap (all.all_times_more plan i y (by_one [] [] first) (by_one [] [] second))

-- at a fault,
pub times_stopped : {Y E : Type 0} (plan : Plan (Result Y E)) (i n : ℕ) {old mid new : List Exchange} {ys : List Y} {e : E}
    → Follows (times i plan) old mid (Some (Ok ys)) → i < n
    → Follows plan mid new (Some (Err e)) → Follows (times n plan) old new (Some (Err e))
times_stopped plan i n first within second = wrap (all.all_times_stopped plan i n (by_one [] [] first) within (by_one [] [] second))

-- where memory was wanting in one,
pub times_cut : {Y E : Type 0} (plan : Plan (Result Y E)) (i n : ℕ) {old mid new : List Exchange} {ys : List Y}
    → Follows (times i plan) old mid (Some (Ok ys)) → i < n → Follows plan mid new None → Follows (times n plan) old new None
times_cut plan i n first within second = wrap (all.all_times_cut plan i n (by_one [] [] first) within (by_one [] [] second))

-- before one,
pub times_paused : {Y E : Type 0} (plan : Plan (Result Y E)) (i n : ℕ) {old new : List Exchange} {ys : List Y}
    → Follows (times i plan) old new (Some (Ok ys)) → i ≤ n → Follows (times n plan) old new None
times_paused plan i n first within = wrap (all.all_times_paused plan i n (by_one [] [] first) within)

-- and after one.
pub times_left : {Y E : Type 0} (plan : Plan (Result Y E)) (i n : ℕ) {old mid new : List Exchange} {ys : List Y} (y : Y)
    → Follows (times i plan) old mid (Some (Ok ys)) → i < n → Follows plan mid new (Some (Ok y)) → Follows (times n plan) old new None
times_left plan i n y first within second = wrap (all.all_times_left plan i n y (by_one [] [] first) within (by_one [] [] second))

pub ruleset times_exits = (times_begun, times_more, times_stopped, times_cut, times_paused, times_left)

-- What a search shows of its talk: before the first,
pub first_begun : {X E : Type 0} (says : X → Plan (Result Bool E)) (xs : List X) (talk : List Exchange)
    → Follows (first_yes says (take 0 xs)) talk talk (Some (Ok None))
first_begun says xs talk = wrap (all.all_first_begun says xs talk [] [])

-- after a no,
pub first_no : {X E : Type 0} (says : X → Plan (Result Bool E)) (xs : List X) (i : ℕ) {old mid new : List Exchange} (x : X)
    → Follows (first_yes says (take i xs)) old mid (Some (Ok None)) → i < length xs → x ≡ get_or xs i x
    → Follows (says x) mid new (Some (Ok false)) → Follows (first_yes says (take (i + 1) xs)) old new (Some (Ok None))
first_no says xs i x first within is second = wrap (all.all_first_no says xs i x (by_one [] [] first) within is (by_one [] [] second))

-- at a yes,
pub first_found : {X E : Type 0} (says : X → Plan (Result Bool E)) (xs : List X) (i : ℕ) {old mid new : List Exchange} (x : X)
    → Follows (first_yes says (take i xs)) old mid (Some (Ok None)) → i < length xs → x ≡ get_or xs i x
    → Follows (says x) mid new (Some (Ok true)) → Follows (first_yes says xs) old new (Some (Ok (Some x)))
first_found says xs i x first within is second = wrap (all.all_first_found says xs i x (by_one [] [] first) within is (by_one [] [] second))

-- at a fault,
pub first_stopped : {X E : Type 0} (says : X → Plan (Result Bool E)) (xs : List X) (i : ℕ) {old mid new : List Exchange} {e : E} (x : X)
    → Follows (first_yes says (take i xs)) old mid (Some (Ok None)) → i < length xs → x ≡ get_or xs i x
    → Follows (says x) mid new (Some (Err e)) → Follows (first_yes says xs) old new (Some (Err e))
first_stopped says xs i x first within is second = wrap (all.all_first_stopped says xs i x (by_one [] [] first) within is (by_one [] [] second))

-- where memory was wanting in one,
pub first_cut : {X E : Type 0} (says : X → Plan (Result Bool E)) (xs : List X) (i : ℕ) {old mid new : List Exchange} (x : X)
    → Follows (first_yes says (take i xs)) old mid (Some (Ok None)) → i < length xs → x ≡ get_or xs i x
    → Follows (says x) mid new None → Follows (first_yes says xs) old new None
first_cut says xs i x first within is second = wrap (all.all_first_cut says xs i x (by_one [] [] first) within is (by_one [] [] second))

-- and before one.
pub first_paused : {X E : Type 0} (says : X → Plan (Result Bool E)) (xs : List X) (i : ℕ) {old new : List Exchange}
    → Follows (first_yes says (take i xs)) old new (Some (Ok None)) → Follows (first_yes says xs) old new None
first_paused says xs i first = wrap (all.all_first_paused says xs i (by_one [] [] first))

pub ruleset first_exits = (first_begun, first_no, first_found, first_stopped, first_cut, first_paused)

-- What a loop of steps over a state shows of its talk: before the first,
pub folded_begun : {S X : Type 0} (step : S → X → Plan S) (state : S) (xs : List X) (talk : List Exchange)
    → Follows (folded step state (take 0 xs)) talk talk (Some state)
folded_begun step state xs talk = wrap (all.all_folded_begun step state xs talk [] [])

-- after one more,
pub folded_more : {S X : Type 0} (step : S → X → Plan S) (state : S) (xs : List X) (i : ℕ) {old mid new : List Exchange} {reached last : S} (x : X)
    → Follows (folded step state (take i xs)) old mid (Some reached) → i < length xs → x ≡ get_or xs i x
    → Follows (step reached x) mid new (Some last) → Follows (folded step state (take (i + 1) xs)) old new (Some last)
folded_more step state xs i x first within is second = wrap (all.all_folded_more step state xs i x (by_one [] [] first) within is (by_one [] [] second))

-- where memory was wanting in one,
pub folded_cut : {S X : Type 0} (step : S → X → Plan S) (state : S) (xs : List X) (i : ℕ) {old mid new : List Exchange} {reached : S} (x : X)
    → Follows (folded step state (take i xs)) old mid (Some reached) → i < length xs → x ≡ get_or xs i x
    → Follows (step reached x) mid new None → Follows (folded step state xs) old new None
folded_cut step state xs i x first within is second = wrap (all.all_folded_cut step state xs i x (by_one [] [] first) within is (by_one [] [] second))

-- and before one.
pub folded_paused : {S X : Type 0} (step : S → X → Plan S) (state : S) (xs : List X) (i : ℕ) {old new : List Exchange} {reached : S}
    → Follows (folded step state (take i xs)) old new (Some reached) → Follows (folded step state xs) old new None
folded_paused step state xs i first = wrap (all.all_folded_paused step state xs i (by_one [] [] first))

pub ruleset folded_exits = (folded_begun, folded_more, folded_cut, folded_paused)

-- What a function whose callee's outcome it turns into another one shows: the callee came to one,
pub mapped_came : {A B : Type 0} (answer : A → B) {p : Plan A} {old new : List Exchange} {a : A}
    → Follows p old new (Some a) → Follows (mapped answer p) old new (Some (answer a))
mapped_came answer first = wrap (all.all_turned_came answer (by_one [] [] first))

-- or wanted memory.
pub mapped_cut : {A B : Type 0} (answer : A → B) {p : Plan A} {old new : List Exchange}
    → Follows p old new None → Follows (mapped answer p) old new None
mapped_cut answer first = wrap (all.all_turned_cut answer (by_one [] [] first))

pub ruleset mapped_exits = (mapped_came, mapped_cut)
