-- How plans join, and how the talk of a run with one device follows them.
use Rattle.std.proofs.Common.{◌≡◌, List, [], ◌∷◌, ◌++◌, Option, Some, None, refl}
use Rattle.key_device.proofs.AllPlanLemmas.{wrap, by_one, all_more, all_cut, all_halted, all_ended, all_unasked, all_asked}
use Rattle.key_device.specs.Plan.{Plan, Done, Then, bind, Follows}
use Rattle.key_device.specs.Recording.{exchange}
use Rattle.key_device.specs.declared.ask.Ask.{Ask}
use Rattle.key_device.specs.declared.exchange.Exchange.{Exchange}
use Rattle.key_device.specs.declared.told.Told.{Told}

-- What the run of a function that asks one device shows of its talk, at each exit: its first part came
-- to an outcome, and the rest follows what that calls for;
pub then_more : {A B : Type 0} {p : Plan A} (f : A → Plan B) {old mid new : List Exchange} {a : A} {outcome : Option B}
    → Follows p old mid (Some a) → Follows (f a) mid new outcome → Follows (bind p f) old new outcome
then_more f first second = wrap (all_more f (by_one [] [] first) (by_one [] [] second))

-- its first part wanted memory;
pub cut_short : {A B : Type 0} {p : Plan A} (f : A → Plan B) {old new : List Exchange}
    → Follows p old new None → Follows (bind p f) old new None
cut_short f first = wrap (all_cut f (by_one [] [] first))

-- its plan was followed to an outcome, and memory was wanting then;
pub halted : {A : Type 0} {p : Plan A} {old new : List Exchange} {a : A} → Follows p old new (Some a) → Follows p old new None
halted first = wrap (all_halted (by_one [] [] first))

-- there was nothing to ask;
pub ended : {A : Type 0} {a : A} (talk : List Exchange) → Follows (Done a) talk talk (Some a)
ended talk = wrap (all_ended talk [] [])

-- memory was wanting before a question;
pub unasked : {A : Type 0} {p : Plan A} {old new : List Exchange} → new ≡ old → Follows p old new None
unasked same = wrap (all_unasked same refl refl)

-- one question was asked, and the rest follows what was told.
pub one_more : {A : Type 0} {ask : Ask} {next : Told → Plan A} {old mid new : List Exchange} {outcome : Option A} (told : Told)
    → mid ≡ old ++ exchange ask told ∷ [] → Follows (next told) mid new outcome → Follows (Then ask next) old new outcome
one_more told added rest = wrap (all_asked told added (by_one [] [] rest))

-- all of these exits, for `using(..)` on a function that asks one device
pub ruleset exits = (one_more, then_more, cut_short, ended, unasked)
