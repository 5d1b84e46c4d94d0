-- Laws of what the project's own devices gave: the replaying one, and the toy.
use Rattle.std.specs.Prelude.{◌≡◌, ℕ, List, [], ◌∷◌, ◌++◌, Some, None}
use Rattle.mdoc_outside.specs.Dealt.{dealt, inner as dice_of}
use Rattle.mdoc_outside.specs.GaveWords.{GaveWords}
use Rattle.mdoc_outside.specs.ListDice.{ListDeals, left, faulted}
use Rattle.mdoc_outside.specs.declared.dealt.Dealt.{Dealt}
use Rattle.mdoc_outside.specs.declared.list_dice.ListDice.{ListDice}
use Rattle.key_device.specs.Gave.{Gave}
use Rattle.key_device.specs.Plan.{Plan, Follows, FollowsAll, Finished, OutOfWords, asks, over, over_all}
use Rattle.key_device.specs.PlanLaws.{course_of}
use Rattle.key_device.specs.Recording.{talk, inner}
use Rattle.key_device.specs.ReplayDevice.{Replays, tape_left, fault_count}
use Rattle.key_device.specs.Tape.{count_after}
use Rattle.key_device.specs.ToyDevice.{ToyGives, toy_told, seed_of, owner_of, faults_of}
use Rattle.key_device.specs.declared.ask.Ask.{Ask}
use Rattle.key_device.specs.declared.exchange.Exchange.{Exchange}
use Rattle.key_device.specs.declared.recorder.Recorder.{Recorder}
use Rattle.key_device.specs.declared.replay_device.ReplayDevice.{ReplayDevice}
use Rattle.key_device.specs.declared.toy_device.ToyDevice.{ToyDevice}

-- a recorder of a replaying device was asked, and its tape told what was told
abbrev pub Replayed : Recorder ReplayDevice → Recorder ReplayDevice → Type 0
Replayed old new = Gave Replays (λ before after. ⊥) fault_count old new

-- A law: a plan that was followed over a replaying device is the plan over what was left of its tape,
-- and what is left then is the rest. A question that differs is told `Failed` and leaves its place.
abbrev pub IsOverWhatWasLeft : Type 0 → Type 0
IsOverWhatWasLeft A =
    (plan : Plan A) (old new : Recorder ReplayDevice) (gained : List Exchange) (outcome : A)
    → Follows plan (talk old) (talk new) (Some outcome) → Replayed old new → talk new ≡ talk old ++ gained
    → over plan (tape_left (inner old)) ≡ course_of (asks gained) outcome (tape_left (inner new))

-- A law: where memory was wanting, the plan's questions over what was left begin with the talk's.
abbrev pub BeginsOverWhatWasLeft : Type 0 → Type 0
BeginsOverWhatWasLeft A =
    (plan : Plan A) (old new : Recorder ReplayDevice) (gained : List Exchange)
    → Follows plan (talk old) (talk new) None → Replayed old new → talk new ≡ talk old ++ gained
    → (more : List Ask) × ((over plan (tape_left (inner old))).questions ≡ asks gained ++ more)

-- A law: so it is over the tapes of two replaying devices and a list of words,
abbrev pub IsOverAllThatWasLeft : Type 0 → Type 0
IsOverAllThatWasLeft A =
    (plan : Plan A) (one one' other other' : Recorder ReplayDevice) (dice dice' : Dealt ListDice) (es os : List Exchange) (outcome : A)
    → FollowsAll plan (talk one) (talk other) (dealt dice) (talk one') (talk other') (dealt dice') (Finished outcome)
    → Replayed one one' → Replayed other other' → GaveWords ListDeals faulted dice dice'
    → talk one' ≡ talk one ++ es → talk other' ≡ talk other ++ os
    → over_all plan (tape_left (inner one)) (tape_left (inner other)) (left (dice_of dice))
    ≡ record {
      questions = asks es;
      questions_other = asks os;
      outcome = Some outcome;
      left = tape_left (inner one');
      left_other = tape_left (inner other');
      left_words = left (dice_of dice');
    }

-- and where a word wasn't dealt, since none was left.
abbrev pub IsUndealtOverAllThatWasLeft : Type 0 → Type 0
IsUndealtOverAllThatWasLeft A =
    (plan : Plan A) (one one' other other' : Recorder ReplayDevice) (dice dice' : Dealt ListDice) (es os : List Exchange)
    → FollowsAll plan (talk one) (talk other) (dealt dice) (talk one') (talk other') (dealt dice') OutOfWords
    → Replayed one one' → Replayed other other' → GaveWords ListDeals faulted dice dice'
    → talk one' ≡ talk one ++ es → talk other' ≡ talk other ++ os → left (dice_of dice') ≡ []
    → over_all plan (tape_left (inner one)) (tape_left (inner other)) (left (dice_of dice))
    ≡ record {
      questions = asks es;
      questions_other = asks os;
      outcome = None;
      left = tape_left (inner one');
      left_other = tape_left (inner other');
      left_words = [];
    }

-- a count of faults after exchanges: one more for each that was told `Failed`, up to its last value
abbrev pub counted_on : ℕ → List Exchange → ℕ
counted_on count [] = count
counted_on count (e ∷ es) = counted_on (count_after e.told count) es

-- A law: the replaying device counts exactly the exchanges that were told `Failed`.
abbrev pub ReplayCountsEach : Type 0
ReplayCountsEach =
    (old new : Recorder ReplayDevice) (gained : List Exchange) → Replayed old new → talk new ≡ talk old ++ gained
    → fault_count (inner new) ≡ counted_on (fault_count (inner old)) gained

-- a recorder of a toy device was asked, and the toy told what was told
abbrev pub Toyed : Recorder ToyDevice → Recorder ToyDevice → Type 0
Toyed old new = Gave ToyGives (λ before after. ⊥) faults_of old new

-- a toy device of that seed and owner tells this
pub record IsToyTold (seed owner : ℕ) (e : Exchange) : Type 0 where
  pub toy : ToyDevice
  pub seed_is : seed_of toy ≡ seed
  pub owner_is : owner_of toy ≡ owner
  pub told : e.told ≡ toy_told toy e.ask

abbrev pub AllToyTold : ℕ → ℕ → List Exchange → Type 0
AllToyTold seed owner [] = Unit {0}
AllToyTold seed owner (e ∷ es) = IsToyTold seed owner e × AllToyTold seed owner es

-- A law: each exchange gained of a toy device was told by a toy of its seed and owner.
abbrev pub ToyTellsEach : Type 0
ToyTellsEach =
    (old new : Recorder ToyDevice) (gained : List Exchange) → Toyed old new → talk new ≡ talk old ++ gained
    → AllToyTold (seed_of (inner old)) (owner_of (inner old)) gained

-- A law: the toy counts exactly the exchanges that were told `Failed`.
abbrev pub ToyCountsEach : Type 0
ToyCountsEach =
    (old new : Recorder ToyDevice) (gained : List Exchange) → Toyed old new → talk new ≡ talk old ++ gained
    → faults_of (inner new) ≡ counted_on (faults_of (inner old)) gained
