-- What the project's own devices gave.
use Rattle.std.proofs.Common.{◌≡◌, ◌≤◌, ◌||◌, ℕ, List, [], ◌∷◌, ◌++◌, Bool, true, false, Option, Some, None, refl, ◌∙◌, ap, subst, append-nil, arith}
use Rattle.mdoc_outside.proofs.DiceLaws.{takes_from_the_list}
use Rattle.mdoc_outside.specs.Dealt.{inner as dice_of}
use Rattle.mdoc_outside.specs.Faults.{Rose}
use Rattle.mdoc_outside.specs.ListDice.{left}
use Rattle.key_device.proofs.OverLemmas.{Tells, over_walk, over_starves, over_begins, gained_is, fits_same}
use Rattle.key_device.specs.Gave.{Counts, Runs, told_in, any_failed, CountsFailed}
use Rattle.key_device.specs.GaveForms.{Replayed, IsOverWhatWasLeft, BeginsOverWhatWasLeft, IsOverAllThatWasLeft, IsUndealtOverAllThatWasLeft, counted_on, ReplayCountsEach, AllToyTold, ToyTellsEach, ToyCountsEach}
use Rattle.key_device.specs.Plan.{Finished, OutOfWords, OutOfMemory, over_all}
use Rattle.key_device.specs.Recording.{talk, inner}
use Rattle.key_device.specs.ReplayDevice.{Replays, tape_left, fault_count}
use Rattle.key_device.specs.Tape.{is_failed}
use Rattle.key_device.specs.ToyDevice.{ToyGives, seed_of, owner_of, faults_of}
use Rattle.key_device.specs.declared.ask.Ask.{Ask}
use Rattle.key_device.specs.declared.exchange.Exchange.{Exchange}
use Rattle.key_device.specs.declared.recorder.Recorder.{Recorder}
use Rattle.key_device.specs.declared.replay_device.ReplayDevice.{ReplayDevice}
use Rattle.key_device.specs.declared.told.Told.{Told}
use Rattle.key_device.specs.declared.toy_device.ToyDevice.{ToyDevice}

-- counts after counts
counts_both : (one two : Bool) (before mid now : ℕ) → Counts one before mid → Counts two mid now → Counts (one || two) before now
counts_both true true before mid now first second = (omega (arith, first.0, first.1, second.1), omega (arith, first.1, second.1))
counts_both true false before mid now first second = (omega (arith, first.0, second), omega (arith, first.1, second))
counts_both false true before mid now first second = (subst (λ n. Rose n now) first second.0, subst (λ n. n ≤ now) first second.1)
counts_both false false before mid now first second = second ∙ first

counts_run : {D : Type 0} (gives : D → Ask → Told → D → Type 0) (unasked : D → D → Type 0) (faults : D → ℕ) (old : D) (calls : List (Option Exchange)) (new : D)
    → Runs gives unasked faults old calls new → Counts (any_failed (told_in calls)) (faults old) (faults new)
counts_run gives unasked faults old [] new runs = ap faults runs
counts_run gives unasked faults old (None ∷ calls) new runs =
    subst (λ n. Counts (any_failed (told_in calls)) n (faults new)) runs.1.1 (counts_run gives unasked faults runs.0 calls new runs.2)
counts_run gives unasked faults old (Some e ∷ calls) new runs =
    counts_both (is_failed e.told) (any_failed (told_in calls)) (faults old) (faults runs.0) (faults new) runs.1.1 (counts_run gives unasked faults runs.0 calls new runs.2)

pub counts_failed : {D : Type 0} (gives : D → Ask → Told → D → Type 0) (unasked : D → D → Type 0) (faults : D → ℕ) → CountsFailed gives unasked faults
counts_failed gives unasked faults old new gained gave is =
    subst (λ es. Counts (any_failed es) (faults (inner old)) (faults (inner new))) (gained_is (talk old) (told_in gave.calls) gained gave.joined is)
    (counts_run gives unasked faults (inner old) gave.calls (inner new) gave.runs)

-- a replaying device's tape tells what was told
tells_run : (old : ReplayDevice) (calls : List (Option Exchange)) (new : ReplayDevice)
    → Runs Replays (λ before after. ⊥) fault_count old calls new → Tells (tape_left old) (told_in calls) (tape_left new)
tells_run old [] new runs = ap tape_left runs
tells_run old (None ∷ calls) new runs = absurd runs.1.0
tells_run old (Some e ∷ calls) new runs =
    (runs.1.0.answer, subst (λ tape. Tells tape (told_in calls) (tape_left new)) runs.1.0.left (tells_run runs.0 calls new runs.2))

tells : (old new : Recorder ReplayDevice) (gained : List Exchange) → Replayed old new → talk new ≡ talk old ++ gained
    → Tells (tape_left (inner old)) gained (tape_left (inner new))
tells old new gained gave is =
    subst (λ es. Tells (tape_left (inner old)) es (tape_left (inner new))) (gained_is (talk old) (told_in gave.calls) gained gave.joined is)
    (tells_run (inner old) gave.calls (inner new) gave.runs)

pub is_over_what_was_left : (A : Type 0) → IsOverWhatWasLeft A
is_over_what_was_left A plan old new gained outcome follows gave is =
    over_walk plan gained [] [] outcome (tape_left (inner old)) (tape_left (inner new)) [] [] []
    (fits_same plan (Finished outcome) (gained_is (talk old) follows.gained gained follows.joined is) refl refl follows.fits) (tells old new gained gave is) refl

pub begins_over_what_was_left : (A : Type 0) → BeginsOverWhatWasLeft A
begins_over_what_was_left A plan old new gained follows gave is =
    let begun = over_begins plan gained [] [] (tape_left (inner old)) (tape_left (inner new)) [] [] []
    (fits_same plan OutOfMemory (gained_is (talk old) follows.gained gained follows.joined is) refl refl follows.fits) (tells old new gained gave is) refl in
    (begun.0, begun.2)

pub is_over_all_that_was_left : (A : Type 0) → IsOverAllThatWasLeft A
is_over_all_that_was_left A plan one one' other other' dice dice' es os outcome follows gave gave' gave_words e o =
    let words = takes_from_the_list dice dice' follows.words gave_words follows.joined_words in
    ap (λ ws. over_all plan (tape_left (inner one)) (tape_left (inner other)) ws) words
    ∙ over_walk plan es os follows.words outcome (tape_left (inner one)) (tape_left (inner one')) (tape_left (inner other)) (tape_left (inner other')) (left (dice_of dice'))
    (fits_same plan (Finished outcome) (gained_is (talk one) follows.gained es follows.joined e) (gained_is (talk other) follows.gained_other os follows.joined_other o) refl follows.fits)
    (tells one one' es gave e) (tells other other' os gave' o)

pub is_undealt_over_all_that_was_left : (A : Type 0) → IsUndealtOverAllThatWasLeft A
is_undealt_over_all_that_was_left A plan one one' other other' dice dice' es os follows gave gave' gave_words e o spent =
    let words : left (dice_of dice) ≡ follows.words = takes_from_the_list dice dice' follows.words gave_words follows.joined_words ∙ rw spent (append-nil follows.words) in
    ap (λ ws. over_all plan (tape_left (inner one)) (tape_left (inner other)) ws) words
    ∙ over_starves plan es os follows.words (tape_left (inner one)) (tape_left (inner one')) (tape_left (inner other)) (tape_left (inner other'))
    (fits_same plan OutOfWords (gained_is (talk one) follows.gained es follows.joined e) (gained_is (talk other) follows.gained_other os follows.joined_other o) refl follows.fits)
    (tells one one' es gave e) (tells other other' os gave' o)

replay_run : (old : ReplayDevice) (calls : List (Option Exchange)) (new : ReplayDevice)
    → Runs Replays (λ before after. ⊥) fault_count old calls new → fault_count new ≡ counted_on (fault_count old) (told_in calls)
replay_run old [] new runs = ap fault_count runs
replay_run old (None ∷ calls) new runs = absurd runs.1.0
replay_run old (Some e ∷ calls) new runs =
    replay_run runs.0 calls new runs.2 ∙ ap (λ n. counted_on n (told_in calls)) runs.1.0.counts

pub replay_counts_each : ReplayCountsEach
replay_counts_each old new gained gave is =
    replay_run (inner old) gave.calls (inner new) gave.runs
    ∙ ap (λ es. counted_on (fault_count (inner old)) es) (gained_is (talk old) (told_in gave.calls) gained gave.joined is)

toy_run : (old : ToyDevice) (calls : List (Option Exchange)) (new : ToyDevice)
    → Runs ToyGives (λ before after. ⊥) faults_of old calls new → AllToyTold (seed_of old) (owner_of old) (told_in calls)
toy_run old [] new runs = tt
toy_run old (None ∷ calls) new runs = absurd runs.1.0
toy_run old (Some e ∷ calls) new runs = (
  record { toy = old; seed_is = refl; owner_is = refl; told = runs.1.0.answer },
  subst (λ seed. AllToyTold seed (owner_of old) (told_in calls)) runs.1.0.seed
      (subst (λ owner. AllToyTold (seed_of runs.0) owner (told_in calls)) runs.1.0.owner (toy_run runs.0 calls new runs.2)),
)

pub toy_tells_each : ToyTellsEach
toy_tells_each old new gained gave is =
    subst (λ es. AllToyTold (seed_of (inner old)) (owner_of (inner old)) es) (gained_is (talk old) (told_in gave.calls) gained gave.joined is)
    (toy_run (inner old) gave.calls (inner new) gave.runs)

toy_count : (old : ToyDevice) (calls : List (Option Exchange)) (new : ToyDevice)
    → Runs ToyGives (λ before after. ⊥) faults_of old calls new → faults_of new ≡ counted_on (faults_of old) (told_in calls)
toy_count old [] new runs = ap faults_of runs
toy_count old (None ∷ calls) new runs = absurd runs.1.0
toy_count old (Some e ∷ calls) new runs =
    toy_count runs.0 calls new runs.2 ∙ ap (λ n. counted_on n (told_in calls)) runs.1.0.counts

pub toy_counts_each : ToyCountsEach
toy_counts_each old new gained gave is =
    toy_count (inner old) gave.calls (inner new) gave.runs
    ∙ ap (λ es. counted_on (faults_of (inner old)) es) (gained_is (talk old) (told_in gave.calls) gained gave.joined is)
