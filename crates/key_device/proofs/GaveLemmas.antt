-- How the calls of a wrapped device join.
use Rattle.std.proofs.Common.{◌≡◌, ℕ, List, [], ◌∷◌, ◌++◌, Bool, true, false, Option, Some, None, Result, Ok, Err, refl, sym, ◌∙◌, ap, subst, append_assoc, append-nil}
use Rattle.mdoc_outside.specs.Faults.{HasCause}
use Rattle.key_device.specs.Asking.{Meets, told_by_fresh, told_by_agree, told_by_sign, told_by_verify}
use Rattle.key_device.specs.Gave.{Counts, Runs, told_in, Gave}
use Rattle.key_device.specs.Recording.{talk, inner, exchange}
use Rattle.key_device.specs.Tape.{is_failed}
use Rattle.key_device.specs.declared.ask.Ask.{Ask}
use Rattle.key_device.specs.declared.ask.Ask.TheVariants.{Fresh, Agree, Sign, Verify}
use Rattle.key_device.specs.declared.device_fault.DeviceFault.{DeviceFault}
use Rattle.key_device.specs.declared.device_fault.DeviceFault.TheVariants.{Failed, Memory}
use Rattle.key_device.specs.declared.exchange.Exchange.{Exchange}
use Rattle.key_device.specs.declared.made.Made.{Made}
use Rattle.key_device.specs.declared.point.Point.{Point}
use Rattle.key_device.specs.declared.recorder.Recorder.{Recorder}
use Rattle.key_device.specs.declared.told.Told.{Told}
use Rattle.key_device.specs.declared.told.Told.TheVariants as tells

runs_both : {D : Type 0} (gives : D → Ask → Told → D → Type 0) (unasked : D → D → Type 0) (faults : D → ℕ) (one two : List (Option Exchange)) (old mid new : D)
    → Runs gives unasked faults old one mid → Runs gives unasked faults mid two new → Runs gives unasked faults old (one ++ two) new
runs_both gives unasked faults [] two old mid new first second = subst (λ s. Runs gives unasked faults s two new) first second
runs_both gives unasked faults (call ∷ one) two old mid new first second =
    (first.0, first.1, runs_both gives unasked faults one two first.0 mid new first.2 second)

told_in_both : (one two : List (Option Exchange)) → told_in (one ++ two) ≡ told_in one ++ told_in two
told_in_both [] two = refl
told_in_both (None ∷ one) two = told_in_both one two
told_in_both (Some e ∷ one) two = ap (λ es. e ∷ es) (told_in_both one two)

-- What a function that asks shows of its recorder: its calls, and then those of the rest;
pub gave_then : {D : Type 0} {gives : D → Ask → Told → D → Type 0} {unasked : D → D → Type 0} {faults : D → ℕ} {old mid new : Recorder D}
    → Gave gives unasked faults old mid → Gave gives unasked faults mid new → Gave gives unasked faults old new
gave_then {D} {gives} {unasked} {faults} {old} {mid} {new} first second = record {
  calls = first.calls ++ second.calls;
  joined = second.joined ∙ ap (λ es. es ++ told_in second.calls) first.joined
      ∙ append_assoc (talk old) (told_in first.calls) (told_in second.calls)
      ∙ ap (λ es. talk old ++ es) (sym (told_in_both first.calls second.calls));
  runs = runs_both gives unasked faults first.calls second.calls (inner old) (inner mid) (inner new) first.runs second.runs;
}

-- or none.
pub gave_none : {D : Type 0} {gives : D → Ask → Told → D → Type 0} {unasked : D → D → Type 0} {faults : D → ℕ} (recorder : Recorder D)
    → Gave gives unasked faults recorder recorder
gave_none recorder = record { calls = []; joined = sym (append-nil (talk recorder)); runs = refl }

-- for `using(..)` on a function that asks
pub ruleset gave_exits = (gave_then, gave_none)

-- Of the recorder itself: the device wasn't called,
pub gave_same : {D : Type 0} {gives : D → Ask → Told → D → Type 0} {unasked : D → D → Type 0} {faults : D → ℕ} {old new : Recorder D}
    → talk new ≡ talk old → inner new ≡ inner old → Gave gives unasked faults old new
gave_same {old = old} same kept = record { calls = []; joined = same ∙ sym (append-nil (talk old)); runs = kept }

-- it told something,
pub gave_told : {D : Type 0} {gives : D → Ask → Told → D → Type 0} {unasked : D → D → Type 0} {faults : D → ℕ} {old new : Recorder D} (ask : Ask) (told : Told)
    → gives (inner old) ask told (inner new) → Counts (is_failed told) (faults (inner old)) (faults (inner new))
    → talk new ≡ talk old ++ exchange ask told ∷ [] → Gave gives unasked faults old new
gave_told {new = new} ask told meets counts added = record { calls = Some (exchange ask told) ∷ []; joined = added; runs = (inner new, (meets, counts), refl) }

-- or wanted memory.
pub gave_nothing : {D : Type 0} {gives : D → Ask → Told → D → Type 0} {unasked : D → D → Type 0} {faults : D → ℕ} {old new : Recorder D}
    → unasked (inner old) (inner new) → faults (inner new) ≡ faults (inner old) → talk new ≡ talk old → Gave gives unasked faults old new
gave_nothing {old = old} {new = new} meets same kept =
    record { calls = None ∷ []; joined = kept ∙ sym (append-nil (talk old)); runs = (inner new, (meets, same), refl) }

-- for the recorder
pub ruleset leaf_exits = (gave_same, gave_nothing)

-- The count of a call's answer is that of what was told.
told_is : (one told : Told) → Some one ≡ Some told → one ≡ told
told_is one told is = cc

counts_fresh : (result : Result Made DeviceFault) (told : Told) {before now : ℕ}
    → told_by_fresh result ≡ Some told → HasCause Failed Memory before now result → Counts (is_failed told) before now
counts_fresh (Ok made) told is cause = rw (← told_is (tells.Made made) told is) (cause.done)
counts_fresh (Err Failed) told is cause = rw (← told_is tells.Failed told is) (cause.rose refl, cause.later)
counts_fresh (Err Memory) told is cause = absurd (cc)

counts_agree : (result : Result (Option (List ℕ)) DeviceFault) (told : Told) {before now : ℕ}
    → told_by_agree result ≡ Some told → HasCause Failed Memory before now result → Counts (is_failed told) before now
counts_agree (Ok (Some secret)) told is cause = rw (← told_is (tells.Secret secret) told is) (cause.done)
counts_agree (Ok None) told is cause = rw (← told_is tells.Refused told is) (cause.done)
counts_agree (Err Failed) told is cause = rw (← told_is tells.Failed told is) (cause.rose refl, cause.later)
counts_agree (Err Memory) told is cause = absurd (cc)

counts_sign : (result : Result (List ℕ) DeviceFault) (told : Told) {before now : ℕ}
    → told_by_sign result ≡ Some told → HasCause Failed Memory before now result → Counts (is_failed told) before now
counts_sign (Ok signature) told is cause = rw (← told_is (tells.Signature signature) told is) (cause.done)
counts_sign (Err Failed) told is cause = rw (← told_is tells.Failed told is) (cause.rose refl, cause.later)
counts_sign (Err Memory) told is cause = absurd (cc)

counts_verify : (result : Result Bool DeviceFault) (told : Told) {before now : ℕ}
    → told_by_verify result ≡ Some told → HasCause Failed Memory before now result → Counts (is_failed told) before now
counts_verify (Ok true) told is cause = rw (← told_is tells.Yes told is) (cause.done)
counts_verify (Ok false) told is cause = rw (← told_is tells.No told is) (cause.done)
counts_verify (Err Failed) told is cause = rw (← told_is tells.Failed told is) (cause.rose refl, cause.later)
counts_verify (Err Memory) told is cause = absurd (cc)

pub gave_fresh : {D : Type 0} {gives : D → Ask → Told → D → Type 0} {unasked : D → D → Type 0} {faults : D → ℕ} {old new : Recorder D} (result : Result Made DeviceFault) (told : Told)
    → told_by_fresh result ≡ Some told → Meets gives unasked (inner old) Fresh (told_by_fresh result) (inner new)
    → HasCause Failed Memory (faults (inner old)) (faults (inner new)) result → talk new ≡ talk old ++ exchange Fresh told ∷ [] → Gave gives unasked faults old new
gave_fresh {gives = gives} {unasked = unasked} {old = old} {new = new} result told is meets cause added =
    gave_told Fresh told (subst (λ answer. Meets gives unasked (inner old) Fresh answer (inner new)) is meets) (counts_fresh result told is cause) added

pub gave_agree : {D : Type 0} {gives : D → Ask → Told → D → Type 0} {unasked : D → D → Type 0} {faults : D → ℕ} {old new : Recorder D} (key : ℕ) (peer : Point) (result : Result (Option (List ℕ)) DeviceFault) (told : Told)
    → told_by_agree result ≡ Some told → Meets gives unasked (inner old) (Agree key peer) (told_by_agree result) (inner new)
    → HasCause Failed Memory (faults (inner old)) (faults (inner new)) result → talk new ≡ talk old ++ exchange (Agree key peer) told ∷ [] → Gave gives unasked faults old new
gave_agree {gives = gives} {unasked = unasked} {old = old} {new = new} key peer result told is meets cause added =
    gave_told (Agree key peer) told (subst (λ answer. Meets gives unasked (inner old) (Agree key peer) answer (inner new)) is meets) (counts_agree result told is cause) added

pub gave_sign : {D : Type 0} {gives : D → Ask → Told → D → Type 0} {unasked : D → D → Type 0} {faults : D → ℕ} {old new : Recorder D} (key : ℕ) (message : List ℕ) (result : Result (List ℕ) DeviceFault) (told : Told)
    → told_by_sign result ≡ Some told → Meets gives unasked (inner old) (Sign key message) (told_by_sign result) (inner new)
    → HasCause Failed Memory (faults (inner old)) (faults (inner new)) result → talk new ≡ talk old ++ exchange (Sign key message) told ∷ [] → Gave gives unasked faults old new
gave_sign {gives = gives} {unasked = unasked} {old = old} {new = new} key message result told is meets cause added =
    gave_told (Sign key message) told (subst (λ answer. Meets gives unasked (inner old) (Sign key message) answer (inner new)) is meets) (counts_sign result told is cause) added

pub gave_verify : {D : Type 0} {gives : D → Ask → Told → D → Type 0} {unasked : D → D → Type 0} {faults : D → ℕ} {old new : Recorder D} (public : Point) (message signature : List ℕ) (result : Result Bool DeviceFault) (told : Told)
    → told_by_verify result ≡ Some told → Meets gives unasked (inner old) (Verify public message signature) (told_by_verify result) (inner new)
    → HasCause Failed Memory (faults (inner old)) (faults (inner new)) result → talk new ≡ talk old ++ exchange (Verify public message signature) told ∷ [] → Gave gives unasked faults old new
gave_verify {gives = gives} {unasked = unasked} {old = old} {new = new} public message signature result told is meets cause added =
    gave_told (Verify public message signature) told (subst (λ answer. Meets gives unasked (inner old) (Verify public message signature) answer (inner new)) is meets) (counts_verify result told is cause) added
