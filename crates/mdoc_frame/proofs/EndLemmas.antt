-- How the work of a command ends.
use Rattle.std.proofs.Common.{◌≡◌, ℕ, List, [], ◌∷◌, inl, inr, refl}
use Rattle.key_device.specs.Plan.{Begins, Done, Draw, Other, Plan, Then}
use Rattle.mdoc_outside.specs.State.{State}
use Rattle.mdoc_outside.specs.declared.sink_call.SinkCall.{SinkCall}
use Rattle.mdoc_frame.specs.Asking.{AreSame, AskCauses, Sources, no_talks}
use Rattle.mdoc_frame.specs.Content.{Content}
use Rattle.mdoc_frame.specs.Outcome.{FileName, Outcome}
use Rattle.mdoc_frame.specs.Steps.{Does, Ends, Opens, OrMemory, Prints, PutEnds, Works, WriteEnds, WritesFiles}
use Rattle.mdoc_frame.specs.World.{World, after_put, after_read, after_write}
use Rattle.mdoc_frame.specs.declared.status.Status.{Status}
use Rattle.mdoc_frame.specs.declared.status.Status.TheVariants as statuses
use Rattle.mdoc_frame.proofs.RunLemmas.{gained-nothing, same-sources}

-- a work is done, a device or the dice failed in it, a document is refused, what it makes is too long, or memory was wanting
abbrev pub IsEnd : Type 0 → Type 0 → Status → Type 0
IsEnd may_refuse may_pass statuses.Done = Unit {0}
IsEnd may_refuse may_pass statuses.Device = Unit {0}
IsEnd may_refuse may_pass statuses.Dice = Unit {0}
IsEnd may_refuse may_pass statuses.Verdict = may_refuse
IsEnd may_refuse may_pass (statuses.Limit limit number) = may_pass
IsEnd may_refuse may_pass statuses.Memory = Unit {0}
IsEnd may_refuse may_pass status = ⊥

-- a status that neither a put nor a write ends a run with is that of the outcome
module _ (status last : Status) (no_put : (line : List ℕ) (old new : State (List SinkCall)) → PutEnds line old new status → ⊥)
    (no_write : (file : List ℕ × List ℕ) (old new : World) → WriteEnds file old new status → ⊥) (is_last : OrMemory status last → status ≡ last) where
  prints-last : (lines : List (List ℕ)) (old new : State (List SinkCall)) → Prints lines last old new status → status ≡ last
  prints-last [] old new prints = is_last prints.1
  prints-last (line ∷ lines) old new (inl ends) = absurd (no_put line old new ends)
  prints-last (line ∷ lines) old new (inr rest) = prints-last lines (after_put line old) new rest

  writes-last : (files : List (List ℕ × List ℕ)) (lines : List (List ℕ)) (old new : World) → WritesFiles files lines last old new status → status ≡ last
  writes-last [] lines old new writes = prints-last lines old.sink new.sink writes.1
  writes-last (file ∷ files) lines old new (inl ends) = absurd (no_write file old new ends)
  writes-last (file ∷ files) lines old new (inr rest) = writes-last files lines (after_write file old) new rest

-- an outcome that tells no fault of a device or of the dice, where no count of theirs rose
pub ends_asking : (outcome : Outcome) (before now : World) (status : Status) (from to : Sources) →
    (statuses.Device ≡ outcome.status → ⊥) → (statuses.Dice ≡ outcome.status → ⊥) → AreSame from to → Ends outcome before now status → AskCauses status from to
ends_asking outcome before now statuses.Done from to device dice same ends = same
ends_asking outcome before now statuses.Usage from to device dice same ends = same
ends_asking outcome before now (statuses.Missing role) from to device dice same ends = same
ends_asking outcome before now statuses.Cabinet from to device dice same ends = same
ends_asking outcome before now (statuses.Form role check at) from to device dice same ends = same
ends_asking outcome before now statuses.Sink from to device dice same ends = same
ends_asking outcome before now statuses.Device from to device dice same ends =
    absurd (device (writes-last statuses.Device outcome.status (λ line old new e. e) (λ file old new e. e) (λ e. e) outcome.files outcome.lines before now ends))
ends_asking outcome before now statuses.Dice from to device dice same ends =
    absurd (dice (writes-last statuses.Dice outcome.status (λ line old new e. e) (λ file old new e. e) (λ e. e) outcome.files outcome.lines before now ends))
ends_asking outcome before now statuses.Verdict from to device dice same ends = same
ends_asking outcome before now (statuses.Limit limit number) from to device dice same ends = same
ends_asking outcome before now statuses.Memory from to device dice same ends = same

-- want of memory before a file is written or a line printed
pub wants : (files : List (List ℕ × List ℕ)) (lines : List (List ℕ)) (last : Status) (w : World) → WritesFiles files lines last w w statuses.Memory
wants [] [] last w = (refl, (refl, tt))
wants [] (line ∷ lines) last w = (refl, inl refl)
wants (file ∷ files) lines last w = inl refl

-- a plan is followed where nothing was asked yet
pub begins_nothing : {A : Type 0} (plan : Plan A) → Begins plan [] [] []
begins_nothing (Done a) = tt
begins_nothing (Then ask next) = tt
begins_nothing (Other ask next) = tt
begins_nothing (Draw next) = tt

-- ---- a command that asks nothing

opens-as : (files : List FileName) (rest other : List Content → World → World → Status → Type 0) (nothing nothing_else : Type 0) (old now : World) (status : Status) →
    ((contents : List Content) (between : World) → rest contents between now status → other contents between now status) → (nothing → nothing_else) →
    Opens files rest nothing old now status → Opens files other nothing_else old now status
opens-as [] rest other nothing nothing_else old now status each none opens = each [] old opens
opens-as (file ∷ files) rest other nothing nothing_else old now status each none (inl ends) = inl (ends.0, ends.1, none ends.2)
opens-as (file ∷ files) rest other nothing nothing_else old now status each none (inr on) = inr (record {
  found = on.found;
  content = on.content;
  held = on.held;
  opens = on.opens;
  goes_on = opens-as files (λ contents. rest (on.content ∷ contents)) (λ contents. other (on.content ∷ contents)) nothing nothing_else (after_read file.name on.found old) now status
      (λ contents between. each (on.content ∷ contents) between) none on.goes_on;
})

pub opens_does : (files : List FileName) (work : List Content → Outcome) (from : Sources) (before now : World) (status : Status) →
    ((contents : List Content) → statuses.Device ≡ (work contents).status → ⊥) → ((contents : List Content) → statuses.Dice ≡ (work contents).status → ⊥) →
    Opens files (λ contents. Ends (work contents)) (Unit {0}) before now status →
    Does files (λ told contents. work contents) (λ told s contents. told ≡ no_talks) from from before now status
opens_does files work from before now status device dice opens =
    opens-as files (λ contents. Ends (work contents)) (Works (λ told contents. work contents) (λ told s contents. told ≡ no_talks) from from) (Unit {0}) (from ≡ from) before now status
    (λ contents between ends. (no_talks, gained-nothing from.talks, refl, ends_asking (work contents) between now status from from (device contents) (dice contents) (same-sources from) ends, ends)) (λ u. refl) opens
