-- From the steps of a command to the clauses of the top call.
use Rattle.std.proofs.Common.{◌≡◌, ℕ, ℤ, true, false, List, [], ◌∷◌, Option, Some, None, Result, inl, inr, refl, sym, subst}
use Rattle.std.specs.Prelude.{IfSome, IsNone, ◌↔◌}
use Rattle.mdoc_outside.specs.Faults.{Rose}
use Rattle.mdoc_outside.specs.OptionSteps.{◌>>=◌, where_true}
use Rattle.mdoc_draft.specs.Draft.{draft_outcome, draft_row}
use Rattle.mdoc_draft.proofs.DraftLemmas.{draft_does}
use Rattle.mdoc_frame.specs.Asking.{AskCauses, Sources}
use Rattle.mdoc_frame.specs.Content.{Content}
use Rattle.mdoc_frame.specs.Outcome.{Answer, Failed, FileName, Found, Outcome, after_reads, if_opened, named_files}
use Rattle.mdoc_frame.specs.Pairs.{is_in_form}
use Rattle.mdoc_frame.specs.Run.{AreOpened, Causes, End, FileFailed, IsFaultless, LineFailed, Stop, OutOfMemory, status_at}
use Rattle.mdoc_frame.specs.Steps.{Does, Ends, Opens}
use Rattle.mdoc_frame.specs.World.{World}
use Rattle.mdoc_frame.specs.declared.status.Status.{Status}
use Rattle.mdoc_frame.specs.declared.status.Status.TheVariants as statuses
use Rattle.mdoc_frame.proofs.RunLemmas.{does_run}
use Rattle.mdoc_program.specs.Commands.{asks_of, work_of}
use Rattle.mdoc_program.specs.Order.{Order, command_of, files_named, order, row}
use Rattle.mdoc_program.specs.Runs.{IsComplete, Runs}
use Rattle.mdoc_program.specs.declared.command.Command.{Command}
use Rattle.mdoc_program.specs.declared.command.Command.TheVariants.{Draft, Import, Issue}
use Rattle.mdoc_program.proofs.CommandLemmas.{IsEndOf, wanting, work_ends, works}

-- ---- words in form

in-row : (found : Option Command) (words : List (List ℕ)) (o : Order) →
    Some o ≡ (found >>= λ command. where_true (is_in_form (row command) words) (record { command = command; words = words })) →
    is_in_form (row o.command) o.words ≡ true
in-row None words o is = absurd cc
in-row (Some command) words o is =
    elim (is_in_form (row command) words) as (λ t. is_in_form (row command) words ≡ t → Some o ≡ where_true t (record { command = command; words = words }) → is_in_form (row o.command) o.words ≡ true) [
      | true ↦ λ form e. let same : o ≡ record { command = command; words = words } = cc in
          subst (λ (p : Order). is_in_form (row p.command) p.words ≡ true) (sym same) form
      | false ↦ λ form e. absurd cc
    ] refl is

-- the words of an order are in the form of its row
pub in_form : (words : List (List ℕ)) (o : Order) → Some o ≡ order words → is_in_form (row o.command) o.words ≡ true
in_form [] o is = absurd cc
in_form (word ∷ words) o is = in-row (command_of word) words o is

-- ---- a run that is complete

opened-ends : (command : Command) (files : List FileName) (answers : List Answer) (work : List Content → Outcome) →
    ((contents : List Content) → IsEndOf command (work contents).status) → AreOpened files answers → IsEndOf command (after_reads files answers work).status
opened-ends command [] answers work ends all = ends []
opened-ends command (file ∷ files) [] work ends all = absurd all
opened-ends command (file ∷ files) (Failed ∷ answers) work ends all = absurd all.0
opened-ends command (file ∷ files) ((Found found) ∷ answers) work ends all =
    let content : Content = all.0.0 in
    subst (λ (r : Result Content Status). IsEndOf command (if_opened r (λ x. after_reads files answers (λ contents. work (x ∷ contents)))).status) (sym all.0.1)
    (opened-ends command files answers (λ contents. work (content ∷ contents)) (λ contents. ends (content ∷ contents)) all.1)

-- a device or the dice that failed raised a count
no-device : (from to : Sources) → AskCauses statuses.Device from to → (Rose from.wallet_faults to.wallet_faults → ⊥) → (Rose from.reader_faults to.reader_faults → ⊥) → ⊥
no-device from to (inl wallet) no_wallet no_reader = no_wallet wallet.wallet
no-device from to (inr reader) no_wallet no_reader = no_reader reader.reader

end-complete : (command : Command) (status : Status) (from to : Sources) → IsEndOf command status → AskCauses status from to →
    (Rose from.wallet_faults to.wallet_faults → ⊥) → (Rose from.reader_faults to.reader_faults → ⊥) → (Rose from.dice_faults to.dice_faults → ⊥) → IsComplete command status
end-complete command statuses.Done from to ends asking wallet reader dice = tt
end-complete command statuses.Usage from to ends asking wallet reader dice = absurd ends
end-complete command (statuses.Missing role) from to ends asking wallet reader dice = absurd ends
end-complete command statuses.Cabinet from to ends asking wallet reader dice = absurd ends
end-complete command (statuses.Form role check at) from to ends asking wallet reader dice = absurd ends
end-complete command statuses.Sink from to ends asking wallet reader dice = absurd ends
end-complete command statuses.Device from to ends asking wallet reader dice = absurd (no-device from to asking wallet reader)
end-complete command statuses.Dice from to ends asking wallet reader dice = absurd (dice asking.dice)
end-complete command statuses.Verdict from to ends asking wallet reader dice = ends
end-complete command (statuses.Limit limit number) from to ends asking wallet reader dice = ends
end-complete command statuses.Memory from to ends asking wallet reader dice = tt

by-stop : (command : Command) (stop : Stop) (outcome : Outcome) (status : Status) (before now : World) (from to : Sources) → status ≡ status_at stop outcome → IsEndOf command outcome.status →
    Causes status before.cabinet.faults now.cabinet.faults before.sink.faults now.sink.faults → AskCauses status from to → IsFaultless before now from to → IsComplete command status
by-stop command End outcome status before now from to is ends causes asking faultless =
    end-complete command status from to (subst (IsEndOf command) (sym is) ends) asking faultless.wallet faultless.reader faultless.dice
by-stop command (FileFailed files file) outcome status before now from to is ends causes asking faultless =
    absurd (faultless.cabinet (subst (λ (s : Status). Causes s before.cabinet.faults now.cabinet.faults before.sink.faults now.sink.faults) is causes).0)
by-stop command (LineFailed lines line) outcome status before now from to is ends causes asking faultless =
    absurd (faultless.sink (subst (λ (s : Status). Causes s before.cabinet.faults now.cabinet.faults before.sink.faults now.sink.faults) is causes).0)
by-stop command (OutOfMemory files lines) outcome status before now from to is ends causes asking faultless = subst (IsComplete command) (sym is) tt

-- ---- the clauses

-- what a command does with an order
abbrev pub DoesOrder : Order → ℤ → Sources → Sources → World → World → Status → Type 0
DoesOrder o clock from to before now status = Does (files_named o) (work_of o.command o.words clock) (asks_of o.command o.words clock) from to before now status

order-runs : (o : Order) (clock : ℤ) (from to : Sources) (before now : World) (status : Status) → DoesOrder o clock from to before now status → Runs o clock before now from to status
order-runs o clock from to before now status does =
    let ran = does_run (files_named o) (work_of o.command o.words clock) (asks_of o.command o.words clock) from to before now status (works o.command o.words clock) (wanting o.command o.words clock) does in record {
      told = ran.told;
      gained = ran.gained;
      run = ran.run;
      asked = ran.asked;
      asking = ran.asking;
      complete = λ all faultless.
          by-stop o.command ran.run.stop (after_reads (files_named o) ran.run.answers (work_of o.command o.words clock ran.told)) status before now from to ran.run.answer
          (opened-ends o.command (files_named o) ran.run.answers (work_of o.command o.words clock ran.told) (work_ends o.command o.words clock ran.told) all) ran.run.causes ran.asking faultless;
    }

pub runs : (words : List (List ℕ)) (o : Order) (clock : ℤ) (from to : Sources) (before now : World) (status : Status) → Some o ≡ order words →
    DoesOrder o clock from to before now status → IfSome (order words) (λ order. Runs order clock before now from to status)
runs words o clock from to before now status is does =
    subst (λ (found : Option Order). IfSome found (λ order. Runs order clock before now from to status)) is (order-runs o clock from to before now status does)

-- words that are in form aren't told `Usage`
pub no_usage : (words : List (List ℕ)) (o : Order) (clock : ℤ) (from to : Sources) (before now : World) (status : Status) → Some o ≡ order words →
    DoesOrder o clock from to before now status → (status ≡ statuses.Usage) ↔ IsNone (order words)
no_usage words o clock from to before now status is does =
    let ran = order-runs o clock from to before now status does in (
      λ usage. absurd (subst (λ (s : Status). Causes s before.cabinet.faults now.cabinet.faults before.sink.faults now.sink.faults) usage ran.run.causes),
      λ none. let absent : IsNone (Some o) = subst (λ (found : Option Order). IsNone found) (sym is) none in absurd cc,
    )

-- ---- the arms of the commands

pub draft_arm : (command : Command) (words : List (List ℕ)) (clock : ℤ) (from : Sources) (before now : World) (status : Status) → command ≡ Draft →
    Opens (named_files draft_row words) (λ contents. Ends (draft_outcome contents)) (Unit {0}) before now status →
    DoesOrder (record { command = command; words = words }) clock from from before now status
draft_arm command words clock from before now status is opens =
    subst (λ (c : Command). DoesOrder (record { command = c; words = words }) clock from from before now status) (sym is) (draft_does words from before now status opens)

pub issue_arm : (command : Command) (words : List (List ℕ)) (clock : ℤ) (from to : Sources) (before now : World) (status : Status) → command ≡ Issue →
    DoesOrder (record { command = Issue; words = words }) clock from to before now status → DoesOrder (record { command = command; words = words }) clock from to before now status
issue_arm command words clock from to before now status is does =
    subst (λ (c : Command). DoesOrder (record { command = c; words = words }) clock from to before now status) (sym is) does

pub import_arm : (command : Command) (words : List (List ℕ)) (clock : ℤ) (from to : Sources) (before now : World) (status : Status) → command ≡ Import →
    DoesOrder (record { command = Import; words = words }) clock from to before now status → DoesOrder (record { command = command; words = words }) clock from to before now status
import_arm command words clock from to before now status is does =
    subst (λ (c : Command). DoesOrder (record { command = c; words = words }) clock from to before now status) (sym is) does
