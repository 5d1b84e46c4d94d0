-- What a run leaves of an order, by what it saw of the outside.
use Rattle.std.specs.Prelude.{◌≡◌, ℤ}
use Rattle.mdoc_frame.specs.Asking.{AskCauses, IsGained, Sources, Talks, no_talks}
use Rattle.mdoc_frame.specs.Run.{AreOpened, AsksAfter, IsFaultless, IsRun}
use Rattle.mdoc_frame.specs.World.{World}
use Rattle.mdoc_frame.specs.declared.status.Status.{Status}
use Rattle.mdoc_frame.specs.declared.status.Status.TheVariants as statuses
use Rattle.mdoc_program.specs.Commands.{asks_of, work_of}
use Rattle.mdoc_program.specs.Order.{Order, files_named}
use Rattle.mdoc_program.specs.declared.command.Command.{Command}
use Rattle.mdoc_program.specs.declared.command.Command.TheVariants.{Draft, Import, Issue}

-- the work was done, or memory was wanting; a package or a store may be too long
abbrev pub MayPass : Command → Type 0
MayPass Draft = ⊥
MayPass Issue = Unit {0}
MayPass Import = Unit {0}

-- a document may be refused
abbrev pub MayRefuse : Command → Type 0
MayRefuse Draft = ⊥
MayRefuse Issue = ⊥
MayRefuse Import = Unit {0}

abbrev pub IsComplete : Command → Status → Type 0
IsComplete command statuses.Done = Unit {0}
IsComplete command statuses.Memory = Unit {0}
IsComplete command statuses.Verdict = MayRefuse command
IsComplete command (statuses.Limit limit number) = MayPass command
IsComplete command status = ⊥

-- What a run does with an order.
pub record Runs (order : Order) (clock : ℤ) (before now : World) (from to : Sources) (status : Status) : Type 0 where
  -- what the devices told and the dice dealt
  pub told : Talks
  pub gained : IsGained from.talks told to.talks
  pub run : IsRun (files_named order) (work_of order.command order.words clock told) before now status
  -- once all files are opened it is the answer to what the command asks; else nothing is asked
  pub asked : AsksAfter (files_named order) run.answers (asks_of order.command order.words clock told status) (told ≡ no_talks)
  -- at most one count of faults of the devices and the dice rose
  pub asking : AskCauses status from to
  -- Where all files are opened and no count rose, the work is done, or memory was wanting, or what it makes is too long.
  pub complete : AreOpened (files_named order) run.answers → IsFaultless before now from to → IsComplete order.command status
