-- What the checks of copies come to, as the definition has it.
use Rattle.std.specs.Prelude.{ℕ, List, Bool, true, false, Option, Some, None, option_map, replicate, Result, Ok, Err}
use Rattle.issuer_checks.specs.declared.check_end.CheckEnd.{CheckEnd}
use Rattle.issuer_checks.specs.declared.check_end.CheckEnd.TheVariants as stops
use Rattle.reader_checks.specs.declared.failure.Failure as found
use Rattle.reader_checks.specs.declared.failure.Failure.TheVariants as ways
use Rattle.verdict_model.specs.Checked.{Failure, DocFails, ItemFails, Unanswered}

-- whether the checks of a copy and its items ended since the device failed to answer
abbrev pub is_unanswered : found.Failure → Bool
is_unanswered ways.Device = true
is_unanswered (ways.DocFails check) = false
is_unanswered (ways.ItemFails element check) = false
is_unanswered ways.Memory = false

abbrev pub copy_fails : Result (Unit {0}) found.Failure → Bool
copy_fails (Ok u) = false
copy_fails (Err failure) = is_unanswered failure

-- what ends the issuer's part ends the checks of a copy
abbrev pub failure_of : CheckEnd → found.Failure
failure_of (stops.Refused check) = ways.DocFails check
failure_of stops.Device = ways.Device
failure_of stops.Memory = ways.Memory

-- what they come to; want of memory is no outcome
abbrev pub came_to : Result (Unit {0}) found.Failure → Option (Result (Unit {0}) Failure)
came_to (Ok u) = Some (Ok u)
came_to (Err (ways.DocFails check)) = Some (Err (DocFails check))
came_to (Err (ways.ItemFails element check)) = Some (Err (ItemFails element check))
came_to (Err ways.Device) = Some (Err Unanswered)
came_to (Err ways.Memory) = None

-- the same of so many copies
abbrev pub all_of : ℕ → Result (Unit {0}) Failure → Result (List (Unit {0})) Failure
all_of count (Ok u) = Ok (replicate count u)
all_of count (Err failure) = Err failure

abbrev pub all_came_to : ℕ → Result (Unit {0}) found.Failure → Option (Result (List (Unit {0})) Failure)
all_came_to count result = option_map (all_of count) (came_to result)
