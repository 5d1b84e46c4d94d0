-- One pass over the pairs of a map for one key of the form.
use Rattle.std.proofs.Common.{Bool, if◌then◌else◌, drop, Option}
use Rattle.std.specs.Option.{option_or}
use Rattle.doc_store.specs.declared.first_fault.Fault.{Fault}
use Rattle.doc_store.specs.Faults.{Entries, doubled_at, first_fault}

-- where a key stands again, by whether it stood before, where it stood again, and the entries of it that are left
abbrev pub again_or : Bool → Option Fault → Entries → Option Fault
again_or stood repeats_after entries = option_or repeats_after (first_fault (doubled_at (if stood then entries else drop 1 entries)))
