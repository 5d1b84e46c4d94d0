-- The import of a package into a store (ISO/IEC 18013-5, 9.1.2 and 9.3.1): each document is checked, and the package is
-- merged into the store where none of them is refused.
use Rattle.std.specs.Prelude.{◌≡◌, ◌≤◌, ◌<◌, ℕ, ℤ, nat_le, ◌&&◌, is_none, List, length, Bool, true, false, Option, Some, None, Result, Ok, Err}
use Rattle.std.specs.List.{list_all}
use Rattle.cert_view.specs.declared.root.Root.{Root}
use Rattle.doc_store.specs.Store.{Store}
use Rattle.key_device.specs.Plan.{Plan}
use Rattle.key_device.specs.PlanSteps.{mapped}
use Rattle.key_device.specs.declared.device_fault.DeviceFault.{DeviceFault}
use Rattle.mdoc_outside.specs.declared.limit_name.LimitName.TheVariants.{Documents, FileBytes}
use Rattle.verdict_model.specs.Checked.{checked}
use Rattle.verdict_model.specs.declared.package_verdict.PackageVerdict.{PackageVerdict}
use Rattle.store_write.specs.Merged.{merged}
use Rattle.store_write.specs.Written.{store_bytes}
use Rattle.package_import.specs.declared.import_fault.ImportFault.{ImportFault}
use Rattle.package_import.specs.declared.import_fault.ImportFault.TheVariants as faults
use Rattle.package_import.specs.declared.imported.Imported.{Imported}

-- whether no check of a document, and of none of its items, fails
abbrev pub is_accepted : PackageVerdict → Bool
is_accepted verdict = is_none verdict.refused && is_none verdict.item

abbrev pub are_accepted : List PackageVerdict → Bool
are_accepted verdicts = list_all is_accepted verdicts

-- The merged store, where it has at most 16 documents and at most 16,777,216 bytes.
abbrev pub if_short : Bool → List ℕ → List PackageVerdict → Result Imported ImportFault
if_short true bytes verdicts = Ok (record { merged = Some bytes; verdicts = verdicts })
if_short false bytes verdicts = Err (faults.Limit FileBytes (length bytes))

abbrev pub if_few : Bool → Store → List PackageVerdict → Result Imported ImportFault
if_few true documents verdicts = if_short (nat_le (length (store_bytes documents)) 16777216) (store_bytes documents) verdicts
if_few false documents verdicts = Err (faults.Limit Documents (length documents))

-- With a document that is refused nothing is merged.
abbrev pub if_accepted : Bool → Store → List PackageVerdict → Result Imported ImportFault
if_accepted true documents verdicts = if_few (nat_le (length documents) 16) documents verdicts
if_accepted false documents verdicts = Ok (record { merged = None; verdicts = verdicts })

abbrev pub imported_of : Store → Store → List PackageVerdict → Result Imported ImportFault
imported_of own received verdicts = if_accepted (are_accepted verdicts) (merged own received) verdicts

abbrev pub by_verdicts : Store → Store → Result (List PackageVerdict) DeviceFault → Result Imported ImportFault
by_verdicts own received (Ok verdicts) = imported_of own received verdicts
by_verdicts own received (Err fault) = Err faults.Device

-- What an import asks, and what it comes to.
unfoldable pub import_checks : List Root → ℤ → Store → Store → Plan (Result Imported ImportFault)
import_checks roots moment own received = mapped (by_verdicts own received) (checked roots moment received)

-- ---- what a call answers

-- want of memory is no outcome
abbrev pub came_to : Result Imported ImportFault → Option (Result Imported ImportFault)
came_to (Err faults.Memory) = None
came_to result = Some result

-- the outcome, or want of memory before it
abbrev pub Comes : Result Imported ImportFault → Result Imported ImportFault → Type 0
Comes outcome (Err faults.Memory) = Unit {0}
Comes outcome result = outcome ≡ result

-- the bytes of the merged store, or the limit that they pass
abbrev pub MergesInto : Store → Result (List ℕ) ImportFault → Type 0
MergesInto documents (Ok bytes) = (bytes ≡ store_bytes documents) × (length documents ≤ 16) × (length (store_bytes documents) ≤ 16777216)
MergesInto documents (Err faults.Device) = ⊥
MergesInto documents (Err (faults.Limit Documents n)) = (n ≡ length documents) × (16 < length documents)
MergesInto documents (Err (faults.Limit FileBytes n)) = (n ≡ length (store_bytes documents)) × (length documents ≤ 16) × (16777216 < length (store_bytes documents))
MergesInto documents (Err (faults.Limit limit n)) = ⊥
MergesInto documents (Err faults.Memory) = Unit {0}

-- whether the device failed
abbrev pub is_device : Result Imported ImportFault → Bool
is_device (Err faults.Device) = true
is_device result = false
