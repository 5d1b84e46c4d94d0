-- How `import` ends.
use Rattle.std.proofs.Common.{◌≡◌, ℕ, ℤ, true, List, [], ◌∷◌, Option, Some, None, Result, Ok, Err, refl}
use Rattle.key_device.specs.Plan.{OutOfMemory, over}
use Rattle.mdoc_frame.specs.Asking.{Talks, no_talks}
use Rattle.mdoc_frame.specs.Content.{Content, OfPackage, OfRoots, OfStore}
use Rattle.mdoc_frame.specs.declared.status.Status.TheVariants as statuses
use Rattle.mdoc_frame.proofs.EndLemmas.{IsEnd, begins_nothing}
use Rattle.mdoc_frame.proofs.RunLemmas.{is_work}
use Rattle.mdoc_import.specs.Import.{import_asks, import_of, import_outcome, import_status, merged_status}
use Rattle.package_import.specs.Import.{import_checks}
use Rattle.package_import.specs.declared.import_fault.ImportFault.{ImportFault}
use Rattle.package_import.specs.declared.import_fault.ImportFault.TheVariants as imports
use Rattle.package_import.specs.declared.imported.Imported.{Imported}

import-fault-ends : (fault : ImportFault) → IsEnd (Unit {0}) (Unit {0}) (import_status fault)
import-fault-ends imports.Device = tt
import-fault-ends (imports.Limit limit number) = tt
import-fault-ends imports.Memory = tt

merged-ends : (merged : Option (List ℕ)) → IsEnd (Unit {0}) (Unit {0}) (merged_status merged)
merged-ends None = tt
merged-ends (Some bytes) = tt

imported-ends : (store : List ℕ) (result : Option (Result Imported ImportFault)) → IsEnd (Unit {0}) (Unit {0}) (import_of store result).status
imported-ends store None = tt
imported-ends store (Some (Err fault)) = import-fault-ends fault
imported-ends store (Some (Ok imported)) = merged-ends imported.merged

pub import_ends : (store : List ℕ) (moment : ℤ) (told : Talks) (contents : List Content) → IsEnd (Unit {0}) (Unit {0}) (import_outcome store moment told contents).status
import_ends store moment told ((OfPackage received) ∷ ((OfRoots roots) ∷ ((OfStore own) ∷ []))) =
    imported-ends store (over (import_checks roots moment own.documents received.documents) told.reader).outcome
import_ends store moment told contents = tt

import-fault-works : (fault : ImportFault) → is_work (import_status fault) ≡ true
import-fault-works imports.Device = refl
import-fault-works (imports.Limit limit number) = refl
import-fault-works imports.Memory = refl

merged-works : (merged : Option (List ℕ)) → is_work (merged_status merged) ≡ true
merged-works None = refl
merged-works (Some bytes) = refl

imported-works : (store : List ℕ) (result : Option (Result Imported ImportFault)) → is_work (import_of store result).status ≡ true
imported-works store None = refl
imported-works store (Some (Err fault)) = import-fault-works fault
imported-works store (Some (Ok imported)) = merged-works imported.merged

pub import_works : (store : List ℕ) (moment : ℤ) (told : Talks) (contents : List Content) → is_work (import_outcome store moment told contents).status ≡ true
import_works store moment told ((OfPackage received) ∷ ((OfRoots roots) ∷ ((OfStore own) ∷ []))) =
    imported-works store (over (import_checks roots moment own.documents received.documents) told.reader).outcome
import_works store moment told contents = refl

-- where memory is wanting before it, nothing is asked
pub import_wanting : (moment : ℤ) (contents : List Content) → import_asks moment no_talks statuses.Memory contents
import_wanting moment ((OfPackage received) ∷ ((OfRoots roots) ∷ ((OfStore own) ∷ []))) =
    record { end = OutOfMemory; asks = begins_nothing (import_checks roots moment own.documents received.documents); ends = refl; wallet = refl; words = refl }
import_wanting moment contents = refl
