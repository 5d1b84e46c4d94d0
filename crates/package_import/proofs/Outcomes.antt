-- What an import comes to.
use Rattle.std.proofs.Common.{◌≡◌, ◌<◌, ◌≤◌, arith, ℕ, Bool, true, false, List, length, Some, Result, Ok, Err, refl, sym, ap, subst, ◌∙◌}
use Rattle.std.specs.Prelude.{nat_le}
use Rattle.std.proofs.lemmas.Bool.Decides.{nat_tests}
use Rattle.doc_store.specs.Store.{Store}
use Rattle.key_device.proofs.PlanLemmas.{halted}
use Rattle.key_device.proofs.PlanStepLemmas.{mapped_came}
use Rattle.key_device.specs.Gave.{Counts}
use Rattle.key_device.specs.Plan.{Plan, Follows}
use Rattle.key_device.specs.PlanSteps.{mapped}
use Rattle.key_device.specs.declared.device_fault.DeviceFault.{DeviceFault}
use Rattle.key_device.specs.declared.exchange.Exchange.{Exchange}
use Rattle.mdoc_outside.specs.declared.limit_name.LimitName.TheVariants.{FileBytes, PackageBytes, Documents, Namespaces, Items, Copies, Value, Name, Roots, Requests, Wishes, ScheduleLines, Fragments}
use Rattle.package_import.specs.Import.{Comes, MergesInto, are_accepted, by_verdicts, came_to, if_accepted, if_few, if_short, imported_of, is_device}
use Rattle.package_import.specs.declared.import_fault.ImportFault.{ImportFault}
use Rattle.package_import.specs.declared.import_fault.ImportFault.TheVariants as faults
use Rattle.package_import.specs.declared.imported.Imported.{Imported}
use Rattle.verdict_model.specs.declared.package_verdict.PackageVerdict.{PackageVerdict}
use Rattle.store_write.specs.Merged.{merged}
use Rattle.store_write.specs.Written.{store_bytes}

at_most : (n most : ℕ) → n ≤ most → nat_le n most ≡ true
at_most n most within = grind (arith, nat_tests)

above : (n most : ℕ) → most < n → nat_le n most ≡ false
above n most over = grind (arith, nat_tests)

-- ---- where no document is refused, by what a merge answers

merge-came : (documents : Store) (verdicts : List PackageVerdict) (bytes : List ℕ) → MergesInto documents (Ok bytes)
    → if_few (nat_le (length documents) 16) documents verdicts ≡ Ok (record { merged = Some bytes; verdicts = verdicts })
merge-came documents verdicts bytes m =
    let few : nat_le (length documents) 16 ≡ true = at_most (length documents) 16 m.1 in
    let short : nat_le (length (store_bytes documents)) 16777216 ≡ true = at_most (length (store_bytes documents)) 16777216 m.2 in
    rw (few, short, m.0) refl

merge-failed : (documents : Store) (verdicts : List PackageVerdict) (fault : ImportFault) → MergesInto documents (Err fault)
    → Comes (if_few (nat_le (length documents) 16) documents verdicts) (Err fault)
merge-failed documents verdicts faults.Device m = absurd m
merge-failed documents verdicts faults.Memory m = tt
merge-failed documents verdicts (faults.Limit Documents n) m =
    let many : nat_le (length documents) 16 ≡ false = above (length documents) 16 m.1 in
    rw (many, m.0) refl
merge-failed documents verdicts (faults.Limit FileBytes n) m =
    let few : nat_le (length documents) 16 ≡ true = at_most (length documents) 16 m.1 in
    let long : nat_le (length (store_bytes documents)) 16777216 ≡ false = above (length (store_bytes documents)) 16777216 m.2 in
    rw (few, long, m.0) refl
merge-failed documents verdicts (faults.Limit PackageBytes n) m = absurd m
merge-failed documents verdicts (faults.Limit Namespaces n) m = absurd m
merge-failed documents verdicts (faults.Limit Items n) m = absurd m
merge-failed documents verdicts (faults.Limit Copies n) m = absurd m
merge-failed documents verdicts (faults.Limit Value n) m = absurd m
merge-failed documents verdicts (faults.Limit Name n) m = absurd m
merge-failed documents verdicts (faults.Limit Roots n) m = absurd m
merge-failed documents verdicts (faults.Limit Requests n) m = absurd m
merge-failed documents verdicts (faults.Limit Wishes n) m = absurd m
merge-failed documents verdicts (faults.Limit ScheduleLines n) m = absurd m
merge-failed documents verdicts (faults.Limit Fragments n) m = absurd m

pub accepted_merged : (own received : Store) (verdicts : List PackageVerdict) (bytes : List ℕ) → are_accepted verdicts ≡ true → MergesInto (merged own received) (Ok bytes)
    → imported_of own received verdicts ≡ Ok (record { merged = Some bytes; verdicts = verdicts })
accepted_merged own received verdicts bytes all m =
    subst (λ (accepted : Bool). if_accepted accepted (merged own received) verdicts ≡ Ok (record { merged = Some bytes; verdicts = verdicts })) (sym all)
    (merge-came (merged own received) verdicts bytes m)

pub accepted_failed : (own received : Store) (verdicts : List PackageVerdict) (fault : ImportFault) → are_accepted verdicts ≡ true → MergesInto (merged own received) (Err fault)
    → Comes (imported_of own received verdicts) (Err fault)
accepted_failed own received verdicts fault all m =
    subst (λ (accepted : Bool). Comes (if_accepted accepted (merged own received) verdicts) (Err fault)) (sym all) (merge-failed (merged own received) verdicts fault m)

-- ---- by what is found of the package

-- it comes to an outcome, or memory is wanting
pub outcome_of : {p : Plan (Result (List PackageVerdict) DeviceFault)} (own received : Store) (verdicts : List PackageVerdict) (result : Result Imported ImportFault) {old new : List Exchange}
    → Follows p old new (Some (Ok verdicts)) → Comes (imported_of own received verdicts) result → Follows (mapped (by_verdicts own received) p) old new (came_to result)
outcome_of {p} own received verdicts (Ok it) {old} {new} first is =
    subst (λ (outcome : Result Imported ImportFault). Follows (mapped (by_verdicts own received) p) old new (Some outcome)) is (mapped_came (by_verdicts own received) first)
outcome_of {p} own received verdicts (Err faults.Device) {old} {new} first is =
    subst (λ (outcome : Result Imported ImportFault). Follows (mapped (by_verdicts own received) p) old new (Some outcome)) is (mapped_came (by_verdicts own received) first)
outcome_of {p} own received verdicts (Err (faults.Limit limit number)) {old} {new} first is =
    subst (λ (outcome : Result Imported ImportFault). Follows (mapped (by_verdicts own received) p) old new (Some outcome)) is (mapped_came (by_verdicts own received) first)
outcome_of own received verdicts (Err faults.Memory) first is = halted (mapped_came (by_verdicts own received) first)

-- by verdicts there is no fault of the device
short-calm : (short : Bool) (bytes : List ℕ) (verdicts : List PackageVerdict) → is_device (if_short short bytes verdicts) ≡ false
short-calm true bytes verdicts = refl
short-calm false bytes verdicts = refl

few-calm : (few : Bool) (documents : Store) (verdicts : List PackageVerdict) → is_device (if_few few documents verdicts) ≡ false
few-calm true documents verdicts = short-calm (nat_le (length (store_bytes documents)) 16777216) (store_bytes documents) verdicts
few-calm false documents verdicts = refl

accepted-calm : (accepted : Bool) (documents : Store) (verdicts : List PackageVerdict) → is_device (if_accepted accepted documents verdicts) ≡ false
accepted-calm true documents verdicts = few-calm (nat_le (length documents) 16) documents verdicts
accepted-calm false documents verdicts = refl

calm : (own received : Store) (verdicts : List PackageVerdict) (result : Result Imported ImportFault) → Comes (imported_of own received verdicts) result → is_device result ≡ false
calm own received verdicts (Ok it) is = refl
calm own received verdicts (Err faults.Device) is = sym (ap is_device is) ∙ accepted-calm (are_accepted verdicts) (merged own received) verdicts
calm own received verdicts (Err (faults.Limit limit number)) is = refl
calm own received verdicts (Err faults.Memory) is = refl

pub outcome_counts : (own received : Store) (verdicts : List PackageVerdict) (result : Result Imported ImportFault) {before now : ℕ}
    → Comes (imported_of own received verdicts) result → now ≡ before → Counts (is_device result) before now
outcome_counts own received verdicts result is same = rw (calm own received verdicts result is) same
