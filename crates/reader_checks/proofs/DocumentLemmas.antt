-- What is found of a document, by what its copies come to.
use Rattle.std.proofs.Common.{◌≡◌, List, Some, Result, Ok, Err, subst}
use Rattle.std.specs.Prelude.{IfOk, OnErr}
use Rattle.key_device.specs.Ends.{came_to}
use Rattle.doc_store.specs.Store.{Document}
use Rattle.key_device.proofs.PlanLemmas.{halted}
use Rattle.key_device.proofs.PlanStepLemmas.{mapped_came}
use Rattle.key_device.specs.Plan.{Plan, Follows}
use Rattle.key_device.specs.PlanSteps.{mapped}
use Rattle.key_device.specs.declared.device_fault.DeviceFault.{DeviceFault}
use Rattle.key_device.specs.declared.device_fault.DeviceFault.TheVariants.{Failed, Memory}
use Rattle.key_device.specs.declared.exchange.Exchange.{Exchange}
use Rattle.verdict_model.specs.Checked.{Failure, package_verdict}
use Rattle.verdict_model.specs.declared.package_verdict.PackageVerdict.{PackageVerdict}

-- The copies came to an outcome, by which this is found; or memory was wanting then.
pub found : {p : Plan (Result (List (Unit {0})) Failure)} (d : Document) (outcome : Result (List (Unit {0})) Failure) (verdict : PackageVerdict) (result : Result PackageVerdict DeviceFault) {old new : List Exchange}
    → Follows p old new (Some outcome) → package_verdict d outcome ≡ Ok verdict → IfOk result (λ it. it ≡ verdict) → OnErr result (result ≡ Err Memory)
    → Follows (mapped (package_verdict d) p) old new (came_to Failed (λ it. it) result)
found {p} d outcome verdict (Ok it) {old} {new} first is came memory =
    subst (λ (own : Result PackageVerdict DeviceFault). Follows (mapped (package_verdict d) p) old new (Some own)) (rw came is) (mapped_came (package_verdict d) first)
found d outcome verdict (Err Memory) first is came memory = halted (mapped_came (package_verdict d) first)
found d outcome verdict (Err Failed) first is came memory = absurd (cc)
