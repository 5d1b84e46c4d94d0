-- What each outcome of a plan is, the outcome is that it was followed to.
use Rattle.std.proofs.Common.{List, [], Some, ap}
use Rattle.key_device.proofs.OverLemmas.{is_over_its_talk}
use Rattle.key_device.specs.Plan.{Course, Follows, Plan}
use Rattle.key_device.specs.declared.exchange.Exchange.{Exchange}
use Rattle.wallet_model.proofs.Always.{Always, always_outcome}

pub followed : {A : Type 0} (P : A → Type 0) (p : Plan A) {old new : List Exchange} {a : A} → Always P p → Follows p old new (Some a) → P a
followed {A} P p {old} {new} {a} holds follows =
    always_outcome P p _ [] [] a holds
    (ap (λ (course : Course A). course.outcome) (is_over_its_talk A p old follows.gained new [] a follows follows.joined))
