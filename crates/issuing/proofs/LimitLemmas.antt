-- When a package exceeds its limit, and what is answered then.
use Rattle.std.proofs.Common.{◌≡◌, ◌<◌, ◌≤◌, arith, Bool, true, false, ℕ, List, length, Option, Result, Ok, Err, refl}
use Rattle.std.specs.Prelude.{if◌then◌else◌, IfOk, nat_lt}
use Rattle.std.proofs.lemmas.Bool.{ltb-false}
use Rattle.std.proofs.lemmas.Bool.Decides.{nat_tests}
use Rattle.key_device.proofs.AllPlanLemmas.{all_ended}
use Rattle.key_device.specs.Plan.{Done, FollowsAll}
use Rattle.key_device.specs.declared.exchange.Exchange.{Exchange}
use Rattle.issuing.specs.Ends.{Cause, end_at, Same}
use Rattle.issuing.specs.declared.issue_fault.IssueFault.{IssueFault}
use Rattle.issuing.specs.declared.issue_fault.IssueFault.TheVariants.{Limit}
use Rattle.mdoc_outside.specs.declared.limit_name.LimitName.TheVariants.{PackageBytes}
use Rattle.issuing.specs.Package.{within_limit}
use Rattle.issuing.specs.declared.issued.Issued.{Issued}

pub above : (root : Option (List ℕ)) (bytes : List ℕ) (n : ℕ) → n ≡ length bytes → 16_777_216 < n → within_limit root bytes ≡ Err (Limit PackageBytes n)
above root bytes n is over =
    let test : nat_lt 16_777_216 (length bytes) ≡ true = grind (arith, nat_tests) in
    rw (test, is) refl

pub below : (root : Option (List ℕ)) (bytes : List ℕ) (n : ℕ) → n ≡ length bytes → n ≤ 16_777_216 → within_limit root bytes ≡ Ok (record { «package» = bytes; root = root })
below root bytes n is within =
    let test : nat_lt 16_777_216 (length bytes) ≡ false = grind (arith, nat_tests) in
    rw test refl

abbrev outcome : Bool → Option (List ℕ) → List ℕ → Result Issued IssueFault
outcome passed root bytes = if passed then Err (Limit PackageBytes (length bytes)) else Ok (record { «package» = bytes; root = root })

ends : (passed : Bool) (root : Option (List ℕ)) (bytes : List ℕ) (one other : List Exchange) (dealt : List ℕ) → FollowsAll (Done (outcome passed root bytes)) one other dealt one other dealt (end_at (outcome passed root bytes))
ends true root bytes one other dealt = all_ended one other dealt
ends false root bytes one other dealt = all_ended one other dealt

pub limit_ends : (root : Option (List ℕ)) (bytes : List ℕ) (one other : List Exchange) (dealt : List ℕ) → FollowsAll (Done (within_limit root bytes)) one other dealt one other dealt (end_at (within_limit root bytes))
limit_ends root bytes one other dealt = ends (nat_lt 16_777_216 (length bytes)) root bytes one other dealt

causes : (passed : Bool) (root : Option (List ℕ)) (bytes : List ℕ) (h h' i i' d d' : ℕ) → Same h h' i i' d d' → Cause h h' i i' d d' (outcome passed root bytes)
causes true root bytes h h' i i' d d' same = same
causes false root bytes h h' i i' d d' same = same

pub limit_causes : (root : Option (List ℕ)) (bytes : List ℕ) (h h' i i' d d' : ℕ) → Same h h' i i' d d' → Cause h h' i i' d d' (within_limit root bytes)
limit_causes root bytes h h' i i' d d' same = causes (nat_lt 16_777_216 (length bytes)) root bytes h h' i i' d d' same

within : (passed : Bool) (root : Option (List ℕ)) (bytes : List ℕ) → nat_lt 16_777_216 (length bytes) ≡ passed → IfOk (outcome passed root bytes) (λ i. length i.package ≤ 16_777_216)
within true root bytes test = tt
within false root bytes test = ltb-false 16_777_216 (length bytes) test

pub limit_within : (root : Option (List ℕ)) (bytes : List ℕ) → IfOk (within_limit root bytes) (λ i. length i.package ≤ 16_777_216)
limit_within root bytes = within (nat_lt 16_777_216 (length bytes)) root bytes refl
