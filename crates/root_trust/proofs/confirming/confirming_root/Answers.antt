use Rattle.std.proofs.Common.{◌<◌, ◌∙◌, length, arith}
use Rattle.std.proofs.lemmas.List.{get_or_default}
use Rattle.cert_view.specs.Cert.{fields}
use Rattle.key_device.proofs.GaveLemmas.{gave_then}
use Rattle.key_device.proofs.PlanStepLemmas.{first_no, first_found, first_stopped, first_cut}
use Rattle.root_trust.specs.Confirming.{root_confirms, confirming_root}
use Rattle.root_trust.proofs.confirming.confirming_root.Goals as goal

pub loop-root-preserved : goal.loop-root-preserved
loop-root-preserved g c =
    let within : c.loop-root.root-index < length c.args.roots.now = omega arith in
    record {
      asked = first_no (root_confirms (fields c.args.cert.now)) c.args.roots.now c.loop-root.root-index _ c.loop-root.invariant.asked within
          (c.root-item.is ∙ get_or_default c.args.roots.now c.loop-root.root-index _ _ within) (rw c.in-Ok-false.field-0-test at c.in-Ok-false.ensures.asked);
      gave = gave_then c.loop-root.invariant.gave c.in-Ok-false.ensures.gave;
      same = c.in-Ok-false.ensures.cause.done ∙ c.loop-root.invariant.same;
    }

pub returns-in-Ok-true-clause-asked : goal.returns-in-Ok-true-clause-asked
unfolding confirming_root
returns-in-Ok-true-clause-asked g c =
    let within : c.loop-root.root-index < length c.args.roots.now = omega arith in
    first_found (root_confirms (fields c.args.cert.now)) c.args.roots.now c.loop-root.root-index _ c.loop-root.invariant.asked within
    (c.root-item.is ∙ get_or_default c.args.roots.now c.loop-root.root-index _ _ within) (rw c.in-Ok-true.field-0-test at c.in-Ok-true.ensures.asked)

pub returns-in-Err-Failed-clause-asked : goal.returns-in-Err-Failed-clause-asked
unfolding confirming_root
returns-in-Err-Failed-clause-asked g c =
    let within : c.loop-root.root-index < length c.args.roots.now = omega arith in
    first_stopped (root_confirms (fields c.args.cert.now)) c.args.roots.now c.loop-root.root-index _ c.loop-root.invariant.asked within
    (c.root-item.is ∙ get_or_default c.args.roots.now c.loop-root.root-index _ _ within) (rw c.in-Err-Failed.field-0-is at c.in-Err-Failed.ensures.asked)

pub returns-in-Err-Memory-clause-asked : goal.returns-in-Err-Memory-clause-asked
unfolding confirming_root
returns-in-Err-Memory-clause-asked g c =
    let within : c.loop-root.root-index < length c.args.roots.now = omega arith in
    first_cut (root_confirms (fields c.args.cert.now)) c.args.roots.now c.loop-root.root-index _ c.loop-root.invariant.asked within
    (c.root-item.is ∙ get_or_default c.args.roots.now c.loop-root.root-index _ _ within) (rw c.in-Err-Memory.field-0-is at c.in-Err-Memory.ensures.asked)
