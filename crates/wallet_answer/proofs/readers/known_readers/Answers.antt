use Rattle.std.proofs.Common.{◌<◌, ◌∙◌, ℤ, length, arith, subst, to_z, of_z, w64, to_z-of_z, Some, None, Err}
use Rattle.std.proofs.lemmas.List.{get_or_default, map_push}
use Rattle.key_device.specs.Plan.{Follows}
use Rattle.key_device.specs.PlanSteps.{each}
use Rattle.key_device.specs.Recording.{talk}
use Rattle.key_device.specs.declared.device_fault.DeviceFault.TheVariants.{Failed}
use Rattle.key_device.proofs.GaveLemmas.{gave_then}
use Rattle.key_device.proofs.PlanStepLemmas.{each_more, each_stopped, each_cut}
use Rattle.wallet_answer.specs.KnownView.{known_of}
use Rattle.wallet_answer.proofs.readers.known_readers.Goals as goal

pub loop-document-preserved : goal.loop-document-preserved
loop-document-preserved g c =
    let within : c.loop-document.document-index < length c.args.documents.now = omega arith in
    record {
      asked = rw (c.push_reserved.ensures.items, c.reserve.ensures.items, map_push)
          (each_more (known_of c.args.readers.now (to_z w64 (of_z w64 c.args.moment)) c.args.transcript.now) c.args.documents.now c.loop-document.document-index _ _ c.loop-document.invariant.asked within
          (c.document-item.is ∙ get_or_default c.args.documents.now c.loop-document.document-index _ _ within) c.in-Ok.ensures.asked);
      gave = gave_then c.loop-document.invariant.gave c.in-Ok.ensures.gave;
    }

pub returns-in-Err-Failed-clause-asked : goal.returns-in-Err-Failed-clause-asked
returns-in-Err-Failed-clause-asked g c =
    let within : c.loop-document.document-index < length c.args.documents.now = omega arith in
    subst (λ (moment : ℤ). Follows (each (known_of c.args.readers.now moment c.args.transcript.now) c.args.documents.now) (talk c.args.device.now) (talk c.known_reader.new.device) (Some (Err Failed)))
    (to_z-of_z c.ranges.moment)
    (each_stopped (known_of c.args.readers.now (to_z w64 (of_z w64 c.args.moment)) c.args.transcript.now) c.args.documents.now c.loop-document.document-index _ c.loop-document.invariant.asked within
    (c.document-item.is ∙ get_or_default c.args.documents.now c.loop-document.document-index _ _ within) (rw c.in-Err-Failed.field-0-is at c.in-Err-Failed.ensures.asked))

pub returns-in-Err-Memory-clause-asked : goal.returns-in-Err-Memory-clause-asked
returns-in-Err-Memory-clause-asked g c =
    let within : c.loop-document.document-index < length c.args.documents.now = omega arith in
    subst (λ (moment : ℤ). Follows (each (known_of c.args.readers.now moment c.args.transcript.now) c.args.documents.now) (talk c.args.device.now) (talk c.known_reader.new.device) None)
    (to_z-of_z c.ranges.moment)
    (each_cut (known_of c.args.readers.now (to_z w64 (of_z w64 c.args.moment)) c.args.transcript.now) c.args.documents.now c.loop-document.document-index _ c.loop-document.invariant.asked within
    (c.document-item.is ∙ get_or_default c.args.documents.now c.loop-document.document-index _ _ within) (rw c.in-Err-Memory.field-0-is at c.in-Err-Memory.ensures.asked))
