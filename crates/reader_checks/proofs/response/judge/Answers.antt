use Rattle.std.proofs.Common.{Ok, refl, to_z-of_z}
use Rattle.doc_response.specs.ResponseDocs.{documents_left}
use Rattle.key_device.proofs.PlanLemmas.{cut_short, ended, then_more, unasked}
use Rattle.key_device.specs.Plan.{Done}
use Rattle.key_device.specs.PlanSteps.{unless_fault}
use Rattle.verdict_model.specs.Verdict.{verdict, verdict_on}
use Rattle.reader_checks.proofs.Causes.{cause_device, cause_memory, cause_ok}
use Rattle.reader_checks.proofs.Moments.{at_moment}
use Rattle.reader_checks.proofs.response.judge.Goals as goal

pub returns-in-Err-Device : goal.returns-in-Err-Device
unfolding verdict
returns-in-Err-Device g c =
    let cause = rw c.in-Err-Device.field-0-is at c.in-Err-Device.ensures.cause in
    record {
      asked = then_more (unless_fault (λ judged. Done (Ok (verdict_on c.args.request.now judged))))
          (at_moment c.args.request.now (record { transcript = c.args.transcript.now; key = c.args.key }) c.args.roots.now (documents_left c.args.response.now.documents) (to_z-of_z c.ranges.moment)
          (rw (c.in-Err-Device.field-0-is, c.list.ensures, c.documents.ensures) at c.in-Err-Device.ensures.asked)) (ended _);
      gave = c.in-Err-Device.ensures.gave;
      cause = cause_device cause.later (cause.rose refl);
    }

pub returns-in-Err-Memory : goal.returns-in-Err-Memory
unfolding verdict
returns-in-Err-Memory g c =
    let cause = rw c.in-Err-Memory.field-0-is at c.in-Err-Memory.ensures.cause in
    record {
      asked = cut_short (unless_fault (λ judged. Done (Ok (verdict_on c.args.request.now judged))))
          (at_moment c.args.request.now (record { transcript = c.args.transcript.now; key = c.args.key }) c.args.roots.now (documents_left c.args.response.now.documents) (to_z-of_z c.ranges.moment)
          (rw (c.in-Err-Memory.field-0-is, c.list.ensures, c.documents.ensures) at c.in-Err-Memory.ensures.asked));
      gave = c.in-Err-Memory.ensures.gave;
      cause = cause_memory (cause.out_of_memory refl);
    }

pub returns-in-Ok-unanswered : goal.returns-in-Ok-unanswered
unfolding verdict
returns-in-Ok-unanswered g c = record {
  asked = rw (c.in-Ok-unanswered.ensures, c.as_slice.ensures)
      (then_more (unless_fault (λ judged. Done (Ok (verdict_on c.args.request.now judged))))
      (at_moment c.args.request.now (record { transcript = c.args.transcript.now; key = c.args.key }) c.args.roots.now (documents_left c.args.response.now.documents) (to_z-of_z c.ranges.moment)
      (rw (c.list.ensures, c.documents.ensures) at c.in-Ok.ensures.asked)) (ended _));
  gave = c.in-Ok.ensures.gave;
  cause = cause_ok _ c.in-Ok.ensures.cause.done;
}

pub returns-in-Err : goal.returns-in-Err
unfolding verdict
returns-in-Err g c = record {
  asked = then_more (unless_fault (λ judged. Done (Ok (verdict_on c.args.request.now judged))))
      (at_moment c.args.request.now (record { transcript = c.args.transcript.now; key = c.args.key }) c.args.roots.now (documents_left c.args.response.now.documents) (to_z-of_z c.ranges.moment)
      (rw (c.list.ensures, c.documents.ensures) at c.in-Ok.ensures.asked)) (unasked refl);
  gave = c.in-Ok.ensures.gave;
  cause = cause_memory c.in-Ok.ensures.cause.done;
}
