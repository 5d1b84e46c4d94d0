use Rattle.std.proofs.Common.{◌≡◌, ◌∷◌, ◌++◌, [], List, length, Some, Ok, refl, ◌∙◌, subst, add-one, length-append}
use Rattle.doc_response.specs.ResponseDocs.{document_seen, documents_left}
use Rattle.doc_response.specs.Response.{Document}
use Rattle.reader_checks.specs.Views.{setting_seen}
use Rattle.key_device.proofs.GaveLemmas.{gave_none, gave_then}
use Rattle.key_device.proofs.PlanStepLemmas.{each_begun, each_cut, each_more, each_paused, each_stopped}
use Rattle.key_device.specs.Plan.{Follows}
use Rattle.key_device.specs.PlanSteps.{each}
use Rattle.key_device.specs.Recording.{talk}
use Rattle.verdict_model.specs.Documents.{judged_document}
use Rattle.reader_checks.proofs.Causes.{cause_device, cause_memory, cause_ok, cause_then}
use Rattle.reader_checks.proofs.InTurn.{next_of, all_taken}
use Rattle.reader_checks.proofs.documents.judged_documents.Goals as goal

pub loop-document-init : goal.loop-document-init
loop-document-init g c = record {
  next = tt;
  finite = tt;
  left = rw (c.new-judged.ensures.items, c.into_iter-document-iterator.ensures.into_iter_gives) refl;
  asked = rw c.new-judged.ensures.items (each_begun (judged_document (setting_seen c.args.setting.now)) (documents_left c.args.documents) _);
  gave = gave_none _;
  same = refl;
}

pub returns-in-Err : goal.returns-in-Err
returns-in-Err g c = record {
  asked = each_paused (judged_document (setting_seen c.args.setting.now)) (documents_left c.args.documents) (length c.loop-document.judged.items) c.loop-document.invariant.asked;
  gave = c.loop-document.invariant.gave;
  cause = cause_memory c.loop-document.invariant.same;
}

pub returns-in-Err-Device : goal.returns-in-Err-Device
returns-in-Err-Device g c =
    let next = next_of (documents_left c.args.documents) (length c.loop-document.judged.items) (document_seen c.in-Some.document) (documents_left c.next.new.self)
    (c.loop-document.invariant.left ∙ c.in-Some.ensures.steps) in
    let cause = rw c.in-Err-Device.field-0-is at c.in-Err-Device.ensures.cause in
    record {
      asked = each_stopped (judged_document (setting_seen c.args.setting.now)) (documents_left c.args.documents) (length c.loop-document.judged.items) (document_seen c.in-Some.document)
          c.loop-document.invariant.asked next.within next.is (rw c.in-Err-Device.field-0-is at c.in-Err-Device.ensures.asked);
      gave = gave_then c.loop-document.invariant.gave c.in-Err-Device.ensures.gave;
      cause = cause_then c.loop-document.invariant.same (cause_device cause.later (cause.rose refl));
    }

pub returns-in-Err-Memory : goal.returns-in-Err-Memory
returns-in-Err-Memory g c =
    let next = next_of (documents_left c.args.documents) (length c.loop-document.judged.items) (document_seen c.in-Some.document) (documents_left c.next.new.self)
    (c.loop-document.invariant.left ∙ c.in-Some.ensures.steps) in
    let cause = rw c.in-Err-Memory.field-0-is at c.in-Err-Memory.ensures.cause in
    record {
      asked = each_cut (judged_document (setting_seen c.args.setting.now)) (documents_left c.args.documents) (length c.loop-document.judged.items) (document_seen c.in-Some.document)
          c.loop-document.invariant.asked next.within next.is (rw c.in-Err-Memory.field-0-is at c.in-Err-Memory.ensures.asked);
      gave = gave_then c.loop-document.invariant.gave c.in-Err-Memory.ensures.gave;
      cause = cause_memory (cause.out_of_memory refl ∙ c.loop-document.invariant.same);
    }

pub loop-document-preserved : goal.loop-document-preserved
loop-document-preserved g c =
    let next = next_of (documents_left c.args.documents) (length c.loop-document.judged.items) (document_seen c.in-Some.document) (documents_left c.next.new.self)
    (c.loop-document.invariant.left ∙ c.in-Some.ensures.steps) in
    let items : c.push_reserved.new.self.items ≡ c.loop-document.judged.items ++ c.in-Ok-judged_document.verdict ∷ [] = rw (c.push_reserved.ensures.items, c.reserve.ensures.items) refl in
    record {
      next = tt;
      finite = tt;
      left = rw (items, length-append c.loop-document.judged.items (c.in-Ok-judged_document.verdict ∷ []), add-one) next.left;
      asked = rw (items, length-append c.loop-document.judged.items (c.in-Ok-judged_document.verdict ∷ []))
          (each_more (judged_document (setting_seen c.args.setting.now)) (documents_left c.args.documents) (length c.loop-document.judged.items) (document_seen c.in-Some.document) c.in-Ok-judged_document.verdict
          c.loop-document.invariant.asked next.within next.is c.in-Ok-judged_document.ensures.asked);
      gave = gave_then c.loop-document.invariant.gave c.in-Ok-judged_document.ensures.gave;
      same = c.in-Ok-judged_document.ensures.cause.done ∙ c.loop-document.invariant.same;
    }

pub returns : goal.returns
returns g c =
    let all = all_taken (documents_left c.args.documents) (length c.loop-document.judged.items) (c.loop-document.invariant.left ∙ c.in-None.ensures.steps.0) in
    record {
      asked = rw c.from_vec.ensures
          (subst (λ (docs : List Document). Follows (each (judged_document (setting_seen c.args.setting.now)) docs) (talk c.args.device.now) (talk c.loop-document.device) (Some (Ok c.loop-document.judged.items)))
          all c.loop-document.invariant.asked);
      gave = c.loop-document.invariant.gave;
      cause = cause_ok _ c.loop-document.invariant.same;
    }
