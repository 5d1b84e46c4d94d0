use Rattle.std.proofs.Common.{◌∙◌, refl, arith}
use Rattle.doc_store.specs.Document.{document_of}
use Rattle.doc_store.specs.StoreView.{documents_in}
use Rattle.key_device.proofs.GaveLemmas.{gave_none, gave_then}
use Rattle.key_device.proofs.PlanStepLemmas.{each_begun, each_cut, each_more, each_paused, each_stopped}
use Rattle.verdict_model.specs.Checked.{checked, checked_document}
use Rattle.reader_checks.proofs.CopyLemmas.{each_done, one_at, place_of}
use Rattle.reader_checks.proofs.package_documents.checked_documents.Goals as goal

pub loop-place-init : goal.loop-place-init
loop-place-init g c = record {
  asked = rw c.new-checked.ensures.items (each_begun (checked_document c.args.trust.now.roots.now c.args.trust.now.moment) (documents_in c.args.store.now) _);
  gave = gave_none _;
  same = refl;
}

pub loop-place-preserved : goal.loop-place-preserved
loop-place-preserved g c = record {
  asked = rw (c.push_reserved.ensures.items, c.reserve.ensures.items)
      (each_more (checked_document c.args.trust.now.roots.now c.args.trust.now.moment) (documents_in c.args.store.now) c.loop-place.place (document_of c.document.result) c.in-Ok-checked_document.verdict
      c.loop-place.invariant.asked (place_of (documents_in c.args.store.now) c.loop-place.place (document_of c.document.result) c.document.ensures.exact) (one_at (documents_in c.args.store.now) c.loop-place.place (document_of c.document.result) c.document.ensures.exact) c.in-Ok-checked_document.ensures.asked);
  gave = gave_then c.loop-place.invariant.gave c.in-Ok-checked_document.ensures.gave;
  same = c.in-Ok-checked_document.ensures.cause.done ∙ c.loop-place.invariant.same;
}

pub returns-in-Err-clause-asked : goal.returns-in-Err-clause-asked
unfolding checked
returns-in-Err-clause-asked g c = each_paused (checked_document c.args.trust.now.roots.now c.args.trust.now.moment) (documents_in c.args.store.now) c.loop-place.place c.loop-place.invariant.asked

pub returns-in-Err-Failed-clause-asked : goal.returns-in-Err-Failed-clause-asked
unfolding checked
returns-in-Err-Failed-clause-asked g c =
    each_stopped (checked_document c.args.trust.now.roots.now c.args.trust.now.moment) (documents_in c.args.store.now) c.loop-place.place (document_of c.document.result)
    c.loop-place.invariant.asked (place_of (documents_in c.args.store.now) c.loop-place.place (document_of c.document.result) c.document.ensures.exact) (one_at (documents_in c.args.store.now) c.loop-place.place (document_of c.document.result) c.document.ensures.exact)
    (rw c.in-Err-Failed.field-0-is at c.in-Err-Failed.ensures.asked)

pub returns-in-Err-Memory-clause-asked : goal.returns-in-Err-Memory-clause-asked
unfolding checked
returns-in-Err-Memory-clause-asked g c =
    each_cut (checked_document c.args.trust.now.roots.now c.args.trust.now.moment) (documents_in c.args.store.now) c.loop-place.place (document_of c.document.result)
    c.loop-place.invariant.asked (place_of (documents_in c.args.store.now) c.loop-place.place (document_of c.document.result) c.document.ensures.exact) (one_at (documents_in c.args.store.now) c.loop-place.place (document_of c.document.result) c.document.ensures.exact)
    (rw c.in-Err-Memory.field-0-is at c.in-Err-Memory.ensures.asked)

pub returns-clause-asked : goal.returns-clause-asked
unfolding checked
returns-clause-asked g c =
    rw c.from_vec.ensures
    (each_done (checked_document c.args.trust.now.roots.now c.args.trust.now.moment) (documents_in c.args.store.now) c.loop-place.place c.loop-place.invariant.asked (omega (arith, c.documents-place-end.ensures)))
