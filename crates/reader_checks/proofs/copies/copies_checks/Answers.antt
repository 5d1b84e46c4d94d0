use Rattle.std.proofs.Common.{◌∙◌, length, refl, arith}
use Rattle.doc_store.specs.Document.{document_of}
use Rattle.doc_store.specs.StoredCopy.{copy_of}
use Rattle.key_device.proofs.GaveLemmas.{gave_none, gave_then}
use Rattle.key_device.proofs.PlanStepLemmas.{each_begun}
use Rattle.verdict_model.specs.Checked.{copy_checks}
use Rattle.reader_checks.proofs.CopyLemmas.{copies_done, copies_ended, copies_more}
use Rattle.reader_checks.proofs.copies.copies_checks.Goals as goal

pub loop-place-init : goal.loop-place-init
loop-place-init g c = record {
  asked = each_begun (copy_checks c.args.trust.now.roots.now c.args.trust.now.moment (document_of c.args.document.now).doc_type) (document_of c.args.document.now).copies _;
  gave = gave_none _;
  same = refl;
}

pub loop-place-preserved : goal.loop-place-preserved
loop-place-preserved g c = record {
  asked = copies_more (copy_checks c.args.trust.now.roots.now c.args.trust.now.moment (document_of c.args.document.now).doc_type) (document_of c.args.document.now).copies c.loop-place.place (copy_of c.copy.result)
      c.loop-place.invariant.asked c.copy.ensures.exact (rw c.doc_type-doc_type.ensures.exact at c.in-Ok.ensures.asked);
  gave = gave_then c.loop-place.invariant.gave c.in-Ok.ensures.gave;
  same = c.in-Ok.ensures.counts ∙ c.loop-place.invariant.same;
}

pub returns-in-Err-clause-asked : goal.returns-in-Err-clause-asked
returns-in-Err-clause-asked g c =
    copies_ended (copy_checks c.args.trust.now.roots.now c.args.trust.now.moment (document_of c.args.document.now).doc_type) (document_of c.args.document.now).copies c.loop-place.place
    (length (document_of c.args.document.now).copies) (copy_of c.copy.result) c.in-Err.failure
    c.loop-place.invariant.asked c.copy.ensures.exact (rw c.doc_type-doc_type.ensures.exact at c.in-Err.ensures.asked)

pub returns-clause-asked : goal.returns-clause-asked
returns-clause-asked g c =
    copies_done (copy_checks c.args.trust.now.roots.now c.args.trust.now.moment (document_of c.args.document.now).doc_type) (document_of c.args.document.now).copies c.loop-place.place
    c.loop-place.invariant.asked (omega (arith, c.copies-place-end.ensures))

pub returns-in-Err-clause-gave : goal.returns-in-Err-clause-gave
returns-in-Err-clause-gave g c = gave_then c.loop-place.invariant.gave c.in-Err.ensures.gave
