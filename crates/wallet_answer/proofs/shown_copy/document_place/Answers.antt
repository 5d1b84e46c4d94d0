use Rattle.std.proofs.Common.{sym, ap, ◌∙◌, List, ℕ}
use Rattle.std.specs.Str.{bytes_eq}
use Rattle.doc_store.specs.Document.{document_of}
use Rattle.doc_store.specs.StoreView.{documents_in}
use Rattle.wallet_answer.proofs.PlaceLemmas.{one_more}
use Rattle.wallet_answer.proofs.shown_copy.document_place.Goals as goal

pub loop-place-preserved : goal.loop-place-preserved
loop-place-preserved c =
    one_more (documents_in c.args.store.now) c.args.doc_type.now c.loop-place.place (document_of c.document.result) c.document.ensures.exact
    (ap (λ (text : List ℕ). bytes_eq text c.args.doc_type.now) (sym c.doc_type.ensures.exact) ∙ sym c.eq.ensures ∙ c.if-eq.false)
    c.loop-place.invariant
