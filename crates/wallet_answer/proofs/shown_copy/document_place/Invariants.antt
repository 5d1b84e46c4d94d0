use Rattle.doc_store.specs.StoreView.{documents_in}
use Rattle.wallet_answer.proofs.PlaceLemmas.{NoneBefore}
use Rattle.wallet_answer.proofs.shown_copy.document_place.Given as goal

-- none of the documents before is of the type
abbrev pub invariant-loop-place : goal.invariant-loop-place
invariant-loop-place l = NoneBefore (documents_in l.store) l.doc_type l.place
