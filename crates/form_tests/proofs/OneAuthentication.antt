-- One document and one authentication.
use Rattle.std.proofs.Common.{◌≡◌, ℕ, List, [], ◌∷◌, length, sym, inr}
use Rattle.doc_request.specs.declared.doc_draft.DocDraft.{DocDraft}
use Rattle.doc_request.specs.Written.{AreAuthentications, IsAuthentication}

pub one_authentication : (documents : List DocDraft) (auth : List ℕ) → length documents ≡ 1 → IsAuthentication auth → AreAuthentications documents (auth ∷ [])
one_authentication documents auth one is = record { number = inr (sym one); each = (is, tt) }
