-- The last document is changed in its place.
use Rattle.std.proofs.Common.{◌≡◌, false, ℕ, zero, suc, ◌+◌, List, [], ◌∷◌, length, map, get_or, set, Result, Ok, Err, OnOk, refl, ap, ◌∙◌, arith}
use Rattle.std.specs.List.{list_any}
use Rattle.doc_response.specs.declared.draft_document.DraftDocument.{DraftDocument}
use Rattle.doc_response.specs.Answered.{Answered}
use Rattle.doc_response.specs.Draft.{Document, has_missing, is_element, last_changed}
use Rattle.doc_response.specs.DraftView.{document_seen}

abbrev changed : DraftDocument → Answered → DraftDocument
changed old now = record { answered = now; issuer_auth = old.issuer_auth; auth = old.auth }

abbrev again : DraftDocument → Answered → Document
again old now = record { answered = now; issuer_auth = old.issuer_auth.now; auth = old.auth }

pub last-set : (documents : List DraftDocument) (i : ℕ) (change : Answered → Answered) (old : DraftDocument) (now : Answered) →
    length documents ≡ i + 1 → old ≡ get_or documents i old → now ≡ change old.answered →
    map document_seen (set documents i (changed old now)) ≡ last_changed change (map document_seen documents)
last-set [] i change old now len is now_is = absurd (omega arith)
last-set (d ∷ []) zero change old now len is now_is =
    let f : DraftDocument → List Document = λ x. (again x (change x.answered)) ∷ [] in
    ap (λ (a : Answered). (again old a) ∷ []) now_is ∙ ap f is
last-set (d ∷ []) (suc i) change old now len is now_is = absurd (omega arith)
last-set (d ∷ (e ∷ ds)) zero change old now len is now_is = absurd (omega arith)
last-set (d ∷ (e ∷ ds)) (suc i) change old now len is now_is =
    ap (λ (x : List Document). document_seen d ∷ x) (last-set (e ∷ ds) i change old now (omega arith) is now_is)

-- what follows from a value
pub on-ok : {A E P Q : Type 0} (r : Result A E) → (P → Q) → OnOk r P → OnOk r Q
on-ok (Ok x) f p = f p
on-ok (Err e) f p = p

-- what the last document lacks
pub has_last : (documents : List DraftDocument) (i : ℕ) (ns name : List ℕ) (d : DraftDocument) → length documents ≡ i + 1 →
    has_missing ns name (map document_seen documents) ≡ list_any (is_element ns name) (get_or documents i d).answered.missing
has_last [] i ns name d len = absurd (omega arith)
has_last (x ∷ []) zero ns name d len = refl
has_last (x ∷ []) (suc i) ns name d len = absurd (omega arith)
has_last (x ∷ (y ∷ documents)) zero ns name d len = absurd (omega arith)
has_last (x ∷ (y ∷ documents)) (suc i) ns name d len = has_last (y ∷ documents) i ns name d (omega arith)

pub has_none : (documents : List DraftDocument) (ns name : List ℕ) → length documents ≡ 0 → has_missing ns name (map document_seen documents) ≡ false
has_none [] ns name len = refl
has_none (x ∷ documents) ns name len = absurd (omega arith)
