-- Documents and types added one by one.
use Rattle.std.proofs.Common.{◌≡◌, ◌<◌, ◌+◌, ℕ, List, [], ◌∷◌, ◌++◌, length, map, take, get_or, refl, sym, ap, ◌∙◌, append_assoc, arith}
use Rattle.std.proofs.lemmas.List.{length-map, length-take-le, map_more, take_more}
use Rattle.doc_response.specs.Draft.{Document, Draft, with_nothing}
use Rattle.doc_response.specs.declared.device_auth.DeviceAuth.{DeviceAuth}
use Rattle.wallet_model.specs.Answer.{document_with}
use Rattle.wallet_model.specs.Released.{ReleasedDocument}
use Rattle.wallet_answer.specs.Documents.{documents_with, with_documents, with_part, with_types}

documents-snoc : (choices : List ReleasedDocument) (auths : List DeviceAuth) (choice : ReleasedDocument) (auth : DeviceAuth) → length auths ≡ length choices
    → documents_with (choices ++ choice ∷ []) (auths ++ auth ∷ []) ≡ documents_with choices auths ++ document_with choice auth ∷ []
documents-snoc [] [] choice auth same = refl
documents-snoc [] (a ∷ auths) choice auth same = absurd (omega arith)
documents-snoc (c ∷ choices) [] choice auth same = absurd (omega arith)
documents-snoc (c ∷ choices) (a ∷ auths) choice auth same =
    ap (λ (list : List Document). document_with c a ∷ list) (documents-snoc choices auths choice auth (omega arith))

joined : {X : Type 0} (a b c : List X) → (a ++ b) ++ c ≡ a ++ (b ++ c)
joined a b c = simp append_assoc

-- one document more
pub more_documents : {X : Type 0} (seen : X → ReleasedDocument) (xs : List X) (auths : List DeviceAuth) (i : ℕ) (x : X) (a : DeviceAuth) (base now next : Draft)
    → now ≡ with_documents (documents_with (map seen (take i xs)) (take i auths)) base → i < length xs → length auths ≡ length xs
    → x ≡ get_or xs i x → next ≡ with_part (document_with (seen x) (get_or auths i a)) now
    → next ≡ with_documents (documents_with (map seen (take (i + 1) xs)) (take (i + 1) auths)) base
more_documents {X} seen xs auths i x a base now next is within same at is_next =
    let taken : List ReleasedDocument = map seen (take i xs) in
    let auth : DeviceAuth = get_or auths i a in
    let counted : length (take i auths) ≡ length taken =
    length-take-le i auths (omega arith) ∙ sym (length-map (take i xs) seen ∙ length-take-le i xs (omega arith)) in
    is_next ∙ ap (with_part (document_with (seen x) auth)) is
    ∙ ap (λ (list : List Document). record { status = base.status; documents = list; nothing = base.nothing })
    (joined base.documents (documents_with taken (take i auths)) (document_with (seen x) auth ∷ [])
    ∙ ap (λ (list : List Document). base.documents ++ list) (sym (documents-snoc taken (take i auths) (seen x) auth counted)))
    ∙ ap (λ (y : X). with_documents (documents_with (taken ++ seen y ∷ []) (take i auths ++ auth ∷ [])) base) at
    ∙ ap (λ (list : List ReleasedDocument). with_documents (documents_with list (take i auths ++ auth ∷ [])) base) (sym (map_more seen xs i x within))
    ∙ ap (λ (list : List DeviceAuth). with_documents (documents_with (map seen (take (i + 1) xs)) list) base) (sym (take_more auths i a (omega arith)))

-- one type more
pub more_types : {X : Type 0} (seen : X → List ℕ) (xs : List X) (i : ℕ) (x : X) (base now next : Draft)
    → now ≡ with_types (map seen (take i xs)) base → i < length xs → next ≡ with_nothing (seen (get_or xs i x)) now
    → next ≡ with_types (map seen (take (i + 1) xs)) base
more_types seen xs i x base now next is within is_next =
    is_next ∙ ap (with_nothing (seen (get_or xs i x))) is
    ∙ ap (λ (list : List (List ℕ)). record { status = base.status; documents = base.documents; nothing = list })
    (joined base.nothing (map seen (take i xs)) (seen (get_or xs i x) ∷ []) ∙ ap (λ (list : List (List ℕ)). base.nothing ++ list) (sym (map_more seen xs i x within)))
