-- A response that is put together document by document.
use Rattle.std.proofs.Common.{◌≡◌, ◌<◌, ◌≤◌, ◌+◌, ℕ, zero, suc, List, [], ◌∷◌, ◌++◌, length, map, take, get_or, false, refl, sym, ap, subst, ◌∙◌, arith}
use Rattle.std.specs.List.{AllByRecursion, list_any}
use Rattle.std.proofs.lemmas.List.{length-append, map_more}
use Rattle.doc_response.specs.Answered.{Answered}
use Rattle.doc_response.specs.Draft.{Document, Draft, and_item, and_missing, has_missing, is_element, last_changed, with_last}
use Rattle.doc_response.specs.declared.device_auth.DeviceAuth.{DeviceAuth}
use Rattle.wallet_model.specs.Released.{ReleasedDocument}
use Rattle.wallet_answer.specs.Documents.{AreFresh, part_of_choice, with_part}

abbrev changed : (Answered → Answered) → Document → Document
changed change document = record { answered = change document.answered; issuer_auth = document.issuer_auth; auth = document.auth }

last-snoc : (change : Answered → Answered) (documents : List Document) (document : Document)
    → last_changed change (documents ++ document ∷ []) ≡ documents ++ changed change document ∷ []
last-snoc change [] document = refl
last-snoc change (d ∷ []) document = refl
last-snoc change (d ∷ (e ∷ ds)) document = ap (λ (list : List Document). d ∷ list) (last-snoc change (e ∷ ds) document)

missing-snoc : (ns name : List ℕ) (documents : List Document) (document : Document)
    → has_missing ns name (documents ++ document ∷ []) ≡ list_any (is_element ns name) document.answered.missing
missing-snoc ns name [] document = refl
missing-snoc ns name (d ∷ []) document = refl
missing-snoc ns name (d ∷ (e ∷ ds)) document = missing-snoc ns name (e ∷ ds) document

abbrev put : Draft → List Document → Draft
put draft documents = record { status = draft.status; documents = documents; nothing = draft.nothing }

-- An item more of the last document: the draft so far has those before it.
pub item_more : {X : Type 0} (seen : X → List ℕ × List ℕ) (xs : List X) (i : ℕ) (x : X) (choice : ReleasedDocument) (auth : DeviceAuth) (base now next : Draft)
    → now ≡ with_part (part_of_choice choice auth (map seen (take i xs)) []) base → i < length xs
    → next ≡ with_last (and_item (seen (get_or xs i x)).0 (seen (get_or xs i x)).1) now
    → next ≡ with_part (part_of_choice choice auth (map seen (take (i + 1) xs)) []) base
item_more seen xs i x choice auth base now next is within is_next =
    let one : List ℕ × List ℕ = seen (get_or xs i x) in
    is_next ∙ ap (with_last (and_item one.0 one.1)) is
    ∙ ap (put base) (last-snoc (and_item one.0 one.1) base.documents (part_of_choice choice auth (map seen (take i xs)) []))
    ∙ ap (λ (items : List (List ℕ × List ℕ)). with_part (part_of_choice choice auth items []) base) (sym (map_more seen xs i x within))

-- a missing element more
pub missing_more : {X : Type 0} (seen : X → List ℕ × List ℕ) (xs : List X) (i : ℕ) (x : X) (items : List (List ℕ × List ℕ)) (choice : ReleasedDocument) (auth : DeviceAuth) (base now next : Draft)
    → now ≡ with_part (part_of_choice choice auth items (map seen (take i xs))) base → i < length xs
    → next ≡ with_last (and_missing (seen (get_or xs i x)).0 (seen (get_or xs i x)).1) now
    → next ≡ with_part (part_of_choice choice auth items (map seen (take (i + 1) xs))) base
missing_more seen xs i x items choice auth base now next is within is_next =
    let one : List ℕ × List ℕ = seen (get_or xs i x) in
    is_next ∙ ap (with_last (and_missing one.0 one.1)) is
    ∙ ap (put base) (last-snoc (and_missing one.0 one.1) base.documents (part_of_choice choice auth items (map seen (take i xs))))
    ∙ ap (λ (missing : List (List ℕ × List ℕ)). with_part (part_of_choice choice auth items missing) base) (sym (map_more seen xs i x within))

-- there is a last document
pub has_last : (document : Document) (base now : Draft) → now ≡ with_part document base → 0 < length now.documents
has_last document base now is =
    subst (λ (n : ℕ). 0 < n) (sym (ap (λ (draft : Draft). length draft.documents) is ∙ length-append base.documents (document ∷ []))) (omega arith)

-- what holds of each of a list, seen so, holds of the one at a place
pub at_place : {X Y : Type 0} (P : Y → Type 0) (seen : X → Y) (xs : List X) (i : ℕ) (x : X)
    → AllByRecursion P (map seen xs) → i < length xs → P (seen (get_or xs i x))
at_place P seen [] i x all within = absurd (omega arith)
at_place P seen (y ∷ xs) zero x all within = all.0
at_place P seen (y ∷ xs) (suc i) x all within = at_place P seen xs i x all.1 (omega arith)

-- all of a list
pub whole : {X : Type 0} (xs : List X) (i : ℕ) → length xs ≤ i → take i xs ≡ xs
whole [] zero within = refl
whole [] (suc i) within = refl
whole (x ∷ xs) zero within = absurd (omega arith)
whole {X} (x ∷ xs) (suc i) within = ap (λ (list : List X). x ∷ list) (whole xs i (omega arith))

taken : {X : Type 0} (seen : X → List ℕ × List ℕ) (xs : List X) (i : ℕ) → take i (map seen xs) ≡ map seen (take i xs)
taken seen [] zero = refl
taken seen [] (suc i) = refl
taken seen (x ∷ xs) zero = refl
taken seen (x ∷ xs) (suc i) = ap (λ (list : List (List ℕ × List ℕ)). seen x ∷ list) (taken seen xs i)

got : {X : Type 0} (seen : X → List ℕ × List ℕ) (xs : List X) (i : ℕ) (x : X) → i < length xs → get_or (map seen xs) i (seen x) ≡ seen (get_or xs i x)
got seen [] i x within = absurd (omega arith)
got seen (y ∷ xs) zero x within = refl
got seen (y ∷ xs) (suc i) x within = got seen xs i x (omega arith)

counted : {X : Type 0} (seen : X → List ℕ × List ℕ) (xs : List X) → length (map seen xs) ≡ length xs
counted seen [] = refl
counted seen (x ∷ xs) = ap suc (counted seen xs)

-- the document doesn't lack the element at a place before it
pub is_fresh : {X : Type 0} (seen : X → List ℕ × List ℕ) (xs : List X) (i : ℕ) (x : X) (items : List (List ℕ × List ℕ)) (choice : ReleasedDocument) (auth : DeviceAuth) (base now : Draft)
    → AreFresh (map seen xs) → i < length xs
    → now ≡ with_part (part_of_choice choice auth items (map seen (take i xs))) base
    → has_missing (seen (get_or xs i x)).0 (seen (get_or xs i x)).1 now.documents ≡ false
is_fresh seen xs i x items choice auth base now fresh within is =
    let one : List ℕ × List ℕ = seen (get_or xs i x) in
    ap (λ (draft : Draft). has_missing one.0 one.1 draft.documents) is
    ∙ missing-snoc one.0 one.1 base.documents (part_of_choice choice auth items (map seen (take i xs)))
    ∙ ap (λ (list : List (List ℕ × List ℕ)). list_any (is_element one.0 one.1) list) (sym (taken seen xs i))
    ∙ ap (λ (e : List ℕ × List ℕ). list_any (is_element e.0 e.1) (take i (map seen xs))) (sym (got seen xs i x within))
    ∙ fresh i (seen x) (subst (λ (n : ℕ). i < n) (sym (counted seen xs)) within)
