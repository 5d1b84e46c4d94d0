-- The core, written entry by entry.
use Rattle.std.proofs.Common.{◌≡◌, ℕ, ◌+◌, ◌==◌, if◌then◌else◌, List, [], ◌∷◌, ◌++◌, length, map, refl, sym, ap, arith, ◌∙◌, append_assoc, length-append}
use Rattle.std.specs.Prelude.{flat_map, codes}
use Rattle.std.proofs.lemmas.List.{append-nil, length-map}
use Rattle.std.proofs.lemmas.List.Concat.{flat_map-append}
use Rattle.cbor_view.specs.Shortest.{array_bytes, shortest_head, text_bytes, map_bytes}
use Rattle.doc_response.specs.Answered.{Answered, errors_map, items_map}
use Rattle.doc_response.specs.Namespaces.{entry_bytes}
use Rattle.mdoc_draft.specs.Core.{optional, document_bytes, core_bytes}
use Rattle.mdoc_draft.specs.Entry.{given_entries, given_of, refused_of, documents_entry, document_errors_entry}

-- a head, two entries and a third, piece by piece
two_entries : (old head k1 v1 k2 v2 b1 b2 b3 b4 now : List ℕ) →
    b1 ≡ old ++ head → b2 ≡ b1 ++ k1 → b3 ≡ b2 ++ v1 → b4 ≡ b3 ++ k2 → now ≡ b4 ++ v2 →
    now ≡ old ++ (head ++ ((k1 ++ v1) ++ ((k2 ++ v2) ++ [])))
two_entries old head k1 v1 k2 v2 b1 b2 b3 b4 now b1_is b2_is b3_is b4_is now_is =
    let joined : ((((old ++ head) ++ k1) ++ v1) ++ k2) ++ v2 ≡ old ++ (head ++ ((k1 ++ v1) ++ ((k2 ++ v2) ++ []))) = simp (append_assoc, append-nil) in
    now_is
    ∙ ap (λ (b : List ℕ). b ++ v2) (b4_is
    ∙ ap (λ (b : List ℕ). b ++ k2) (b3_is ∙ ap (λ (b : List ℕ). b ++ v1) (b2_is ∙ ap (λ (b : List ℕ). b ++ k1) b1_is)))
    ∙ joined

third_entry : (old head e1 e2 key value b0 b1 now : List ℕ) →
    b0 ≡ old ++ (head ++ (e1 ++ (e2 ++ []))) → b1 ≡ b0 ++ key → now ≡ b1 ++ value →
    now ≡ old ++ (head ++ (e1 ++ (e2 ++ ((key ++ value) ++ []))))
third_entry old head e1 e2 key value b0 b1 now b0_is b1_is now_is =
    let joined : ((old ++ (head ++ (e1 ++ (e2 ++ [])))) ++ key) ++ value ≡ old ++ (head ++ (e1 ++ (e2 ++ ((key ++ value) ++ [])))) = simp (append_assoc, append-nil) in
    now_is ∙ ap (λ (b : List ℕ). b ++ value) (b1_is ∙ ap (λ (b : List ℕ). b ++ key) b0_is) ∙ joined

-- the two entries that a document always has
pub given_written : (old b1 b2 b3 b4 now : List ℕ) (entries : ℕ) (document : Answered) →
    b1 ≡ old ++ shortest_head 5 entries → b2 ≡ b1 ++ text_bytes (codes "docType") → b3 ≡ b2 ++ text_bytes document.doc_type →
    b4 ≡ b3 ++ text_bytes (codes "nameSpaces") → now ≡ b4 ++ items_map document.items →
    now ≡ old ++ (shortest_head 5 entries ++ flat_map entry_bytes (given_entries document))
given_written old b1 b2 b3 b4 now entries document b1_is b2_is b3_is b4_is now_is =
    two_entries old (shortest_head 5 entries) (text_bytes (codes "docType")) (text_bytes document.doc_type)
    (text_bytes (codes "nameSpaces")) (items_map document.items)
    b1 b2 b3 b4 now b1_is b2_is b3_is b4_is now_is

-- a document with no missing element, and one with some
pub without_errors : (old now doc_type : List ℕ) (items missing : List (List ℕ × List ℕ)) → length missing ≡ 0 →
    let document : Answered = record { doc_type = doc_type; items = items; missing = missing } in
    now ≡ old ++ (shortest_head 5 2 ++ flat_map entry_bytes (given_entries document)) → now ≡ old ++ document_bytes document
unfolding document_bytes
without_errors old now doc_type items [] none now_is = now_is
without_errors old now doc_type items (one ∷ more) none now_is = cc

pub with_errors : (old b0 b1 now doc_type : List ℕ) (items missing : List (List ℕ × List ℕ)) → (length missing ≡ 0 → ⊥) →
    let document : Answered = record { doc_type = doc_type; items = items; missing = missing } in
    b0 ≡ old ++ (shortest_head 5 3 ++ flat_map entry_bytes (given_entries document)) → b1 ≡ b0 ++ text_bytes (codes "errors") →
    now ≡ b1 ++ errors_map missing → now ≡ old ++ document_bytes document
unfolding document_bytes
with_errors old b0 b1 now doc_type items [] some b0_is b1_is now_is = absurd (some refl)
with_errors old b0 b1 now doc_type items (one ∷ more) some b0_is b1_is now_is =
    third_entry old (shortest_head 5 3) (text_bytes (codes "docType") ++ text_bytes doc_type)
    (text_bytes (codes "nameSpaces") ++ items_map items) (text_bytes (codes "errors"))
    (errors_map (one ∷ more)) b0 b1 now b0_is b1_is now_is

-- how many entries that are
optional_length : {A : Type 0} (key value : List ℕ) (xs : List A) → length (optional key xs value) ≡ (if length xs == 0 then 0 else 1)
optional_length key value [] = refl
optional_length key value (x ∷ xs) = grind arith

two_parts : (head b1 now : List ℕ) (count : ℕ) (first second : List (List ℕ × List ℕ)) →
    head ≡ shortest_head 5 count → count ≡ length first + length second → b1 ≡ head ++ flat_map entry_bytes first →
    now ≡ b1 ++ flat_map entry_bytes second → now ≡ map_bytes (first ++ second)
two_parts head b1 now count first second head_is count_is b1_is now_is =
    let joined : (shortest_head 5 (length (first ++ second)) ++ flat_map entry_bytes first) ++ flat_map entry_bytes second ≡ map_bytes (first ++ second) =
    append_assoc (shortest_head 5 (length (first ++ second))) _ _
    ∙ ap (λ (b : List ℕ). shortest_head 5 (length (first ++ second)) ++ b) (sym (flat_map-append entry_bytes first second)) in
    now_is
    ∙ ap (λ (b : List ℕ). b ++ flat_map entry_bytes second) (b1_is
    ∙ ap (λ (b : List ℕ). b ++ flat_map entry_bytes first) (head_is ∙ ap (shortest_head 5) (count_is ∙ sym (length-append first second))))
    ∙ joined

pub core_written : (head b1 now : List ℕ) (given refused given_entry refused_entry : ℕ) (documents : List Answered) →
    given ≡ length (given_of documents) → refused ≡ length (refused_of documents) →
    given_entry ≡ (if given == 0 then 0 else 1) → refused_entry ≡ (if refused == 0 then 0 else 1) →
    head ≡ shortest_head 5 (given_entry + refused_entry) →
    b1 ≡ head ++ flat_map entry_bytes (documents_entry documents) → now ≡ b1 ++ flat_map entry_bytes (document_errors_entry documents) →
    now ≡ core_bytes documents
unfolding core_bytes
core_written head b1 now given refused given_entry refused_entry documents given_is refused_is given_entry_is refused_entry_is head_is b1_is now_is =
    let first : given_entry ≡ length (documents_entry documents) =
    given_entry_is ∙ ap (λ (n : ℕ). if n == 0 then 0 else 1) given_is ∙ sym (optional_length (codes "documents") _ (given_of documents)) in
    let second : refused_entry ≡ length (document_errors_entry documents) =
    refused_entry_is ∙ ap (λ (n : ℕ). if n == 0 then 0 else 1) refused_is ∙ sym (optional_length (codes "documentErrors") _ (refused_of documents)) in
    two_parts head b1 now _ (documents_entry documents) (document_errors_entry documents) head_is
    (ap (λ (n : ℕ). n + refused_entry) first ∙ ap (λ (n : ℕ). length (documents_entry documents) + n) second) b1_is now_is

one_entry : (old key head parts : List ℕ) → ((old ++ key) ++ head) ++ parts ≡ old ++ ((key ++ (head ++ parts)) ++ [])
one_entry old key head parts = simp (append_assoc, append-nil)

-- a key and its list, which has something in it
pub listed : {A : Type 0} (key old b1 b2 now : List ℕ) (count : ℕ) (bytes : A → List ℕ) (xs : List A) →
    b1 ≡ old ++ text_bytes key → b2 ≡ b1 ++ shortest_head 4 count → now ≡ b2 ++ flat_map (λ part. part) (map bytes xs) →
    count ≡ length xs → ¬ (count ≡ 0) → now ≡ old ++ flat_map entry_bytes (optional key xs (array_bytes (map bytes xs)))
listed key old b1 b2 now count bytes [] b1_is b2_is now_is count_is some = absurd (some count_is)
listed {A} key old b1 b2 now count bytes (x ∷ xs) b1_is b2_is now_is count_is some =
    now_is
    ∙ ap (λ (b : List ℕ). b ++ flat_map (λ part. part) (map bytes (x ∷ xs))) (b2_is ∙ ap (λ (b : List ℕ). b ++ shortest_head 4 count) b1_is)
    ∙ ap (λ (n : ℕ). ((old ++ text_bytes key) ++ shortest_head 4 n) ++ flat_map (λ part. part) (map bytes (x ∷ xs))) (count_is ∙ sym (length-map (x ∷ xs) bytes))
    ∙ one_entry old (text_bytes key) (shortest_head 4 (length (map bytes (x ∷ xs)))) (flat_map (λ part. part) (map bytes (x ∷ xs)))
