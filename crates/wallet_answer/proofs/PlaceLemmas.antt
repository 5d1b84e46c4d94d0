-- The place of the first document of a type.
use Rattle.std.proofs.Common.{◌≡◌, ℕ, ◌+◌, ◌<◌, List, length, get_or, Bool, true, false, cond, Option, Some, None, sym, ap, ◌∙◌, arith}
use Rattle.std.specs.Prelude.{nat_lt, slice_get, unwrap_or}
use Rattle.std.specs.List.{position_or_len}
use Rattle.std.specs.Str.{bytes_eq}
use Rattle.std.proofs.lemmas.Bool.Decides.{nat_tests}
use Rattle.std.proofs.lemmas.List.Sums.{position_or_len_is}
use Rattle.std.proofs.lemmas.Option.{slice_get-get_or, slice_get_within}
use Rattle.doc_store.specs.Document.{no_document}
use Rattle.doc_store.specs.Held.{document_place, is_of_type}
use Rattle.doc_store.specs.Store.{Document, Store}
use borrow.Author.Count.{below_more}

-- none of the documents before a place is of the type
abbrev pub NoneBefore : Store → List ℕ → ℕ → Type 0
NoneBefore documents doc_type place = (k : ℕ) → k < place → is_of_type doc_type (get_or documents k no_document) ≡ false

some_same : {A : Type 0} (one other : A) → Some one ≡ Some other → one ≡ other
some_same one other is = ap (λ (found : Option _). unwrap_or found one) is

at_place : (documents : Store) (place : ℕ) (d : Document) → slice_get documents place ≡ Some d → get_or documents place no_document ≡ d
at_place documents place d is =
    some_same _ d (sym (slice_get-get_or documents place no_document (slice_get_within documents place d is)) ∙ is)

pub one_more : (documents : Store) (doc_type : List ℕ) (place : ℕ) (d : Document) → slice_get documents place ≡ Some d → bytes_eq d.doc_type doc_type ≡ false
    → NoneBefore documents doc_type place → NoneBefore documents doc_type (place + 1)
one_more documents doc_type place d is differs before =
    below_more (λ (k : ℕ). is_of_type doc_type (get_or documents k no_document) ≡ false) place before (ap (is_of_type doc_type) (at_place documents place d is) ∙ differs)

pub place_found : (documents : Store) (doc_type : List ℕ) (place : ℕ) (d : Document) → slice_get documents place ≡ Some d → bytes_eq d.doc_type doc_type ≡ true
    → NoneBefore documents doc_type place → Some place ≡ document_place documents doc_type
place_found documents doc_type place d is same before =
    let within : place < length documents = slice_get_within documents place d is in
    let first : position_or_len (is_of_type doc_type) documents ≡ place =
    position_or_len_is (is_of_type doc_type) documents place no_document (omega arith) before (λ in_range. ap (is_of_type doc_type) (at_place documents place d is) ∙ same) in
    let test : nat_lt place (length documents) ≡ true = grind (arith, nat_tests) in
    sym (ap (λ (n : ℕ). cond (nat_lt n (length documents)) (Some n) None) first ∙ ap (λ (b : Bool). cond b (Some place) None) test)

pub place_missing : (documents : Store) (doc_type : List ℕ) → NoneBefore documents doc_type (length documents) → None ≡ document_place documents doc_type
place_missing documents doc_type before =
    let first : position_or_len (is_of_type doc_type) documents ≡ length documents =
    position_or_len_is (is_of_type doc_type) documents (length documents) no_document (omega arith) before (λ wrong. absurd (omega arith)) in
    let test : nat_lt (length documents) (length documents) ≡ false = grind (arith, nat_tests) in
    sym (ap (λ (n : ℕ). cond (nat_lt n (length documents)) (Some n) None) first ∙ ap (λ (b : Bool). cond b (Some (length documents)) None) test)
