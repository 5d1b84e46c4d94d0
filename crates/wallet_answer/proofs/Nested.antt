-- How deep what is chosen of a store is nested.
use Rattle.std.proofs.Common.{◌≡◌, ℕ, zero, suc, List, [], ◌∷◌, Option, Some, None, true, sym, subst, arith}
use Rattle.std.specs.Prelude.{IfSome, slice_get}
use Rattle.std.specs.List.{AllByRecursion, cons_option}
use Rattle.mdoc_outside.specs.OptionSteps.{◌>>=◌}
use Rattle.doc_request.specs.Asked.{Document}
use Rattle.doc_request.specs.Draft.{are_distinct}
use Rattle.doc_store.specs.Held.{document_place}
use Rattle.doc_store.specs.Store as stores
use Rattle.doc_store.specs.Store.{Copy}
use Rattle.store_write.specs.Nested.{IsNested, IsNestedCopy, IsNestedDocument}
use Rattle.wallet_model.specs.Released.{ReleasedDocument, ReleasedItem, ShownCopy, choice, choice_of, choice_with, choices, refused, released, selections, shown_copy, wishes_of}
use Rattle.wallet_model.specs.Setup.{Setup}
use Rattle.wallet_answer.specs.Documents.{IsSound}
use Rattle.wallet_answer.proofs.Sound.{IsAnswered, all_answered}

-- the issuer's signature of a document is no deeper than in the file of a store
abbrev IsNestedChoice : ReleasedDocument → Type 0
IsNestedChoice choice = IsNested 27 choice.issuer_auth

abbrev IsNestedShown : ShownCopy → Type 0
IsNestedShown shown = IsNestedCopy shown.copy

at_place : {A : Type 0} (P : A → Type 0) (xs : List A) (n : ℕ) → AllByRecursion P xs → IfSome (slice_get xs n) P
at_place P [] n all = tt
at_place P (x ∷ xs) zero all = all.0
at_place P (x ∷ xs) (suc n) all = at_place P xs n all.1

module _ (W : Setup) (nested : AllByRecursion IsNestedDocument W.store) where
  copy_nested : (n : ℕ) (document : stores.Document) (place : ℕ) → IsNestedDocument document
      → IfSome (slice_get document.copies place >>= λ copy. Some (record { document = n; uses_mac = document.uses_mac; copy = copy })) IsNestedShown
  copy_nested n document place each = by (slice_get document.copies place) (at_place IsNestedCopy document.copies place each)
    where
      by : (found : Option Copy) → IfSome found IsNestedCopy → IfSome (found >>= λ copy. Some (record { document = n; uses_mac = document.uses_mac; copy = copy })) IsNestedShown
      by None one = tt
      by (Some copy) one = one

  shown_nested : (doc_type : List ℕ) → IfSome (shown_copy W doc_type) IsNestedShown
  shown_nested doc_type = by (document_place W.store doc_type)
    where
      placed : (n : ℕ) (document : stores.Document) (place : Option ℕ) → IsNestedDocument document
          → IfSome (place >>= λ p. slice_get document.copies p >>= λ copy. Some (record { document = n; uses_mac = document.uses_mac; copy = copy })) IsNestedShown
      placed n document None each = tt
      placed n document (Some p) each = copy_nested n document p each

      found : (n : ℕ) (at : Option stores.Document) → IfSome at IsNestedDocument
          → IfSome (at >>= λ document. slice_get W.choice n >>= λ p. slice_get document.copies p >>= λ copy. Some (record { document = n; uses_mac = document.uses_mac; copy = copy })) IsNestedShown
      found n None each = tt
      found n (Some document) each = placed n document (slice_get W.choice n) each

      by : (at : Option ℕ) → IfSome (at >>= λ n. slice_get W.store n >>= λ document. slice_get W.choice n >>= λ p. slice_get document.copies p >>= λ copy. Some (record { document = n; uses_mac = document.uses_mac; copy = copy })) IsNestedShown
      by None = tt
      by (Some n) = found n (slice_get W.store n) (at_place IsNestedDocument W.store n nested)

  with_nested : (doc_type : List ℕ) (shown : ShownCopy) (missing : List (List ℕ × List ℕ)) (list : List ReleasedItem)
      → IsNestedShown shown → IfSome (choice_with doc_type shown missing list) IsNestedChoice
  with_nested doc_type shown missing [] each = tt
  with_nested doc_type shown missing (one ∷ list) each = each.issuer_auth

  choice_nested : (reader : Option (List ℕ)) (asked : Document) → IfSome (choice W reader asked) IsNestedChoice
  choice_nested reader asked = by (shown_copy W asked.doc_type) (shown_nested asked.doc_type)
    where
      by : (found : Option ShownCopy) → IfSome found IsNestedShown → IfSome (found >>= choice_of W.rules reader asked) IsNestedChoice
      by None each = tt
      by (Some shown) each =
          with_nested asked.doc_type shown (refused W.rules reader shown.copy (wishes_of asked)) (released W.rules reader shown.copy (wishes_of asked)) each

  all_nested : (documents : List Document) (readers : List (Option (List ℕ))) → AllByRecursion IsNestedChoice (choices (selections W documents readers))
  all_nested [] readers = tt
  all_nested (asked ∷ others) [] = tt
  all_nested (asked ∷ others) (reader ∷ readers) = by (choice W reader asked) (choice_nested reader asked) (all_nested others readers)
    where
      by : (found : Option ReleasedDocument) → IfSome found IsNestedChoice → AllByRecursion IsNestedChoice (choices (selections W others readers))
          → AllByRecursion IsNestedChoice (cons_option found (choices (selections W others readers)))
      by None one later = later
      by (Some c) one later = (one, later)

all_sound : (choices : List ReleasedDocument) → AllByRecursion IsNestedChoice choices → AllByRecursion IsAnswered choices → AllByRecursion IsSound choices
all_sound [] nested answered = tt
all_sound (choice ∷ choices) nested answered = (
  record {
    reads = nested.0.read;
    nesting = omega (arith, nested.0.nesting);
    items = answered.0.items;
    missing = answered.0.missing;
  },
  all_sound choices nested.1 answered.1,
)

-- a response has room for what is selected of a store
pub sound_selected : (W : Setup) (documents : List Document) (readers : List (Option (List ℕ))) (list : List ReleasedDocument)
    → AllByRecursion IsNestedDocument W.store
    → list ≡ choices (selections W documents readers)
    → AllByRecursion (λ (document : Document). are_distinct document.wishes ≡ true) documents
    → AllByRecursion IsSound list
sound_selected W documents readers list nested are distinct =
    subst (λ (cs : List ReleasedDocument). AllByRecursion IsSound cs) (sym are)
    (all_sound (choices (selections W documents readers)) (all_nested W nested documents readers) (all_answered W documents readers distinct))
