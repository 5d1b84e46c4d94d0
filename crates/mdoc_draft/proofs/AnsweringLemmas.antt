-- What is answered of a store, step by step.
use Rattle.std.proofs.Common.{◌≡◌, ℕ, ◌+◌, ◌<◌, List, [], ◌∷◌, ◌++◌, length, map, get_or, drop, take, Option, Some, None, cond, sym, ap, ◌∙◌, append_assoc}
use Rattle.std.specs.Prelude.{filter, filter_map, slice_get, is_none, option_map}
use Rattle.std.specs.List.{cons_option}
use Rattle.std.proofs.lemmas.List.{append-nil, map_more}
use Rattle.doc_store.specs.Held.{IsAt, document_place, chosen}
use Rattle.doc_store.specs.Store.{Copy, Document, Store}
use Rattle.mdoc_outside.specs.OptionSteps.{◌>>=◌}
use Rattle.consent.specs.Wish.{Wanted}
use Rattle.consent.specs.declared.rule.Rule.{Rule}
use Rattle.doc_request.specs.declared.doc_draft.DocDraft.{DocDraft}
use Rattle.doc_request.specs.declared.wish_draft.WishDraft.{WishDraft}
use Rattle.doc_response.specs.Answered.{Answered}
use Rattle.mdoc_draft.specs.AnsweredDocument.{with_answer}
use Rattle.mdoc_draft.specs.Core.{item_given, is_missing, full_name, with_namespace, answered, answered_with}
use Rattle.mdoc_draft.specs.Released.{answer, shown_copy, wanted_of, wishes_in}

-- no copy is shown where there is no document of the type
pub shown_absent : (documents : Store) (doc_type : List ℕ) → document_place documents doc_type ≡ None → None ≡ shown_copy documents doc_type
shown_absent documents doc_type absent =
    sym (ap (λ (place : Option ℕ). place >>= λ at. slice_get documents at >>= λ document. slice_get document.copies (chosen document)) absent)

-- else it is the chosen one of the document that is there
pub shown_found : (documents : Store) (doc_type : List ℕ) (document : Document) (copy : Copy) (place : ℕ) →
    IsAt documents doc_type document → place ≡ chosen document → slice_get document.copies place ≡ Some copy →
    Some copy ≡ shown_copy documents doc_type
shown_found documents doc_type document copy place found place_is copy_is =
    sym (ap (λ (p : Option ℕ). p >>= λ at. slice_get documents at >>= λ d. slice_get d.copies (chosen d)) found.place
    ∙ ap (λ (o : Option Document). o >>= λ d. slice_get d.copies (chosen d)) found.there
    ∙ ap (slice_get document.copies) (sym place_is) ∙ copy_is)

-- wishes, one after the other
abbrev pub with_answers : List Rule → Option Copy → Answered → List Wanted → Answered
with_answers rules copy document [] = document
with_answers rules copy document (wish ∷ wishes) =
    with_answers rules copy (with_answer document wish (answer rules None copy wish)) wishes

-- the same, all at once
abbrev all_answers : List Rule → Option Copy → Answered → List Wanted → Answered
all_answers rules copy document wishes = record {
  doc_type = document.doc_type;
  items = document.items ++ filter_map (item_given rules None copy) wishes;
  missing = document.missing ++ map full_name (filter (is_missing rules None copy) wishes);
}

one_more : (rules : List Rule) (copy : Option Copy) (document : Answered) (wish : Wanted) (wishes : List Wanted) →
    all_answers rules copy (with_answer document wish (answer rules None copy wish)) wishes ≡ all_answers rules copy document (wish ∷ wishes)
one_more rules copy document wish wishes = either (answer rules None copy wish) where
  either : (o : Option (List ℕ)) → all_answers rules copy (with_answer document wish o) wishes ≡ record {
    doc_type = document.doc_type;
    items = document.items ++ cons_option (option_map (with_namespace wish) o) (filter_map (item_given rules None copy) wishes);
    missing = document.missing ++ map full_name (cond (is_none o) (wish ∷ filter (is_missing rules None copy) wishes) (filter (is_missing rules None copy) wishes));
  }
  either (Some raw) = simp append_assoc
  either None = simp append_assoc

pub with_answers-all : (rules : List Rule) (copy : Option Copy) (document : Answered) (wishes : List Wanted) →
    with_answers rules copy document wishes ≡ all_answers rules copy document wishes
with_answers-all rules copy document [] = simp append-nil
with_answers-all rules copy document (wish ∷ wishes) =
    with_answers-all rules copy (with_answer document wish (answer rules None copy wish)) wishes ∙ one_more rules copy document wish wishes

-- from a document with no answer yet
pub with_answers-start : (rules : List Rule) (copy : Option Copy) (asked : DocDraft) (wishes : List WishDraft) (start : Answered) →
    wishes ≡ asked.wishes → start ≡ record { doc_type = asked.doc_type; items = []; missing = [] } →
    with_answers rules copy start (map (wanted_of asked.doc_type) (drop 0 wishes)) ≡ answered_with rules None copy asked
with_answers-start rules copy asked wishes start wishes_are start_is =
    ap (λ (list : List WishDraft). with_answers rules copy start (map (wanted_of asked.doc_type) list)) wishes_are
    ∙ ap (λ (d : Answered). with_answers rules copy d (wishes_in asked)) start_is
    ∙ with_answers-all rules copy _ (wishes_in asked)

-- of the copy that a store shows it is the answer of the store
pub answered_of_shown : (rules : List Rule) (documents : Store) (copy : Option Copy) (doc_type : List ℕ) (asked : DocDraft) →
    doc_type ≡ asked.doc_type → copy ≡ shown_copy documents doc_type →
    answered_with rules None copy asked ≡ answered rules None documents asked
answered_of_shown rules documents copy doc_type asked type_is copy_is =
    ap (λ (shown : Option Copy). answered_with rules None shown asked) copy_is
    ∙ ap (λ (text : List ℕ). answered_with rules None (shown_copy documents text) asked) type_is

-- a list of answers that has one more
pub one_answer_more : {Y A : Type 0} (answer_to : A → Y) (answers more : List Y) (last : Y) (asked : List A) (i : ℕ) (d : A) →
    i < length asked → answers ≡ map answer_to (take i asked) → last ≡ answer_to (get_or asked i d) →
    more ≡ answers ++ last ∷ [] → more ≡ map answer_to (take (i + 1) asked)
one_answer_more {Y} {A} answer_to answers more last asked i d bound so_far this more_is =
    more_is ∙ ap (λ (l : List Y). l ++ last ∷ []) so_far
    ∙ ap (λ (y : Y). map answer_to (take i asked) ++ y ∷ []) this ∙ sym (map_more answer_to asked i d bound)
