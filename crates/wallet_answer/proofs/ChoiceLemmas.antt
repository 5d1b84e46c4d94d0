-- What is answered of a document wish by wish is what is answered at once.
use Rattle.std.proofs.Common.{◌≡◌, ℕ, List, [], ◌∷◌, ◌++◌, length, map, Option, Some, None, cond, refl, sym, ap, ◌∙◌, append_assoc}
use Rattle.std.specs.Prelude.{filter, is_none, option_map}
use Rattle.std.specs.List.{cons_option}
use Rattle.std.proofs.lemmas.List.{append-nil}
use Rattle.consent.specs.Wish.{Wanted}
use Rattle.consent.specs.declared.rule.Rule.{Rule}
use Rattle.doc_request.specs.Asked.{Document}
use Rattle.doc_request.specs.declared.wish_draft.WishDraft.{WishDraft}
use Rattle.wallet_answer.specs.Progress.{Progress, answered_progress, at_start, with_answer, with_wishes}
use Rattle.wallet_model.specs.Released.{ReleasedItem, ShownCopy, choice_of, choice_with, is_refused, item_for, item_of, name_of, named, place_in, refused, released, wish_for, wishes_of}

abbrev with_all : ℕ → Progress → List ReleasedItem → List (List ℕ × List ℕ) → Progress
with_all document p items missing = record {
  answered = record { doc_type = p.answered.doc_type; items = p.answered.items ++ map item_of items; missing = p.answered.missing ++ missing };
  places = p.places ++ map (place_in document) items;
}

one_more : (rules : List Rule) (reader : Option (List ℕ)) (shown : ShownCopy) (p : Progress) (wish : Wanted) (wishes : List Wanted)
    → with_all shown.document (with_answer shown.document p wish (item_for rules reader shown.copy wish)) (released rules reader shown.copy wishes) (refused rules reader shown.copy wishes)
    ≡ with_all shown.document p (released rules reader shown.copy (wish ∷ wishes)) (refused rules reader shown.copy (wish ∷ wishes))
one_more rules reader shown p wish wishes = either (item_for rules reader shown.copy wish)
  where
    either : (found : Option (List ℕ))
        → with_all shown.document (with_answer shown.document p wish found) (released rules reader shown.copy wishes) (refused rules reader shown.copy wishes)
        ≡ with_all shown.document p (cons_option (option_map (named wish) found) (released rules reader shown.copy wishes))
        (map name_of (cond (is_none found) (wish ∷ filter (is_refused rules reader shown.copy) wishes) (filter (is_refused rules reader shown.copy) wishes)))
    either (Some raw) = simp append_assoc
    either None = simp append_assoc

pub with_wishes-all : (rules : List Rule) (reader : Option (List ℕ)) (shown : ShownCopy) (p : Progress) (wishes : List Wanted)
    → with_wishes rules reader shown p wishes
    ≡ with_all shown.document p (released rules reader shown.copy wishes) (refused rules reader shown.copy wishes)
with_wishes-all rules reader shown p [] = simp append-nil
with_wishes-all rules reader shown p (wish ∷ wishes) =
    with_wishes-all rules reader shown (with_answer shown.document p wish (item_for rules reader shown.copy wish)) wishes ∙ one_more rules reader shown p wish wishes

-- from a document with no answer yet
progress_all : (rules : List Rule) (reader : Option (List ℕ)) (shown : ShownCopy) (asked : Document)
    → answered_progress rules reader shown asked
    ≡ with_all shown.document (at_start asked.doc_type) (released rules reader shown.copy (wishes_of asked)) (refused rules reader shown.copy (wishes_of asked))
progress_all rules reader shown asked = with_wishes-all rules reader shown (at_start asked.doc_type) (wishes_of asked)

nothing_with : (doc_type : List ℕ) (shown : ShownCopy) (items : List ReleasedItem) (missing : List (List ℕ × List ℕ))
    → length (map item_of items) ≡ 0 → None ≡ choice_with doc_type shown missing items
nothing_with doc_type shown [] missing none = refl
nothing_with doc_type shown (item ∷ items) missing none = cc

something_with : (doc_type : List ℕ) (shown : ShownCopy) (items : List ReleasedItem) (missing : List (List ℕ × List ℕ))
    → (length (map item_of items) ≡ 0 → ⊥)
    → Some (record {
      key = shown.copy.key;
      uses_mac = shown.uses_mac;
      issuer_auth = shown.copy.issuer_auth;
      answered = record { doc_type = doc_type; items = map item_of items; missing = missing };
      places = map (place_in shown.document) items;
    }) ≡ choice_with doc_type shown missing items
something_with doc_type shown [] missing something = absurd (something refl)
something_with doc_type shown (item ∷ items) missing something = refl

-- where no item is released, and where one is
pub choice_nothing : (rules : List Rule) (reader : Option (List ℕ)) (shown : ShownCopy) (asked : Document) (p : Progress)
    → p ≡ answered_progress rules reader shown asked → length p.answered.items ≡ 0 → None ≡ choice_of rules reader asked shown
choice_nothing rules reader shown asked p is none =
    nothing_with asked.doc_type shown (released rules reader shown.copy (wishes_of asked)) (refused rules reader shown.copy (wishes_of asked))
    (sym (ap (λ (q : Progress). length q.answered.items) (is ∙ progress_all rules reader shown asked)) ∙ none)

pub choice_something : (rules : List Rule) (reader : Option (List ℕ)) (shown : ShownCopy) (asked : Document) (p : Progress)
    → p ≡ answered_progress rules reader shown asked → (length p.answered.items ≡ 0 → ⊥)
    → Some (record { key = shown.copy.key; uses_mac = shown.uses_mac; issuer_auth = shown.copy.issuer_auth; answered = p.answered; places = p.places }) ≡ choice_of rules reader asked shown
choice_something rules reader shown asked p is something =
    ap (λ (q : Progress). Some (record { key = shown.copy.key; uses_mac = shown.uses_mac; issuer_auth = shown.copy.issuer_auth; answered = q.answered; places = q.places })) (is ∙ progress_all rules reader shown asked)
    ∙ something_with asked.doc_type shown (released rules reader shown.copy (wishes_of asked)) (refused rules reader shown.copy (wishes_of asked))
    (λ none. something (ap (λ (q : Progress). length q.answered.items) (is ∙ progress_all rules reader shown asked) ∙ none))

-- ---- the loop over the wishes

pub wishes_start : (rules : List Rule) (reader : Option (List ℕ)) (shown : ShownCopy) (p : Progress) (asked : Document) (wishes : List WishDraft) (doc_type : List ℕ)
    → p ≡ at_start doc_type → doc_type ≡ asked.doc_type → wishes ≡ asked.wishes
    → with_wishes rules reader shown p (map (wish_for asked.doc_type) wishes) ≡ answered_progress rules reader shown asked
wishes_start rules reader shown p asked wishes doc_type begins of_type are =
    ap (λ (q : Progress). with_wishes rules reader shown q (map (wish_for asked.doc_type) wishes)) (begins ∙ ap at_start of_type)
    ∙ ap (λ (list : List WishDraft). with_wishes rules reader shown (at_start asked.doc_type) (map (wish_for asked.doc_type) list)) are

pub wishes_step : (rules : List Rule) (reader : Option (List ℕ)) (shown : ShownCopy) (p q all : Progress) (doc_type : List ℕ) (element : WishDraft) (rest before : List WishDraft) (wish : Wanted) (found : Option (List ℕ))
    → before ≡ element ∷ rest → wish ≡ wish_for doc_type element → found ≡ item_for rules reader shown.copy wish → q ≡ with_answer shown.document p wish found
    → with_wishes rules reader shown p (map (wish_for doc_type) before) ≡ all → with_wishes rules reader shown q (map (wish_for doc_type) rest) ≡ all
wishes_step rules reader shown p q all doc_type element rest before wish found are is_wish is_found is_next so_far =
    ap (λ (r : Progress). with_wishes rules reader shown r (map (wish_for doc_type) rest))
    (is_next ∙ ap (λ (o : Option (List ℕ)). with_answer shown.document p wish o) is_found
    ∙ ap (λ (w : Wanted). with_answer shown.document p w (item_for rules reader shown.copy w)) is_wish)
    ∙ sym (ap (λ (list : List WishDraft). with_wishes rules reader shown p (map (wish_for doc_type) list)) are) ∙ so_far
