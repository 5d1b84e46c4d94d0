-- What is answered of a document, wish by wish.
use Rattle.std.specs.Prelude.{ℕ, List, [], ◌∷◌, ◌++◌, Option, Some, None}
use Rattle.consent.specs.Wish.{Wanted}
use Rattle.consent.specs.declared.rule.Rule.{Rule}
use Rattle.doc_request.specs.Asked.{Document}
use Rattle.doc_response.specs.Answered.{Answered}
use Rattle.doc_response.specs.Draft.{and_item, and_missing}
use Rattle.wallet_answer.specs.declared.choosing.Progress as made
use Rattle.wallet_model.specs.Released.{ShownCopy, item_for, wishes_of}
use Rattle.wallet_model.specs.declared.released_at.ReleasedAt.{ReleasedAt}

pub record Progress : Type 0 where
  pub answered : Answered
  pub places : List ReleasedAt

abbrev pub progress_seen : made.Progress → Progress
progress_seen p = record { answered = p.answered; places = p.places.items }

abbrev pub at_start : List ℕ → Progress
at_start doc_type = record { answered = record { doc_type = doc_type; items = []; missing = [] }; places = [] }

-- a wish more, with the item that is released for it, if one is
abbrev pub with_answer : ℕ → Progress → Wanted → Option (List ℕ) → Progress
with_answer document p wish (Some raw) = record {
  answered = and_item wish.ns raw p.answered;
  places = p.places ++ (record { document = document; ns = wish.ns; name = wish.name }) ∷ [];
}
with_answer document p wish None = record { answered = and_missing wish.ns wish.name p.answered; places = p.places }

abbrev pub with_wishes : List Rule → Option (List ℕ) → ShownCopy → Progress → List Wanted → Progress
with_wishes rules reader shown p [] = p
with_wishes rules reader shown p (wish ∷ wishes) =
    with_wishes rules reader shown (with_answer shown.document p wish (item_for rules reader shown.copy wish)) wishes

abbrev pub answered_progress : List Rule → Option (List ℕ) → ShownCopy → Document → Progress
answered_progress rules reader shown asked = with_wishes rules reader shown (at_start asked.doc_type) (wishes_of asked)
