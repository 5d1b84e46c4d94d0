-- One wish more is answered.
use Rattle.std.specs.Prelude.{ℕ, List, Option, Some, None}
use Rattle.consent.specs.Wish.{Wanted}
use Rattle.doc_response.specs.Answered.{Answered}
use Rattle.doc_response.specs.Draft.{and_item, and_missing}

-- by the item that answers it, or as an element that is missing
abbrev pub with_answer : Answered → Wanted → Option (List ℕ) → Answered
with_answer document wish (Some raw) = and_item wish.ns raw document
with_answer document wish None = and_missing wish.ns wish.name document
