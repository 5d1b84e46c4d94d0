-- What contracts see of the wishes that are left of a request.
use Rattle.std.specs.Prelude.{ℕ, List, ◌++◌, map}
use Rattle.consent.specs.Wish.{Wanted, wanted}
use Rattle.consent.specs.declared.wish.Wish.{Wish}
use Rattle.doc_request.specs.declared.wishes.Wishes.{Wishes}
use Rattle.doc_request.specs.Asked.{wish_at, wishes_from}
use Rattle.doc_request.specs.Views.{begun_left, documents_left}

-- those that are left of the document that was begun, and those of the documents after it
abbrev pub wishes_left : Wishes → List (ℕ × Wanted)
wishes_left w = map (wish_at w.place w.doc_type.now) (begun_left w.elements) ++ wishes_from w.next_place (documents_left w.documents)

abbrev pub place_and_wish : ℕ × Wish → ℕ × Wanted
place_and_wish e = (e.0, wanted e.1)
