-- No element is asked for twice in one document of a request (ISO/IEC 18013-5, 8.3.2.1.2.1).
use Rattle.std.specs.Prelude.{◌≡◌, ℕ, List, true}
use Rattle.std.specs.List.{AllByRecursion}
use Rattle.doc_request.specs.Asked.{Document, Documents, asked}
use Rattle.doc_request.specs.Draft.{are_distinct}

-- A law: of each document that a text asks for, no two wishes are for one element.
abbrev pub AreWishesDistinct : Type 0
AreWishesDistinct = (text : List ℕ) (documents : List Document) → asked text ≡ Documents documents
    → AllByRecursion (λ (document : Document). are_distinct document.wishes ≡ true) documents
