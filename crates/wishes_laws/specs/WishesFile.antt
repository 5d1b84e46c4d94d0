-- A wishes file by the whole list of its lines: those that are not ignored are, in order, the lines of the
-- documents that it asks for.
use Rattle.std.specs.Prelude.{◌≡◌, ℕ, ◌<◌, ◌≤◌, Bool, true, false, IsTrue, List, [], ◌∷◌, length, map, flat_map, codes}
use Rattle.std.specs.List.{AllByRecursion}
use Rattle.mdoc_outside.specs.Lines.{Line, file_lines, words}
use Rattle.mdoc_outside.specs.WordForm.{is_name}
use Rattle.doc_request.specs.Draft.{wish_count, are_distinct}
use Rattle.doc_request.specs.declared.doc_draft.DocDraft.{DocDraft}
use Rattle.doc_request.specs.declared.wish_draft.WishDraft.{WishDraft}

-- ---- the lines of documents, each as the list of its words

-- `document TYPE`
abbrev pub document_words : List ℕ → List (List ℕ)
document_words doc_type = codes "document" ∷ doc_type ∷ []

abbrev pub flag_word : Bool → List ℕ
flag_word true = codes "1"
flag_word false = codes "0"

-- `want NAMESPACE ELEMENT RETAIN`
abbrev pub want_words : WishDraft → List (List ℕ)
want_words wish = codes "want" ∷ wish.ns ∷ wish.name ∷ flag_word wish.retain ∷ []

-- a document's line and those of its wishes
abbrev pub document_lines : DocDraft → List (List (List ℕ))
document_lines document = document_words document.doc_type ∷ map want_words document.wishes

abbrev pub request_lines : List DocDraft → List (List (List ℕ))
request_lines documents = flat_map document_lines documents

-- ---- what a file can ask for

pub record AreNames (wish : WishDraft) : Type 0 where
  pub ns : IsTrue (is_name wish.ns)
  pub name : IsTrue (is_name wish.name)

-- Its names are words of at most 128 bytes, it has wishes, and no two are for one element.
pub record IsAsked (document : DocDraft) : Type 0 where
  pub doc_type : IsTrue (is_name document.doc_type)
  pub names : AllByRecursion AreNames document.wishes
  pub some : 0 < length document.wishes
  pub distinct : IsTrue (are_distinct document.wishes)

-- The lines are those of one or more documents, limits apart.
pub record AreLinesOf (lines : List (List (List ℕ))) (documents : List DocDraft) : Type 0 where
  pub whole : lines ≡ request_lines documents
  pub each : AllByRecursion IsAsked documents
  pub some : 0 < length documents

-- at most 16 documents, 512 wishes in a document and 2,048 wishes in all
pub record AreWithinLimits (documents : List DocDraft) : Type 0 where
  pub few : length documents ≤ 16
  pub few_of_each : AllByRecursion (λ document. length document.wishes ≤ 512) documents
  pub few_wishes : wish_count documents ≤ 2048

-- ---- the file

-- the words of lines
abbrev pub words_of : List Line → List (List (List ℕ))
words_of lines = map (λ (line : Line). words line.bytes) lines

pub record IsWishesFile (text : List ℕ) (documents : List DocDraft) : Type 0 where
  pub lines : AreLinesOf (words_of (file_lines text)) documents
  pub limits : AreWithinLimits documents
