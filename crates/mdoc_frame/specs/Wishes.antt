-- A wishes file: the documents that a reader asks for, and of each the elements that it wants.
use Rattle.std.specs.Prelude.{ℕ, ◌+◌, nat_lt, nat_le, max, List, [], ◌∷◌, ◌++◌, length, Option, Some, None, Result, Ok, Err, if◌then◌else◌}
use Rattle.std.specs.List.{list_any}
use Rattle.mdoc_outside.specs.Lines.{Line, file_lines, words}
use Rattle.mdoc_outside.specs.ResultSteps.{◌>>=◌}
use Rattle.std.specs.Str.Lines.{lines}
use Rattle.mdoc_outside.specs.declared.limit_name.LimitName.TheVariants.{Documents, Wishes}
use Rattle.doc_request.specs.Draft.{wish_count, is_same_element}
use Rattle.doc_request.specs.declared.doc_draft.DocDraft.{DocDraft}
use Rattle.doc_request.specs.declared.wish_draft.WishDraft.{WishDraft}
use Rattle.mdoc_frame.specs.WishLine.{wish_line}
use Rattle.mdoc_frame.specs.declared.wish_line.WishLine.{WishLine}
use Rattle.mdoc_frame.specs.declared.wish_line.WishLine.TheVariants.{Document, Want}
use Rattle.mdoc_frame.specs.declared.file_fault.FileFault.{FileFault}
use Rattle.mdoc_frame.specs.declared.file_fault.FileFault.TheVariants as fault

-- How far a file was read: the documents that are complete, and the one whose wishes are being read.
pub record Progress : Type 0 where
  pub complete : List DocDraft
  pub current : Option DocDraft

abbrev pub at_start : Progress
at_start = record { complete = []; current = None }

-- with the document that is being read, which has a wish; else what ends it, at this line, is wrong
abbrev pub with_current : ℕ → List DocDraft → Option DocDraft → Result (List DocDraft) FileFault
with_current number complete None = Ok complete
with_current number complete (Some document) = if nat_lt 0 (length document.wishes) then Ok (complete ++ document ∷ []) else Err (fault.Line number)

-- The documents, once the last one is complete.
abbrev pub complete_documents : ℕ → Progress → Result (List DocDraft) FileFault
complete_documents number progress = with_current number progress.complete progress.current

-- a line that begins a document, of which there are at most 16
abbrev pub with_document : ℕ → List ℕ → Progress → Result Progress FileFault
with_document number doc_type progress = do
  complete ← complete_documents number progress
  if nat_lt (length complete) 16 then Ok (record { complete = complete; current = Some (record { doc_type = doc_type; wishes = [] }) }) else Err (fault.Limit Documents 17)

-- What is wrong with one more wish of a document, if something is: none before it is for the same element, and
-- there are at most 512 in a document and 2,048 in all.
abbrev pub refusal : ℕ → WishDraft → List WishDraft → ℕ → Option FileFault
refusal number wish wishes count =
    if list_any (is_same_element wish) wishes then Some (fault.Line number) else
    if nat_le 512 (length wishes) then Some (fault.Limit Wishes 513) else
    if nat_le 2048 count then Some (fault.Limit Wishes 2049) else None

abbrev pub unless : {A : Type 0} → Option FileFault → A → Result A FileFault
unless None value = Ok value
unless (Some refused) value = Err refused

-- a line that wants an element of the document that is being read
abbrev pub with_want_in : ℕ → WishDraft → List DocDraft → Option DocDraft → Result Progress FileFault
with_want_in number wish complete None = Err (fault.Line number)
with_want_in number wish complete (Some document) =
    unless (refusal number wish document.wishes (wish_count complete + length document.wishes))
    (record { complete = complete; current = Some (record { doc_type = document.doc_type; wishes = document.wishes ++ wish ∷ [] }) })

abbrev pub with_want : ℕ → WishDraft → Progress → Result Progress FileFault
with_want number wish progress = with_want_in number wish progress.complete progress.current

abbrev pub with_line : ℕ → Option WishLine → Progress → Result Progress FileFault
with_line number None progress = Err (fault.Line number)
with_line number (Some (Document doc_type)) progress = with_document number doc_type progress
with_line number (Some (Want wish)) progress = with_want number wish progress

-- a file ends after a complete document: there is one
abbrev pub one_or_more : ℕ → List DocDraft → Result (List DocDraft) FileFault
one_or_more last [] = Err (fault.Line last)
one_or_more last (document ∷ documents) = Ok (document ∷ documents)

abbrev pub documents_at_end : ℕ → Progress → Result (List DocDraft) FileFault
documents_at_end last progress = complete_documents last progress >>= one_or_more last

-- the documents of the lines that are left; a file that ends too early is wrong at its last line
abbrev pub read_on : ℕ → Progress → List Line → Result (List DocDraft) FileFault
read_on last progress [] = documents_at_end last progress
read_on last progress (line ∷ rest) = with_line line.number (wish_line (words line.bytes)) progress >>= λ next. read_on last next rest

-- The documents that a wishes file spells, else its first fault.
abbrev pub wishes_of : List ℕ → Result (List DocDraft) FileFault
wishes_of text = read_on (max 1 (length (lines text))) at_start (file_lines text)
