-- Which line of a text is the first that makes it no wishes file, and when a limit is exceeded.
use Rattle.std.specs.Prelude.{◌≡◌, ℕ, ◌≤◌, List, [], ◌∷◌, ◌++◌, length, max, Err}
use Rattle.std.specs.Str.Lines.{lines}
use Rattle.mdoc_outside.specs.Lines.{Line, file_lines}
use Rattle.mdoc_outside.specs.declared.limit_name.LimitName.{LimitName}
use Rattle.mdoc_outside.specs.declared.limit_name.LimitName.TheVariants.{Documents, Wishes}
use Rattle.doc_request.specs.Draft.{wish_count}
use Rattle.doc_request.specs.declared.doc_draft.DocDraft.{DocDraft}
use Rattle.mdoc_frame.specs.Wishes.{wishes_of}
use Rattle.mdoc_frame.specs.declared.file_fault.FileFault.TheVariants.{Limit}
use Rattle.wishes_laws.specs.WishesFile.{AreLinesOf, request_lines, words_of}

-- Further lines can follow such that all of them are those of documents, limits apart.
pub record CanGoOn (lines : List (List (List ℕ))) : Type 0 where
  pub more : List (List (List ℕ))
  pub documents : List DocDraft
  pub are : AreLinesOf (lines ++ more) documents

-- The number is that of the first line after which nothing that follows makes a wishes file; or of the last
-- line, where something could follow, but nothing does.
pub data IsBadLine (text : List ℕ) (number : ℕ) : Type 0 where
  outside : (before after : List Line) (line : Line) → file_lines text ≡ before ++ line ∷ after → number ≡ line.number →
      CanGoOn (words_of before) → (CanGoOn (words_of (before ++ line ∷ [])) → ⊥) → IsBadLine text number
  early : number ≡ max 1 (length (lines text)) → CanGoOn (words_of (file_lines text)) →
      ((documents : List DocDraft) → AreLinesOf (words_of (file_lines text)) documents → ⊥) → IsBadLine text number

-- ---- limits

-- The last document of these exceeds a limit, or they do with it, by that number.
pub data Passes (documents : List DocDraft) (last : DocDraft) : LimitName → ℕ → Type 0 where
  documents_of_file : 17 ≤ length (documents ++ last ∷ []) → Passes documents last Documents 17
  wishes_of_document : 513 ≤ length last.wishes → Passes documents last Wishes 513
  wishes_of_file : 2049 ≤ wish_count (documents ++ last ∷ []) → Passes documents last Wishes 2049

-- Lines of the text, from the first on, are those of documents up to a line of the last one, which passes the
-- limit.
pub record PassesLimit (text : List ℕ) (limit : LimitName) (count : ℕ) : Type 0 where
  pub before : List Line
  pub after : List Line
  pub whole : file_lines text ≡ before ++ after
  pub documents : List DocDraft
  pub last : DocDraft
  pub are : words_of before ≡ request_lines (documents ++ last ∷ [])
  pub goes_on : CanGoOn (words_of before)
  pub passes : Passes documents last limit count

-- A limit is reported.
pub record IsLimited (text : List ℕ) : Type 0 where
  pub limit : LimitName
  pub count : ℕ
  pub is : wishes_of text ≡ Err (Limit limit count)
