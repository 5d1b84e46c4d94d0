-- What a run comes to, by what it saw of the outside.
use Rattle.std.specs.Prelude.{ℕ, List, [], ◌∷◌, filter_map, Bool, true, false, Option, Some, None, option_map, Result, Ok, Err}
use Rattle.doc_store.specs.Held.{Place}
use Rattle.doc_store.specs.declared.laws.TheConstants.{EMPTY_STORE}
use Rattle.mdoc_frame.specs.Content.{Content, OfStore, content_of, store_file}
use Rattle.mdoc_frame.specs.Pairs.{Pair, value_of}
use Rattle.mdoc_frame.specs.declared.pair_kind.PairKind.{PairKind}
use Rattle.mdoc_frame.specs.declared.pair_kind.PairKind.TheVariants.{File, FileOrNone}
use Rattle.mdoc_frame.specs.declared.role.Role.{Role}
use Rattle.mdoc_frame.specs.declared.status.Status.{Status}
use Rattle.mdoc_frame.specs.declared.status.Status.TheVariants.{Cabinet, Memory, Missing}

-- ---- what is read

-- A file that words name: what it is for, and whether it has to be there.
pub record FileName : Type 0 where
  pub role : Role
  pub name : List ℕ
  pub needed : Bool

abbrev pub needed_file_name : Role → List ℕ → FileName
needed_file_name role name = record { role = role; name = name; needed = true }

-- one that counts as empty where it is absent
abbrev pub file_name_or_none : Role → List ℕ → FileName
file_name_or_none role name = record { role = role; name = name; needed = false }

-- what was found under its name gives
abbrev pub content_if_absent : Bool → Role → Result Content Status
content_if_absent true role = Err (Missing role)
content_if_absent false role = Ok (OfStore (store_file EMPTY_STORE))

abbrev pub file_content : FileName → Option (List ℕ) → Result Content Status
file_content file None = content_if_absent file.needed file.role
file_content file (Some bytes) = content_of file.role (Some bytes)

abbrev pub file_of_kind : PairKind → Option (List ℕ) → Option FileName
file_of_kind (File role) value = option_map (needed_file_name role) value
file_of_kind (FileOrNone role) value = option_map (file_name_or_none role) value
file_of_kind kind value = None

-- the files that words name, in the order of a row
abbrev pub named_files : List Pair → List (List ℕ) → List FileName
named_files pairs words = filter_map (λ (pair : Pair). file_of_kind pair.kind (value_of pair.name words)) pairs

-- What the cabinet answered to a read: what it found, or that it failed.
pub data Answer : Type 0 where
  Found : Option (List ℕ) → Answer
  Failed : Answer

-- ---- what a run comes to

-- The status, the lines that are printed, each by one put, the files that are written, in order, and the places of the
-- released items.
pub record Outcome : Type 0 where
  pub status : Status
  pub lines : List (List ℕ)
  pub files : List (List ℕ × List ℕ)
  pub released : List Place

-- nothing but a status
abbrev pub only_status : Status → Outcome
only_status status = record { status = status; lines = []; files = []; released = [] }

-- a file is opened, or its status ends the run
abbrev pub if_opened : Result Content Status → (Content → Outcome) → Outcome
if_opened (Ok content) next = next content
if_opened (Err status) next = only_status status

-- The files are read one by one, each judged before the next is read, and then comes the work. Answers that end early
-- are those of a run that wanted memory.
abbrev pub after_reads : List FileName → List Answer → (List Content → Outcome) → Outcome
after_reads [] answers work = work []
after_reads (file ∷ files) [] work = only_status Memory
after_reads (file ∷ files) (Failed ∷ answers) work = only_status Cabinet
after_reads (file ∷ files) ((Found found) ∷ answers) work =
    if_opened (file_content file found) (λ content. after_reads files answers (λ contents. work (content ∷ contents)))
