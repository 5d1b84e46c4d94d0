-- What a run prints with another store file in place of the one that was read.
use Rattle.std.specs.Prelude.{◌≡◌, ℕ, List, [], ◌∷◌, Option, Some, None, Ok}
use Rattle.doc_store.specs.Agreement.{FilesAgree}
use Rattle.mdoc_frame.specs.Content.{Content, OfStore, content_of, store_file}
use Rattle.mdoc_frame.specs.Outcome.{Answer, Failed, FileName, Found, Outcome, after_reads}
use Rattle.mdoc_frame.specs.declared.role.Role.{Role}
use Rattle.mdoc_frame.specs.declared.role.Role.TheVariants as roles
use Rattle.mdoc_frame.specs.declared.status.Status.{Status}
use Rattle.mdoc_frame.specs.declared.status.Status.TheVariants.{Limit}

-- the one for a store, and the other for each other role
abbrev pub if_store : {A : Type 0} → Role → A → A → A
if_store roles.Store one other = one
if_store role one other = other

abbrev pub bytes_found : Answer → Option (List ℕ)
bytes_found (Found found) = found
bytes_found Failed = None

-- what was found of the store
abbrev pub store_found : List FileName → List Answer → Option (List ℕ)
store_found [] answers = None
store_found (file ∷ files) [] = None
store_found (file ∷ files) (answer ∷ answers) = if_store file.role (bytes_found answer) (store_found files answers)

-- the same answers, but for another file in place of the store
abbrev pub with_store : List FileName → List Answer → List ℕ → List Answer
with_store [] answers other = answers
with_store (file ∷ files) [] other = []
with_store (file ∷ files) (answer ∷ answers) other = if_store file.role (Found (Some other)) answer ∷ with_store files answers other

-- a store file: it is not too long, and spells a store
abbrev pub IsStoreFile : List ℕ → Type 0
IsStoreFile bytes = content_of roles.Store (Some bytes) ≡ Ok (OfStore (store_file bytes))

-- a limit is exceeded
abbrev pub IsLimit : Status → Type 0
IsLimit (Limit limit number) = Unit {0}
IsLimit status = ⊥

-- the same lines, unless one of the two exceeds a limit
abbrev pub PrintsSame : Outcome → Outcome → Type 0
PrintsSame one other = (IsLimit one.status → ⊥) → (IsLimit other.status → ⊥) → other.lines ≡ one.lines

-- With these files and this work the same lines are printed for each store file that agrees with the one that was read, up to
-- the places of the released items.
abbrev pub PrintsAgreeing : List FileName → (List Content → Outcome) → Type 0
PrintsAgreeing files work =
    (answers : List Answer) (one other : List ℕ) → store_found files answers ≡ Some one → IsStoreFile one → IsStoreFile other
    → FilesAgree one other (after_reads files answers work).released
    → (after_reads files (with_store files answers other) work).lines ≡ (after_reads files answers work).lines

-- With these files and this work the same lines are printed for every store file in place of the one that was read, unless a
-- limit is exceeded.
abbrev pub PrintsAlike : List FileName → (List Content → Outcome) → Type 0
PrintsAlike files work =
    (answers : List Answer) (one other : List ℕ) → store_found files answers ≡ Some one → IsStoreFile one → IsStoreFile other
    → PrintsSame (after_reads files answers work) (after_reads files (with_store files answers other) work)
