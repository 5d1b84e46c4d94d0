-- Runs over stores that agree up to the released places.
use Rattle.std.specs.Prelude.{◌≡◌, ℕ, ℤ, List, Some}
use Rattle.doc_store.specs.Agreement.{FilesAgree}
use Rattle.mdoc_frame.specs.Asking.{Talks}
use Rattle.mdoc_frame.specs.OtherStore.{IsStoreFile, PrintsSame, store_found, with_store}
use Rattle.mdoc_frame.specs.Outcome.{Answer}
use Rattle.mdoc_program.specs.Commands.{outcome}
use Rattle.mdoc_program.specs.Order.{Order, files_named, order}
use Rattle.mdoc_program.specs.declared.command.Command.TheVariants.{Import}

-- The law that a run of a command that writes no store prints the same lines for each store file that agrees with the one
-- that was read, up to the places of the released items.
abbrev pub AgreeingStores : Type 0
AgreeingStores =
    (words : List (List ℕ)) (o : Order) → order words ≡ Some o → (o.command ≡ Import → ⊥) → (clock : ℤ) (told : Talks) (answers : List Answer) (one other : List ℕ)
    → store_found (files_named o) answers ≡ Some one → IsStoreFile one → IsStoreFile other
    → FilesAgree one other (outcome o clock told answers).released
    → (outcome o clock told (with_store (files_named o) answers other)).lines ≡ (outcome o clock told answers).lines

-- The law that `import`, which releases nothing, prints the same lines for every store file in place of the one that was
-- read: only that the merged store exceeds a limit can be told of it.
abbrev pub ImportsAlike : Type 0
ImportsAlike =
    (words : List (List ℕ)) (o : Order) → order words ≡ Some o → o.command ≡ Import → (clock : ℤ) (told : Talks) (answers : List Answer) (one other : List ℕ)
    → store_found (files_named o) answers ≡ Some one → IsStoreFile one → IsStoreFile other
    → PrintsSame (outcome o clock told answers) (outcome o clock told (with_store (files_named o) answers other))

abbrev pub Agreeing : Type 0
Agreeing = AgreeingStores × ImportsAlike
