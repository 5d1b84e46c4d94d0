-- The row of `draft`, as the code lists it, and the files that its words name.
use Rattle.std.proofs.Common.{◌≡◌, ℕ, List, [], ◌∷◌, Bool, Some, refl}
use Rattle.std.specs.Prelude.{codes}
use Rattle.mdoc_draft.specs.Draft.{draft_files, draft_row}
use Rattle.mdoc_frame.specs.Outcome.{named_files}
use Rattle.mdoc_frame.specs.Pairs.{Pair, is_in_form, needed_file, value_of}
use Rattle.mdoc_frame.specs.declared.role.Role.TheVariants as roles

-- the row of `draft`
pub in_row : (store wishes rules : Pair) (words : List (List ℕ)) (result : Bool) →
    store ≡ needed_file (codes "--store") roles.Store → wishes ≡ needed_file (codes "--wishes") roles.Wishes → rules ≡ needed_file (codes "--rules") roles.Rules →
    result ≡ is_in_form (store ∷ (wishes ∷ (rules ∷ []))) words → result ≡ is_in_form draft_row words
in_row store wishes rules words result store_is wishes_is rules_is is = rw (store_is, wishes_is, rules_is) at is

-- the files of `draft`, by the values that stand with their names
pub draft_files_named : (words : List (List ℕ)) (store wishes rules : List ℕ) →
    Some store ≡ value_of (codes "--store") words → Some wishes ≡ value_of (codes "--wishes") words → Some rules ≡ value_of (codes "--rules") words →
    named_files draft_row words ≡ draft_files store wishes rules
draft_files_named words store wishes rules store_is wishes_is rules_is = rw (← store_is, ← wishes_is, ← rules_is) refl
