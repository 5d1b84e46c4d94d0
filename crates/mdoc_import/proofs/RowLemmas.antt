-- The row of `import`, as the code lists it, and the names and the moment that its words give.
use Rattle.std.proofs.Common.{◌≡◌, ℕ, List, [], ◌∷◌, Bool, true, Option, Some, refl, sym, ap}
use Rattle.std.specs.Prelude.{codes, unwrap_or}
use Rattle.mdoc_frame.specs.Number.{is_number}
use Rattle.mdoc_frame.specs.Outcome.{named_files}
use Rattle.mdoc_frame.specs.Pairs.{Pair, file_or_none, is_in_form, needed_file, number, value_of}
use Rattle.mdoc_frame.specs.declared.role.Role.TheVariants as roles
use Rattle.mdoc_frame.proofs.PairLemmas.{kind_of}
use Rattle.mdoc_import.specs.Import.{import_files, import_row, store_of}

-- the row of `import`
pub in_row : (received roots store moment : Pair) (words : List (List ℕ)) (result : Bool) →
    received ≡ needed_file (codes "--package") roles.Package → roots ≡ needed_file (codes "--roots") roles.Roots → store ≡ file_or_none (codes "--store") roles.Store →
    moment ≡ number (codes "--moment") 0 253402300799 →
    result ≡ is_in_form (received ∷ (roots ∷ (store ∷ (moment ∷ [])))) words → result ≡ is_in_form import_row words
in_row received roots store moment words result received_is roots_is store_is moment_is is =
    rw (received_is, roots_is, store_is, moment_is) at is

-- its files, by the values that stand with its names
pub import_names : (words : List (List ℕ)) (received roots store : List ℕ) →
    Some received ≡ value_of (codes "--package") words → Some roots ≡ value_of (codes "--roots") words → Some store ≡ value_of (codes "--store") words →
    (named_files import_row words ≡ import_files received roots store) × (store_of words ≡ store)
import_names words received roots store received_is roots_is store_is =
    (rw (← received_is, ← roots_is, ← store_is) refl, ap (λ (o : Option (List ℕ)). unwrap_or o []) (sym store_is))

-- the value of `--moment` is a number in its range
pub moment_is_number : (words : List (List ℕ)) (word : List ℕ) → is_in_form import_row words ≡ true → Some word ≡ value_of (codes "--moment") words →
    is_number 0 253402300799 word ≡ true
moment_is_number words word form some = kind_of import_row words 3 (number (codes "--moment") 0 253402300799) word form refl (sym some)
