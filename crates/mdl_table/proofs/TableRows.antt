-- The rows of the code's table are those of the element table: its whole list is, and so each entry.
use Rattle.std.proofs.Common.{◌≡◌, ℕ, zero, suc, ◌+◌, ◌<◌, List, [], ◌∷◌, map, Option, Some, refl, sym, ap, ◌∙◌, arith, add-zero}
use Rattle.std.specs.Prelude.{option_map, slice_get}
use Rattle.std.proofs.lemmas.Option.{slice_get-map}
use Rattle.mdl_table.specs.declared.row.Row.{Row}
use Rattle.mdl_table.specs.declared.table.TheConstants.{ROWS}
use Rattle.mdl_table.specs.Elements.{row, elements, element_at}

-- the rows of so many numbers from one on
unfoldable pub rows_from : ℕ → ℕ → List (Option Row)
rows_from first zero = []
rows_from first (suc n) = option_map row (element_at first) ∷ rows_from (suc first) n

rows_of_table : rows_from 1 32 ≡ map Some ROWS.rows
unfolding rows_from element_at elements
rows_of_table = refl

rows_from-at : (first n place : ℕ) → place < n → slice_get (rows_from first n) place ≡ Some (option_map row (element_at (first + place)))
unfolding rows_from
rows_from-at first zero place h = absurd (omega arith)
rows_from-at first (suc n) zero h = rw add-zero refl
rows_from-at first (suc n) (suc place) h =
    let e : first + suc place ≡ suc first + place = omega arith in
    rw e (rows_from-at (suc first) n place (omega arith))

pub row_at_place : (place : ℕ) (r : Row) → place < 32 → slice_get ROWS.rows place ≡ Some r → option_map row (element_at (1 + place)) ≡ Some r
row_at_place place r h at =
    let got : slice_get (map Some ROWS.rows) place ≡ Some (Some r) = slice_get-map Some ROWS.rows place ∙ ap (option_map Some) at in
    let said : slice_get (map Some ROWS.rows) place ≡ Some (option_map row (element_at (1 + place))) =
    sym (ap (λ (rows : List (Option Row)). slice_get rows place) rows_of_table) ∙ rows_from-at 1 32 place h in
    cc
