-- The element table: the data elements of the namespace org.iso.18013.5.1 (ISO/IEC 18013-5, 7.2.1,
-- table 5), each with the kind of its values in the profile of this project.
use Rattle.std.specs.Prelude.{ℕ, Bool, true, false, ◌==◌, List, [], ◌∷◌, find, codes, Option, option_map, option_and_then}
use Rattle.std.specs.Str.{bytes_eq}
use Rattle.mdl_table.specs.Form.{has_form}
use Rattle.mdl_table.specs.declared.row.Row.{Row}

pub data Kind : Type 0 where
  -- 1 to 150 characters
  text : Kind
  -- two letters from A to Z (ISO 3166-1, alpha-2)
  country : Kind
  -- full-date, moment (tdate), and either of them
  date : Kind
  moment : Kind
  day : Kind
  -- at least one byte
  bytes : Kind
  -- an unsigned number from the first to the last
  number : ℕ → ℕ → Kind
  -- one of these unsigned numbers
  choice : List ℕ → Kind
  truth : Kind
  -- an array of maps
  maps : Kind

-- a row: its number, the names that it stands for, the kind of its values, whether it is mandatory
pub record Element : Type 0 where
  pub number : ℕ
  pub names : List ℕ → Bool
  pub kind : Kind
  pub mandatory : Bool

abbrev pub must : ℕ → List ℕ → Kind → Element
must n name k = record { number = n; names = λ asked. bytes_eq asked name; kind = k; mandatory = true }

abbrev pub may : ℕ → List ℕ → Kind → Element
may n name k = record { number = n; names = λ asked. bytes_eq asked name; kind = k; mandatory = false }

-- a row for each name of a form, in which `0` stands for any digit
abbrev pub may_each : ℕ → List ℕ → Kind → Element
may_each n form k = record { number = n; names = has_form form; kind = k; mandatory = false }

unfoldable pub elements : List Element
elements =
    must 1 (codes "family_name") text
    ∷ must 2 (codes "given_name") text
    ∷ must 3 (codes "birth_date") date
    ∷ must 4 (codes "issue_date") day
    ∷ must 5 (codes "expiry_date") day
    ∷ must 6 (codes "issuing_country") country
    ∷ must 7 (codes "issuing_authority") text
    ∷ must 8 (codes "document_number") text
    ∷ must 9 (codes "portrait") bytes
    ∷ must 10 (codes "driving_privileges") maps
    ∷ must 11 (codes "un_distinguishing_sign") text
    ∷ may 12 (codes "administrative_number") text
    ∷ may 13 (codes "sex") (choice (0 ∷ 1 ∷ 2 ∷ 9 ∷ []))
    ∷ may 14 (codes "height") (number 1 300)
    ∷ may 15 (codes "weight") (number 1 700)
    ∷ may 16 (codes "eye_colour") text
    ∷ may 17 (codes "hair_colour") text
    ∷ may 18 (codes "birth_place") text
    ∷ may 19 (codes "resident_address") text
    ∷ may 20 (codes "portrait_capture_date") moment
    ∷ may 21 (codes "age_in_years") (number 0 200)
    ∷ may 22 (codes "age_birth_year") (number 0 9999)
    ∷ may 23 (codes "issuing_jurisdiction") text
    ∷ may 24 (codes "nationality") country
    ∷ may 25 (codes "resident_city") text
    ∷ may 26 (codes "resident_state") text
    ∷ may 27 (codes "resident_postal_code") text
    ∷ may 28 (codes "resident_country") country
    ∷ may 29 (codes "family_name_national_character") text
    ∷ may 30 (codes "given_name_national_character") text
    ∷ may 31 (codes "signature_usual_mark") bytes
    ∷ may_each 32 (codes "age_over_00") truth
    ∷ []

-- the number of the row that stands for a name
unfoldable pub number_of : List ℕ → Option ℕ
number_of name = option_map (λ e. e.number) (find (λ e. e.names name) elements)

-- the row of a number
unfoldable pub element_at : ℕ → Option Element
element_at n = find (λ e. n == e.number) elements

-- what callers see of it
abbrev pub row : Element → Row
row e = record { number = e.number; mandatory = e.mandatory }

abbrev pub row_of : List ℕ → Option Row
row_of name = option_map row (option_and_then element_at (number_of name))
