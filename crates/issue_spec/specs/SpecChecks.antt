-- The checks of a spec file, each list of them in its order.
use Rattle.std.specs.Prelude.{ℕ, ◌==◌, ◌&&◌, ◌||◌, nat_lt, nat_le, not, List, [], ◌∷◌, ◌++◌, length, find, filter, map, Bool, true, false, ℤ, negsuc, int_le, Option, Some, None, codes, Result, Ok, Err, if◌then◌else◌}
use Rattle.std.specs.List.{list_any}
use Rattle.std.specs.Str.{bytes_eq}
use Rattle.cbor_view.specs.Reading.{tree_of}
use Rattle.mdl_table.specs.Elements as table
use Rattle.mdl_table.specs.Fitting.{fits}
use Rattle.mdl_table.specs.declared.row.Row.{Row}
use Rattle.mdl_table.specs.declared.row_fault.RowFault.{RowFault}
use Rattle.mdoc_outside.specs.declared.limit_name.LimitName.TheVariants.{Namespaces, Items, Value}
use Rattle.issue_spec.specs.SpecNamespaces.{namespaces_of}
use Rattle.issue_spec.specs.SpecSoFar.{SoFar, is_given, are_complete, is_empty, has_element}
use Rattle.issue_spec.specs.declared.spec_check.SpecCheck.{SpecCheck}
use Rattle.issue_spec.specs.declared.spec_check.SpecCheck.TheVariants as checks
use Rattle.issue_spec.specs.declared.spec_element.SpecElement.{SpecElement}
use Rattle.issue_spec.specs.declared.spec_fields.SpecFields.{SpecFields}
use Rattle.issue_spec.specs.declared.spec_header.SpecHeader.{SpecHeader}
use Rattle.issue_spec.specs.declared.spec_header.SpecHeader.TheVariants.{Signed, From, Until, Update}

-- a check that fails where a test holds
abbrev pub fails_where : Bool → SpecCheck → Option SpecCheck
fails_where test failed = if test then Some failed else None

-- the first of several checks that fails
abbrev pub first_failed : List (Option SpecCheck) → Option SpecCheck
first_failed [] = None
first_failed (None ∷ others) = first_failed others
first_failed (Some failed ∷ others) = Some failed

-- ---- header lines

-- a moment before 1950-01-01T00:00:00Z, which the certificates that are made don't say
abbrev pub is_early : ℤ → Bool
is_early moment = int_le moment (negsuc 631_152_000)

abbrev pub says_early : SpecHeader → Bool
says_early (Signed moment) = is_early moment
says_early (From moment) = is_early moment
says_early (Until moment) = is_early moment
says_early (Update moment) = is_early moment
says_early other = false

-- A header line is bad whose keyword stands before, that stands after an element, or that says a time
-- before 1950 in a file with new certificates.
abbrev pub is_bad_header : Bool → SpecHeader → SoFar → Bool
is_bad_header new header so_far =
    is_given header so_far.headers || not (is_empty so_far.elements) || (says_early header && new)

-- ---- element lines

-- An element line is bad that stands before a header which has to be there, or whose element stands before.
abbrev pub is_bad_element : SpecElement → SoFar → Bool
is_bad_element e so_far = not (are_complete so_far.headers) || has_element so_far.elements e

-- the namespace of the element table (ISO/IEC 18013-5, 7.2.1), and the type of the licence
abbrev pub table_namespace : List ℕ
table_namespace = codes "org.iso.18013.5.1"

abbrev pub licence_type : List ℕ
licence_type = codes "org.iso.18013.5.1.mDL"

abbrev pub is_in_table : SpecElement → Bool
is_in_table e = bytes_eq e.ns table_namespace

abbrev pub row_check : Result (Unit {0}) RowFault → Option SpecCheck
row_check (Ok u) = None
row_check (Err broken) = Some (checks.Row broken)

-- an element of the table's namespace fits its row
abbrev pub broken_row : SpecElement → Option SpecCheck
broken_row e = if is_in_table e then row_check (fits e.name (tree_of e.value)) else None

-- the checks of an element line: at most 16 namespaces, 512 elements, and 262,144 bytes of a value
abbrev pub element_checks : SpecElement → SoFar → List (Option SpecCheck)
element_checks e so_far =
    fails_where (is_bad_element e so_far) checks.Line
    ∷ broken_row e
    ∷ fails_where (nat_lt 16 (length (namespaces_of (so_far.elements ++ e ∷ [])))) (checks.Limit Namespaces 17)
    ∷ fails_where (nat_le 512 (length so_far.elements)) (checks.Limit Items 513)
    ∷ fails_where (nat_lt 262_144 (length e.value)) (checks.Limit Value (length e.value))
    ∷ []

-- ---- the whole

-- whether an element is of the row of this number
abbrev pub is_row : ℕ → Option Row → Bool
is_row number None = false
is_row number (Some row) = row.number == number

abbrev pub is_of_row : ℕ → SpecElement → Bool
is_of_row number e = is_in_table e && is_row number (table.row_of e.name)

abbrev pub has_row : List SpecElement → ℕ → Bool
has_row elements number = list_any (is_of_row number) elements

-- the numbers of the mandatory rows, in the order of the table
unfoldable pub mandatory : List ℕ
mandatory = map (λ row. row.number) (filter (λ row. row.mandatory) table.elements)

abbrev pub missing_check : Option ℕ → Option SpecCheck
missing_check None = None
missing_check (Some number) = Some (checks.Missing number)

-- a licence has all mandatory elements; the first one that is missing is told
abbrev pub missing : SpecFields → Option SpecCheck
missing fields =
    if bytes_eq fields.doc_type licence_type
    then missing_check (find (λ number. not (has_row fields.elements number)) mandatory) else None

abbrev pub are_in_order : SpecFields → Bool
are_in_order fields = int_le fields.signed fields.from && int_le fields.from fields.until

-- the checks of what the whole file says
abbrev pub whole_checks : SpecFields → List (Option SpecCheck)
whole_checks fields = missing fields ∷ fails_where (not (are_in_order fields)) checks.Order ∷ []
