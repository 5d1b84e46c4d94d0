-- The row of `issue`, as the code lists it, and the names that its words give.
use Rattle.std.proofs.Common.{◌≡◌, ℕ, List, [], ◌∷◌, Bool, Option, Some, None, refl, sym, ap}
use Rattle.std.specs.Prelude.{codes, unwrap_or}
use Rattle.mdoc_frame.specs.Outcome.{named_files}
use Rattle.mdoc_frame.specs.Pairs.{Pair, is_in_form, needed_file, needed_text, value_of}
use Rattle.mdoc_frame.specs.declared.role.Role.TheVariants as roles
use Rattle.mdoc_issue.specs.Issue.{issue_files, issue_row, out_of}

-- the row of `issue`
pub in_row : (spec out : Pair) (words : List (List ℕ)) (result : Bool) →
    spec ≡ needed_file (codes "--spec") roles.Spec → out ≡ needed_text (codes "--out") →
    result ≡ is_in_form (spec ∷ (out ∷ [])) words → result ≡ is_in_form issue_row words
in_row spec out words result spec_is out_is is = rw (spec_is, out_is) at is

-- its file, by the values that stand with its names
pub issue_names : (words : List (List ℕ)) (spec out : List ℕ) →
    Some spec ≡ value_of (codes "--spec") words → Some out ≡ value_of (codes "--out") words →
    (named_files issue_row words ≡ issue_files spec) × (out_of words ≡ out)
issue_names words spec out spec_is out_is = (rw (← spec_is) refl, ap (λ (o : Option (List ℕ)). unwrap_or o []) (sym out_is))

pub issue_file : (words : List (List ℕ)) (spec : List ℕ) → value_of (codes "--spec") words ≡ Some spec → named_files issue_row words ≡ issue_files spec
issue_file words spec is = rw is refl

pub no_issue_file : (words : List (List ℕ)) → value_of (codes "--spec") words ≡ None → named_files issue_row words ≡ []
no_issue_file words is = rw is refl
