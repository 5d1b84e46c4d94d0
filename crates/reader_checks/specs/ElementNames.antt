-- What contracts see of the names of elements.
use Rattle.std.specs.Prelude.{ℕ, Bool, false, List, Option, Some, None}
use Rattle.std.specs.Borrow.{Bor}
use Rattle.std.specs.BTreeMap as tree
use Rattle.std.specs.BTreeSet.{BTreeSet, contains_by}
use Rattle.std.specs.Cmp.Lexicographic.{slice_cmp}
use Rattle.std.specs.Ordering.{nat_cmp}
use Rattle.verdict_model.specs.declared.named.Named.{Named}
use Rattle.reader_checks.specs.declared.accepted.AcceptedElements.{AcceptedElements}
use Rattle.reader_checks.specs.declared.element_names.ElementNames.{ElementNames}

abbrev pub is_in : BTreeSet (Bor (List ℕ)) → List ℕ → Bool
is_in names name = contains_by (λ key. slice_cmp nat_cmp name key.now) names

abbrev pub is_in_some : Option (BTreeSet (Bor (List ℕ))) → List ℕ → Bool
is_in_some None name = false
is_in_some (Some names) name = is_in names name

-- whether one of them is of that namespace and name
abbrev pub has_name : ElementNames → List ℕ → List ℕ → Bool
has_name names ns name = is_in_some (tree.get_by (λ key. slice_cmp nat_cmp ns key.now) names.namespaces) name

abbrev pub has_name_in_some : Option ElementNames → List ℕ → List ℕ → Bool
has_name_in_some None ns name = false
has_name_in_some (Some names) ns name = has_name names ns name

-- whether one of them is that element
abbrev pub has_element : AcceptedElements → Named → Bool
has_element accepted wanted = has_name_in_some (tree.get_by (λ key. slice_cmp nat_cmp wanted.doc_type key.now) accepted.types) wanted.ns wanted.name
