-- The namespaces of a spec's elements.
use Rattle.std.specs.Prelude.{ℕ, List, [], ◌∷◌, ◌++◌, if◌then◌else◌}
use Rattle.std.specs.List.{list_any}
use Rattle.std.specs.Str.{bytes_eq}
use Rattle.issue_spec.specs.declared.spec_element.SpecElement.{SpecElement}

-- with one namespace more, where it isn't there
abbrev pub with_namespace : List (List ℕ) → List ℕ → List (List ℕ)
with_namespace seen ns = if list_any (bytes_eq ns) seen then seen else seen ++ ns ∷ []

abbrev pub namespaces_after : List (List ℕ) → List SpecElement → List (List ℕ)
namespaces_after seen [] = seen
namespaces_after seen (e ∷ es) = namespaces_after (with_namespace seen e.ns) es

-- in the order of first appearance
abbrev pub namespaces_of : List SpecElement → List (List ℕ)
namespaces_of elements = namespaces_after [] elements
