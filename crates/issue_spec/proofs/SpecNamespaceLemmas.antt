-- The namespaces of elements with one element more.
use Rattle.std.proofs.Common.{◌≡◌, ℕ, List, [], ◌∷◌, ◌++◌, Result, Ok, refl, sym, ◌∙◌}
use Rattle.issue_spec.specs.SpecNamespaces.{with_namespace, namespaces_after, namespaces_of}
use Rattle.issue_spec.specs.declared.spec_fault.SpecFault.{SpecFault}
use Rattle.issue_spec.specs.declared.spec_element.SpecElement.{SpecElement}

after_one_more : (seen : List (List ℕ)) (elements : List SpecElement) (e : SpecElement) →
    namespaces_after seen (elements ++ e ∷ []) ≡ with_namespace (namespaces_after seen elements) e.ns
after_one_more seen [] e = refl
after_one_more seen (first ∷ elements) e = after_one_more (with_namespace seen first.ns) elements e

pub one_more : (elements : List SpecElement) (e : SpecElement) →
    namespaces_of (elements ++ e ∷ []) ≡ with_namespace (namespaces_of elements) e.ns
one_more elements e = after_one_more [] elements e

abbrev done : List (List ℕ) → Result (List (List ℕ)) SpecFault
done namespaces = Ok namespaces

ok_value : (x y : List (List ℕ)) → done x ≡ done y → x ≡ y
ok_value x y e = cc

-- what is listed stays the namespaces of all elements
pub listed_one_more : (old new : List (List ℕ)) (elements : List SpecElement) (e : SpecElement) (ns : List ℕ) →
    old ≡ namespaces_of elements → ns ≡ e.ns → done (with_namespace old ns) ≡ done new → new ≡ namespaces_of (elements ++ e ∷ [])
listed_one_more old new elements e ns listed same is =
    sym (ok_value (with_namespace old ns) new is) ∙ rw (listed, same) (sym (one_more elements e))
