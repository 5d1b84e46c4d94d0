-- What holds of the digests of items.
use Rattle.std.proofs.Common.{◌≡◌, ◌+◌, ◌<◌, refl, subst, arith, Bool, true, false, ◌&&◌, ◌==◌, ℕ, List, [], ◌∷◌, ◌++◌, length}
use Rattle.std.specs.Prelude.{filter, if◌then◌else◌}
use Rattle.std.specs.List.{list_any}
use Rattle.std.specs.Str.{bytes_eq}
use Rattle.std.proofs.lemmas.Bool.Decides.{nat_tests}
use Rattle.std.proofs.lemmas.List.Elements.{All-head, All-tail}
use Rattle.std.proofs.lemmas.Slice.Eq.{bytes_eq-Decides}
use Rattle.issue_spec.specs.SpecFacts.{AreElements, is_element}
use Rattle.issue_spec.specs.declared.spec_element.SpecElement.{SpecElement}
use Rattle.mso_digests.specs.Written.{AreOnce, AreTexts, is_same}
use Rattle.issuing.proofs.ElementLemmas.{ns_text}
use Rattle.issuing.specs.IssuedItems.{entries_of, entry_of, issued_item, items_after, count_in_namespace}

pub number_both : (ns : List ℕ) (xs ys : List SpecElement) → count_in_namespace ns (xs ++ ys) ≡ count_in_namespace ns xs + count_in_namespace ns ys
number_both ns [] ys = omega arith
number_both ns (x ∷ xs) ys = let rest = number_both ns xs ys in elim (bytes_eq x.ns ns) as (λ b. length (if b then x ∷ filter (λ (e : SpecElement). bytes_eq e.ns ns) (xs ++ ys) else filter (λ (e : SpecElement). bytes_eq e.ns ns) (xs ++ ys)) ≡ length (if b then x ∷ filter (λ (e : SpecElement). bytes_eq e.ns ns) xs else filter (λ (e : SpecElement). bytes_eq e.ns ns) xs) + count_in_namespace ns ys) [
  | true ↦ omega (arith, rest)
  | false ↦ rest
]

pub number_own : (e : SpecElement) → count_in_namespace e.ns (e ∷ []) ≡ 1
number_own e = rw ((bytes_eq-Decides e.ns e.ns).1 refl) refl

numbers_differ : (ns : List ℕ) (n : ℕ) (digest other : List ℕ) (before : List SpecElement) (e : SpecElement) → n < count_in_namespace ns before → is_same (ns, n, digest) (e.ns, count_in_namespace e.ns before, other) ≡ false
numbers_differ ns n digest other before e low = go (bytes_eq ns e.ns) refl where
  go : (b : Bool) → bytes_eq ns e.ns ≡ b → (b && n == count_in_namespace e.ns before) ≡ false
  go false h = refl
  go true h =
      let same : ns ≡ e.ns = (bytes_eq-Decides ns e.ns).0 h in
      let below : n < count_in_namespace e.ns before = subst (λ (s : List ℕ). n < count_in_namespace s before) same low in
      grind (arith, nat_tests)

none_same : (ns : List ℕ) (n : ℕ) (digest : List ℕ) (before es : List SpecElement) (salts : List (List ℕ)) → n < count_in_namespace ns before → list_any (is_same (ns, n, digest)) (entries_of (items_after before es salts)) ≡ false
none_same ns n digest before [] salts low = refl
none_same ns n digest before (e ∷ es) [] low = refl
none_same ns n digest before (e ∷ es) (s ∷ salts) low =
    let grown : n < count_in_namespace ns (before ++ e ∷ []) = omega (arith, low, number_both ns before (e ∷ [])) in
    rw (numbers_differ ns n digest _ before e low) (none_same ns n digest (before ++ e ∷ []) es salts grown)

pub once_after : (before es : List SpecElement) (salts : List (List ℕ)) → AreOnce (entries_of (items_after before es salts))
once_after before [] salts = tt
once_after before (e ∷ es) [] = tt
once_after before (e ∷ es) (s ∷ salts) =
    let grown : count_in_namespace e.ns before < count_in_namespace e.ns (before ++ e ∷ []) = omega (arith, number_both e.ns before (e ∷ []), number_own e) in
    (none_same e.ns (count_in_namespace e.ns before) (entry_of (issued_item before e s)).2 (before ++ e ∷ []) es salts grown, once_after (before ++ e ∷ []) es salts)

-- ---- namespaces

pub texts_after : (before es : List SpecElement) (salts : List (List ℕ)) → AreElements es → AreTexts (entries_of (items_after before es salts))
texts_after before [] salts all = tt
texts_after before (e ∷ es) [] all = tt
texts_after before (e ∷ es) (s ∷ salts) all =
    (ns_text e (All-head (λ (x : SpecElement). is_element x ≡ true) e es all), texts_after (before ++ e ∷ []) es salts (All-tail (λ (x : SpecElement). is_element x ≡ true) e es all))
