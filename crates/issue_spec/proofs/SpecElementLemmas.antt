-- The elements of a copy with one element more, of which no check fails.
use Rattle.std.proofs.Common.{◌≡◌, ℕ, ◌+◌, ◌<◌, ◌≤◌, Bool, true, false, not, ◌&&◌, ◌||◌, List, [], ◌∷◌, ◌++◌, length, Option, Some, None, Decides, refl, sym, ◌∙◌, arith}
use Rattle.std.specs.Prelude.{nat_lt, nat_le, IsTrue}
use Rattle.std.specs.List.{All, list_any}
use Rattle.std.specs.Str.{bytes_eq}
use Rattle.std.proofs.lemmas.Bool.Decides.{nat_tests}
use Rattle.std.proofs.lemmas.List.{length-append}
use Rattle.std.proofs.lemmas.List.Elements.{All-nil, All-push}
use Rattle.std.proofs.lemmas.List.Folds.{list_any-append}
use Rattle.std.proofs.lemmas.Slice.Eq.{bytes_eq-Decides}
use Rattle.mdoc_outside.specs.declared.limit_name.LimitName.TheVariants.{Namespaces, Items, Value}
use Rattle.issue_spec.specs.SpecChecks.{fails_where, first_failed, is_bad_element, broken_row, element_checks}
use Rattle.issue_spec.specs.SpecFacts.{is_element, are_distinct, IsCopy}
use Rattle.issue_spec.specs.SpecNamespaces.{namespaces_of}
use Rattle.issue_spec.specs.SpecSoFar.{SoFar, are_complete, is_same_element, has_element}
use Rattle.issue_spec.specs.declared.spec_check.SpecCheck.{SpecCheck}
use Rattle.issue_spec.specs.declared.spec_check.SpecCheck.TheVariants as checks
use Rattle.issue_spec.specs.declared.spec_headers.SpecHeaders.{SpecHeaders}
use Rattle.issue_spec.specs.declared.spec_element.SpecElement.{SpecElement}

-- ---- no check fails

passed : (check : Option SpecCheck) (others : List (Option SpecCheck)) → first_failed (check ∷ others) ≡ None → (check ≡ None) × (first_failed others ≡ None)
passed None others e = (refl, e)
passed (Some failed) others e = absurd cc

passes : (test : Bool) (failed : SpecCheck) → fails_where test failed ≡ None → test ≡ false
passes true failed e = absurd cc
passes false failed e = refl

neither : (a b : Bool) → (a || b) ≡ false → (a ≡ false) × (b ≡ false)
neither true b h = absurd cc
neither false b h = (refl, h)

-- an element that isn't there, and for which there is room
pub record HasRoom (e : SpecElement) (elements : List SpecElement) : Type 0 where
  pub other : has_element elements e ≡ false
  pub namespaces : length (namespaces_of (elements ++ e ∷ [])) ≤ 16
  pub few : length elements < 512
  pub short : length e.value ≤ 262_144

at_most : (n m : ℕ) → nat_lt n m ≡ false → m ≤ n
at_most n m h = grind (arith, nat_tests)

below : (n m : ℕ) → nat_le n m ≡ false → m < n
below n m h = grind (arith, nat_tests)

room : (e : SpecElement) (so_far : SoFar) → first_failed (element_checks e so_far) ≡ None → HasRoom e so_far.elements
room e so_far none =
    let bad = passed (fails_where (is_bad_element e so_far) checks.Line) _ none in
    let row = passed (broken_row e) _ bad.1 in
    let spaces = passed (fails_where (nat_lt 16 (length (namespaces_of (so_far.elements ++ e ∷ [])))) (checks.Limit Namespaces 17)) _ row.1 in
    let items = passed (fails_where (nat_le 512 (length so_far.elements)) (checks.Limit Items 513)) _ spaces.1 in
    let value = passed (fails_where (nat_lt 262_144 (length e.value)) (checks.Limit Value (length e.value))) _ items.1 in
    record {
      other = (neither (not (are_complete so_far.headers)) (has_element so_far.elements e) (passes (is_bad_element e so_far) checks.Line bad.0)).1;
      namespaces = at_most 16 (length (namespaces_of (so_far.elements ++ e ∷ []))) (passes _ (checks.Limit Namespaces 17) spaces.0);
      few = below 512 (length so_far.elements) (passes _ (checks.Limit Items 513) items.0);
      short = at_most 262_144 (length e.value) (passes _ (checks.Limit Value (length e.value)) value.0);
    }

-- ---- no two are the same

apart : false ≡ true → ⊥
apart e = cc

same_both_ways : (a b : List ℕ) → bytes_eq a b ≡ bytes_eq b a
same_both_ways a b = both_ways (bytes_eq a b) (bytes_eq b a) (bytes_eq-Decides a b) (bytes_eq-Decides b a) where
  both_ways : (p q : Bool) → Decides p (a ≡ b) → Decides q (b ≡ a) → p ≡ q
  both_ways true true p q = refl
  both_ways true false p q = absurd (apart (q.1 (sym (p.0 refl))))
  both_ways false true p q = absurd (apart (p.1 (sym (q.0 refl))))
  both_ways false false p q = refl

same_element_both_ways : (a b : SpecElement) → is_same_element a b ≡ is_same_element b a
same_element_both_ways a b = rw (same_both_ways a.ns b.ns, same_both_ways a.name b.name) refl

not_true : (b : Bool) → not b ≡ true → b ≡ false
not_true true h = absurd cc
not_true false h = refl

both : (a b : Bool) → (a && b) ≡ true → (a ≡ true) × (b ≡ true)
both true b h = (refl, h)
both false b h = absurd cc

distinct_one_more : (elements : List SpecElement) (e : SpecElement) → are_distinct elements ≡ true → has_element elements e ≡ false →
    are_distinct (elements ++ e ∷ []) ≡ true
distinct_one_more [] e d h = refl
distinct_one_more (first ∷ elements) e d h =
    let parts = both (not (has_element elements first)) (are_distinct elements) d in
    let others = neither (is_same_element e first) (has_element elements e) h in
    let rest = distinct_one_more elements e parts.1 others.1 in
    let differs : is_same_element first e ≡ false = same_element_both_ways first e ∙ others.0 in
    let none : has_element (elements ++ e ∷ []) first ≡ false =
    list_any-append (is_same_element first) elements (e ∷ []) ∙ rw (not_true _ parts.0, differs) refl in
    rw (none, rest) refl

-- ---- the elements of a copy

pub nothing_is_copy : IsCopy []
nothing_is_copy = record { each = All-nil (λ e. IsTrue (is_element e)); few = omega arith; namespaces = omega arith; distinct = refl; short = All-nil (λ e. length e.value ≤ 262_144) }

pub one_more_is_copy : (e : SpecElement) (headers : SpecHeaders) (elements : List SpecElement) → IsCopy elements → IsTrue (is_element e) →
    first_failed (element_checks e (record { headers = headers; elements = elements })) ≡ None → IsCopy (elements ++ e ∷ [])
one_more_is_copy e headers elements copy is none =
    let has = room e (record { headers = headers; elements = elements }) none in
    record {
      each = All-push (λ e. IsTrue (is_element e)) elements e copy.each is;
      few = omega (arith, has.few, length-append elements (e ∷ []));
      namespaces = has.namespaces;
      distinct = distinct_one_more elements e copy.distinct has.other;
      short = All-push (λ e. length e.value ≤ 262_144) elements e copy.short has.short;
    }
