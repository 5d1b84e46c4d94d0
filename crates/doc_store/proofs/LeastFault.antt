-- The first of some faults is one of them, and none stands before it.
use Rattle.std.proofs.Common.{◌≡◌, ℕ, Bool, true, false, cond, List, [], ◌∷◌, Option, Some, None, refl, subst, arith}
use Rattle.std.specs.Prelude.{nat_lt, ◌==◌, ◌&&◌, ◌||◌, Contains}
use Rattle.std.specs.List.{AllByRecursion}
use Rattle.std.proofs.lemmas.List.Elements.{All-from_recursion, Contains-append_right}
use Rattle.doc_store.specs.declared.first_fault.Fault.{Fault}
use Rattle.doc_store.specs.Faults.{rank, is_before, earlier_fault, faults, first_fault, store_fault}
use Rattle.doc_store.specs.FirstOf.{IsFirst}
use Rattle.doc_store.proofs.FirstFaults.{before-not}

abbrev IsNotBefore : Fault → Fault → Type 0
IsNotBefore f g = is_before g f ≡ false

not_before_itself : (f : Fault) → IsNotBefore f f
not_before_itself f = itself f.at (rank f.check) where
  itself : (a r : ℕ) → (nat_lt a a || (a == a && nat_lt r r)) ≡ false
  itself a r = grind arith

not_after : (f g : Fault) → is_before g f ≡ true → IsNotBefore g f
not_after f g is = mapped g.at (rank g.check) f.at (rank f.check) is where
  mapped : (a r b s : ℕ) → (nat_lt a b || (a == b && nat_lt r s)) ≡ true → (nat_lt b a || (b == a && nat_lt s r)) ≡ false
  mapped a r b s e = grind arith

-- of what isn't before one, nothing is before another that the one isn't before
none_before : (f g : Fault) (fs : List Fault) → is_before g f ≡ false → AllByRecursion (IsNotBefore g) fs → AllByRecursion (IsNotBefore f) fs
none_before f g [] is all = tt
none_before f g (x ∷ xs) is all =
    (before-not x.at (rank x.check) g.at (rank g.check) f.at (rank f.check) all.0 is, none_before f g xs is all.1)

where_none : (f : Fault) (fs : List Fault) → first_fault fs ≡ None → AllByRecursion (IsNotBefore f) fs
where_none f [] e = tt
where_none f (x ∷ xs) e = never (first_fault xs) e where
  never : (o : Option Fault) → earlier_fault x o ≡ None → AllByRecursion (IsNotBefore f) (x ∷ xs)
  never None e = cc
  never (Some g) e = by (is_before g x) e where
    by : (b : Bool) → cond b (Some g) (Some x) ≡ None → AllByRecursion (IsNotBefore f) (x ∷ xs)
    by true e = cc
    by false e = cc

record Found (f : Fault) (fs : List Fault) : Type 0 where
  among : Contains fs f
  least : AllByRecursion (IsNotBefore f) fs

in_front : (f : Fault) (fs : List Fault) → Contains (f ∷ fs) f
in_front f fs = (0, omega arith, refl)

found-of : (f g : Fault) (fs : List Fault) → g ≡ f → Found g fs → Found f fs
found-of f g fs same all = subst (λ (h : Fault). Found h fs) same all

first-found : (fs : List Fault) (f : Fault) → first_fault fs ≡ Some f → Found f fs
first-found [] f e = cc
first-found (x ∷ xs) f e = go (first_fault xs) refl (first-found xs) e where
  go : (o : Option Fault) → first_fault xs ≡ o → ((g : Fault) → first_fault xs ≡ Some g → Found g xs) → earlier_fault x o ≡ Some f → Found f (x ∷ xs)
  go None none known e =
      let same : x ≡ f = cc in
      found-of f x (x ∷ xs) same (record { among = in_front x xs; least = (not_before_itself x, where_none x xs none) })
  go (Some g) some known e = by (is_before g x) refl e where
    by : (b : Bool) → is_before g x ≡ b → cond b (Some g) (Some x) ≡ Some f → Found f (x ∷ xs)
    by true is e =
        let same : g ≡ f = cc in
        let rest : Found g xs = known g some in
        found-of f g (x ∷ xs) same (record { among = Contains-append_right (x ∷ []) xs g rest.among; least = (not_after x g is, rest.least) })
    by false is e =
        let same : x ≡ f = cc in
        let rest : Found g xs = known g some in
        found-of f x (x ∷ xs) same (record { among = in_front x xs; least = (not_before_itself x, none_before x g xs is rest.least) })

first_is : (fs : List Fault) (f : Fault) → first_fault fs ≡ Some f → IsFirst f fs
first_is fs f e =
    let all = first-found fs f e in
    record { among = all.among; least = All-from_recursion (IsNotBefore f) fs all.least }

-- of the faults of a file
pub first_of_file : (bytes : List ℕ) (f : Fault) → store_fault bytes ≡ Some f → IsFirst f (faults bytes)
first_of_file bytes f e = first_is (faults bytes) f e
