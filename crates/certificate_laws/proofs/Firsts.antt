-- Which fault is reported, of all that there are.
use Rattle.std.proofs.Common.{◌≡◌, ◌⊎◌, ℕ, zero, suc, ◌<◌, refl, sym, ap, ◌∙◌, subst, arith, inl, inr, Bool, true, false, if◌then◌else◌, List, [], ◌∷◌, ◌++◌, length, Contains, slice_index_or, nat_lt, ◌==◌, ◌&&◌, ◌||◌, Option, Some, None, is_some, Result, Ok, Err}
use Rattle.std.specs.List.{AllByRecursion}
use Rattle.std.proofs.lemmas.List.Elements.{All-from_recursion, All-contains, Contains-append_right}
use Rattle.mdoc_outside.specs.ResultSteps.{◌>>=◌, or_fault}
use Rattle.mdoc_outside.specs.ListSteps.{unless}
use Rattle.cert_view.specs.declared.cert_check.CertCheck.{CertCheck}
use Rattle.cert_view.specs.declared.cert_check.CertCheck.TheVariants.{Der, Shape, VersionNot3, Algorithm, Time, KeyKind, Signature, Extension}
use Rattle.cert_view.specs.declared.cert_fault.CertFault.{CertFault}
use Rattle.cert_view.specs.Faults.{rank, is_before, both}
use Rattle.certificate_laws.specs.Faults.{then_faults, faults_in, IsFirst}

-- ---- one of a list

abbrev pub In : CertFault → List CertFault → Type 0
In f [] = ⊥
In f (g ∷ gs) = (g ≡ f) ⊎ In f gs

pub in-left : (f : CertFault) (xs ys : List CertFault) → In f xs → In f (xs ++ ys)
in-left f [] ys i = absurd i
in-left f (x ∷ xs) ys (inl e) = inl e
in-left f (x ∷ xs) ys (inr i) = inr (in-left f xs ys i)

pub in-right : (f : CertFault) (xs ys : List CertFault) → In f ys → In f (xs ++ ys)
in-right f [] ys i = i
in-right f (x ∷ xs) ys i = inr (in-right f xs ys i)

pub in-cases : (f : CertFault) (xs ys : List CertFault) → In f (xs ++ ys) → In f xs ⊎ In f ys
in-cases f [] ys i = inr i
in-cases f (x ∷ xs) ys (inl e) = inl (inl e)
in-cases f (x ∷ xs) ys (inr i) = elim (in-cases f xs ys i) [ inl h ↦ inl (inr h) | inr h ↦ inr h ]

in-contains : (f : CertFault) (fs : List CertFault) → In f fs → Contains fs f
in-contains f [] i = absurd i
in-contains f (g ∷ gs) (inl e) = (0, omega arith, e)
in-contains f (g ∷ gs) (inr i) = Contains-append_right (g ∷ []) gs f (in-contains f gs i)

contains-in-at : (f : CertFault) (fs : List CertFault) (k : ℕ) → k < length fs → slice_index_or fs k f ≡ f → In f fs
contains-in-at f [] k l e = absurd (omega arith)
contains-in-at f (g ∷ gs) zero l e = inl e
contains-in-at f (g ∷ gs) (suc k) l e = inr (contains-in-at f gs k (omega arith) e)

each-in : (P : CertFault → Type 0) (fs : List CertFault) → ((g : CertFault) → In g fs → P g) → AllByRecursion P fs
each-in P [] all = tt
each-in P (g ∷ gs) all = (all g (inl refl), each-in P gs (λ h i. all h (inr i)))

-- ---- the order

abbrev before : ℕ → ℕ → ℕ → ℕ → Bool
before r a s b = nat_lt r s || ((r == s) && nat_lt a b)

pub not-itself : (f : CertFault) → is_before f f ≡ false
not-itself f = itself (rank f.check) f.at where
  itself : (r a : ℕ) → before r a r a ≡ false
  itself r a = grind arith

-- what is not before one that is not before another
pub before-not : (x g f : CertFault) → is_before x g ≡ false → is_before g f ≡ false → is_before x f ≡ false
before-not x g f one other = chain (rank x.check) x.at (rank g.check) g.at (rank f.check) f.at one other where
  chain : (r a s b t c : ℕ) → before r a s b ≡ false → before s b t c ≡ false → before r a t c ≡ false
  chain r a s b t c one other = grind arith

-- what is not before one is not before what is before that one
pub not-before-less : (x f g : CertFault) → is_before x f ≡ false → is_before g f ≡ true → is_before x g ≡ false
not-before-less x f g one other = chain (rank x.check) x.at (rank f.check) f.at (rank g.check) g.at one other where
  chain : (r a s b t c : ℕ) → before r a s b ≡ false → before t c s b ≡ true → before r a t c ≡ false
  chain r a s b t c one other = grind arith

check_of : ℕ → CertCheck
check_of zero = Der
check_of (suc zero) = Shape
check_of (suc (suc zero)) = VersionNot3
check_of (suc (suc (suc zero))) = Algorithm
check_of (suc (suc (suc (suc zero)))) = Time
check_of (suc (suc (suc (suc (suc zero))))) = KeyKind
check_of (suc (suc (suc (suc (suc (suc zero)))))) = Signature
check_of (suc (suc (suc (suc (suc (suc (suc n))))))) = Extension

check-back : (check : CertCheck) → check_of (rank check) ≡ check
unfolding check_of
check-back Der = refl
check-back Shape = refl
check-back VersionNot3 = refl
check-back Algorithm = refl
check-back Time = refl
check-back KeyKind = refl
check-back Signature = refl
check-back Extension = refl

same-place : (f g : CertFault) → is_before f g ≡ false → is_before g f ≡ false → f ≡ g
same-place f g one other =
    let both = both-same (rank f.check) f.at (rank g.check) g.at one other in
    let checks : f.check ≡ g.check = sym (check-back f.check) ∙ ap check_of both.0 ∙ check-back g.check in
    let make : CertCheck → ℕ → CertFault = λ check at. record { check = check; at = at } in
    ap (λ (check : CertCheck). make check f.at) checks ∙ ap (make g.check) both.1
  where
    both-same : (r a s b : ℕ) → before r a s b ≡ false → before s b r a ≡ false → (r ≡ s) × (a ≡ b)
    both-same r a s b one other = (same-rank r a s b one other, same-at r a s b one other) where
      same-rank : (r a s b : ℕ) → before r a s b ≡ false → before s b r a ≡ false → r ≡ s
      same-rank r a s b one other = grind arith

      same-at : (r a s b : ℕ) → before r a s b ≡ false → before s b r a ≡ false → a ≡ b
      same-at r a s b one other = grind arith

-- ---- what is reported

pub record IsLeast (f : CertFault) (fs : List CertFault) : Type 0 where
  pub among : In f fs
  pub least : (g : CertFault) → In g fs → is_before g f ≡ false

-- a value where nothing is wrong, else the first fault
abbrev pub Reports : {A : Type 0} → Result A CertFault → List CertFault → Type 0
Reports (Ok x) fs = (g : CertFault) → In g fs → ⊥
Reports (Err f) fs = IsLeast f fs

pub least-one : (f : CertFault) → IsLeast f (f ∷ [])
least-one f = record { among = inl refl; least = only } where
  only : (g : CertFault) → In g (f ∷ []) → is_before g f ≡ false
  only g (inl e) = subst (λ (h : CertFault). is_before h f ≡ false) e (not-itself f)
  only g (inr i) = absurd i

-- the same faults in another order
pub reports-same : {A : Type 0} (r : Result A CertFault) (fs gs : List CertFault) → ((g : CertFault) → In g fs → In g gs) → ((g : CertFault) → In g gs → In g fs) → Reports r fs → Reports r gs
reports-same (Ok x) fs gs to from t = λ g i. t g (from g i)
reports-same (Err f) fs gs to from t = record { among = to f t.among; least = λ g i. t.least g (from g i) }

pub unless-reports : {A : Type 0} (b : Bool) (x : A) (f : CertFault) → Reports (if b then Ok x else Err f) (unless b f)
unless-reports true x f = λ g i. i
unless-reports false x f = least-one f

pub or_fault-reports : {A : Type 0} (f : CertFault) (o : Option A) → Reports (or_fault f o) (unless (is_some o) f)
or_fault-reports f (Some x) = λ g i. i
or_fault-reports f None = least-one f

pub both-reports : {A B : Type 0} (r : Result A CertFault) (s : Result B CertFault) (fs gs : List CertFault) → Reports r fs → Reports s gs → Reports (both r s) (fs ++ gs)
both-reports (Ok a) (Ok b) fs gs x y = λ g i. elim (in-cases g fs gs i) [ inl h ↦ x g h | inr h ↦ y g h ]
both-reports (Ok a) (Err f) fs gs x y = record {
  among = in-right f fs gs y.among;
  least = λ g i. elim (in-cases g fs gs i) [ inl h ↦ absurd (x g h) | inr h ↦ y.least g h ];
}
both-reports (Err f) (Ok b) fs gs x y = record {
  among = in-left f fs gs x.among;
  least = λ g i. elim (in-cases g fs gs i) [ inl h ↦ x.least g h | inr h ↦ absurd (y g h) ];
}
both-reports (Err f) (Err h) fs gs x y = go (is_before h f) refl where
  go : (b : Bool) → is_before h f ≡ b → IsLeast (if b then h else f) (fs ++ gs)
  go true is = record {
    among = in-right h fs gs y.among;
    least = λ g i. elim (in-cases g fs gs i) [ inl k ↦ not-before-less g f h (x.least g k) is | inr k ↦ y.least g k ];
  }
  go false is = record {
    among = in-left f fs gs x.among;
    least = λ g i. elim (in-cases g fs gs i) [ inl k ↦ x.least g k | inr k ↦ before-not g h f (y.least g k) is ];
  }

pub then-reports : {A B : Type 0} (r : Result A CertFault) (step : A → Result B CertFault) (fs gs : List CertFault) → Reports r fs → ((x : A) → r ≡ Ok x → Reports (step x) gs) → Reports (r >>= step) (then_faults fs gs)
then-reports (Ok x) step [] gs t next = next x refl
then-reports (Ok x) step (f ∷ fs) gs t next = absurd (t f (inl refl))
then-reports (Err f) step [] gs t next = absurd t.among
then-reports (Err f) step (g ∷ fs) gs t next = t

pub mapped-reports : {A B : Type 0} (r : Result A CertFault) (f : A → B) (fs : List CertFault) → Reports r fs → Reports (r >>= λ (x : A). Ok (f x)) fs
mapped-reports (Ok x) f fs t = t
mapped-reports (Err g) f fs t = t

pub in-reports : {A B : Type 0} (f : CertFault) (o : Option A) (inside : A → Result B CertFault) (faults : A → List CertFault) → ((x : A) → o ≡ Some x → Reports (inside x) (faults x)) → Reports (or_fault f o >>= inside) (faults_in f faults o)
in-reports f None inside faults each = least-one f
in-reports f (Some x) inside faults each = each x refl

-- ---- the first

pub least-first : (f : CertFault) (fs : List CertFault) → IsLeast f fs → IsFirst f fs
least-first f fs t =
    let P : CertFault → Type 0 = λ g. is_before g f ≡ false in
    record { among = in-contains f fs t.among; least = All-from_recursion P fs (each-in P fs t.least) }

pub first-least : {A : Type 0} (r : Result A CertFault) (f : CertFault) (fs : List CertFault) → Reports r fs → IsFirst f fs → r ≡ Err f
first-least (Ok x) f fs t first =
    let c = first.among in
    absurd (t f (contains-in-at f fs c.0 c.1 c.2))
first-least (Err g) f fs t first =
    let c = first.among in
    let P : CertFault → Type 0 = λ h. is_before h f ≡ false in
    let one = t.least f (contains-in-at f fs c.0 c.1 c.2) in
    let other = All-contains P fs g first.least (in-contains g fs t.among) in
    ap Err (same-place g f other one)
