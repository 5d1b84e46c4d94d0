-- The wishes that open a namespace: one for each namespace.
use Rattle.std.proofs.Common.{◌≡◌, ◌≤◌, ℕ, suc, Bool, true, false, ◌||◌, if◌then◌else◌, List, [], ◌∷◌, ◌++◌, length, refl, sym, ap, ◌∙◌, subst, arith}
use Rattle.std.specs.List.{AllByRecursion, list_any}
use Rattle.std.specs.Str.{bytes_eq}
use Rattle.std.proofs.lemmas.Slice.Eq.{bytes_eq-Decides}
use Rattle.doc_request.specs.declared.wish_draft.WishDraft.{WishDraft}
use Rattle.doc_request.specs.Written.{is_in, openers}

abbrev pub Wishes : Type 0
Wishes = List WishDraft

pub same : (a b : List ℕ) → bytes_eq a b ≡ true → a ≡ b
same a b e = (bytes_eq-Decides a b).0 e

pub itself : (a : List ℕ) → bytes_eq a a ≡ true
itself a = (bytes_eq-Decides a a).1 refl

-- whether one of the wishes is in the namespace
abbrev pub has_space : List ℕ → Wishes → Bool
has_space ns wishes = list_any (is_in ns) wishes

pub any-joined : {A : Type 0} (test : A → Bool) (xs ys : List A) → list_any test (xs ++ ys) ≡ list_any test xs || list_any test ys
any-joined test [] ys = refl
any-joined test (x ∷ xs) ys = rw (any-joined test xs ys) (elim (test x) as (λ b. (b || (list_any test xs || list_any test ys)) ≡ ((b || list_any test xs) || list_any test ys)) [
  | true ↦ refl
  | false ↦ refl
])

pub or-true : (b : Bool) → (b || true) ≡ true
or-true true = refl
or-true false = refl

pub openers-few : (before wishes : Wishes) → length (openers before wishes) ≤ length wishes
openers-few before [] = omega arith
openers-few before (w ∷ ws) = let few = openers-few (before ++ w ∷ []) ws in elim (has_space w.ns before) as (λ b. length (if b then openers (before ++ w ∷ []) ws else w ∷ openers (before ++ w ∷ []) ws) ≤ suc (length ws)) [
  | true ↦ omega arith
  | false ↦ omega arith
]

-- what holds of each wish holds of each of them
pub openers-all : (P : WishDraft → Type 0) (before wishes : Wishes) → AllByRecursion P wishes → AllByRecursion P (openers before wishes)
openers-all P before [] all = tt
openers-all P before (w ∷ ws) all = let later = openers-all P (before ++ w ∷ []) ws all.1 in elim (has_space w.ns before) as (λ b. AllByRecursion P (if b then openers (before ++ w ∷ []) ws else w ∷ openers (before ++ w ∷ []) ws)) [
  | true ↦ later
  | false ↦ (all.0, later)
]

pub still : (ns : List ℕ) (before : Wishes) (w : WishDraft) → has_space ns before ≡ true → has_space ns (before ++ w ∷ []) ≡ true
still ns before w e = any-joined (is_in ns) before (w ∷ []) ∙ rw e refl

now : (before : Wishes) (w : WishDraft) → has_space w.ns (before ++ w ∷ []) ≡ true
now before w = any-joined (is_in w.ns) before (w ∷ []) ∙ rw (itself w.ns) (or-true (has_space w.ns before))

-- a namespace of an earlier wish isn't opened again
gone : (ns : List ℕ) (before wishes : Wishes) → has_space ns before ≡ true → has_space ns (openers before wishes) ≡ false
gone ns before [] e = refl
gone ns before (w ∷ ws) e = go (gone ns (before ++ w ∷ []) ws (still ns before w e)) (has_space w.ns before) refl where
  differs : has_space w.ns before ≡ false → (b : Bool) → bytes_eq w.ns ns ≡ b → b ≡ false
  differs none false is = refl
  differs none true is = let own : has_space w.ns before ≡ true = subst (λ (n : List ℕ). has_space n before ≡ true) (sym (same w.ns ns is)) e in let clash : true ≡ false = sym own ∙ none in absurd (cc)

  go : has_space ns (openers (before ++ w ∷ []) ws) ≡ false → (b : Bool) → has_space w.ns before ≡ b → has_space ns (if b then openers (before ++ w ∷ []) ws else w ∷ openers (before ++ w ∷ []) ws) ≡ false
  go later true is = later
  go later false is = rw (differs is (bytes_eq w.ns ns) refl) later

abbrev pub AreOnce : Wishes → Type 0
AreOnce [] = Unit {0}
AreOnce (o ∷ os) = (has_space o.ns os ≡ false) × AreOnce os

pub openers-once : (before wishes : Wishes) → AreOnce (openers before wishes)
openers-once before [] = tt
openers-once before (w ∷ ws) = let later = openers-once (before ++ w ∷ []) ws in elim (has_space w.ns before) as (λ b. AreOnce (if b then openers (before ++ w ∷ []) ws else w ∷ openers (before ++ w ∷ []) ws)) [
  | true ↦ later
  | false ↦ (gone w.ns (before ++ w ∷ []) ws (now before w), later)
]

-- each wish is in a namespace of the wishes
own-after : (front wishes : Wishes) → AllByRecursion (λ w. has_space w.ns (front ++ wishes) ≡ true) wishes
own-after front [] = tt
own-after front (w ∷ ws) =
    let later : AllByRecursion (λ v. has_space v.ns (front ++ w ∷ ws) ≡ true) ws = subst (λ (all : Wishes). AllByRecursion (λ v. has_space v.ns all ≡ true) ws) (assoc front w ws) (own-after (front ++ w ∷ []) ws) in
    (any-joined (is_in w.ns) front (w ∷ ws) ∙ rw (itself w.ns) (or-true (has_space w.ns front)), later) where
      assoc : (xs : Wishes) (x : WishDraft) (ys : Wishes) → (xs ++ x ∷ []) ++ ys ≡ xs ++ x ∷ ys
      assoc [] x ys = refl
      assoc (y ∷ xs) x ys = ap (λ (zs : Wishes). y ∷ zs) (assoc xs x ys)

pub own : (wishes : Wishes) → AllByRecursion (λ w. has_space w.ns wishes ≡ true) wishes
own wishes = own-after [] wishes
