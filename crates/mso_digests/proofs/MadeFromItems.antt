-- Digests of items, grouped by namespace, are those of the items and of no others.
use Rattle.std.proofs.Common.{◌≡◌, ◌⊎◌, inl, inr, ◌||◌, if◌then◌else◌, Bool, true, false, ℕ, List, [], ◌∷◌, ◌++◌, refl, sym, ap, ◌∙◌, subst}
use Rattle.std.specs.Prelude.{flat_map, map}
use Rattle.std.specs.List.{AllByRecursion}
use Rattle.std.specs.Str.{bytes_eq}
use Rattle.std.proofs.lemmas.Slice.Eq.{bytes_eq-Decides}
use Rattle.mso_digests.specs.Digests.{Digest}
use Rattle.mso_digests.specs.MadeFrom.{Placed, IsDigestOf, SomeOf, Lists, Covers, AreDigestsOf}
use Rattle.mso_digests.specs.Written.{Entry, is_of, has_namespace, group, namespaces_after, namespaces, listed, grouped}
use Rattle.mso_digests.proofs.WrittenDigests.{group-all, any-joined}

-- ---- each digest is that of an item

all-joined : {A : Type 0} (P : A → Type 0) (xs ys : List A) → AllByRecursion P xs → AllByRecursion P ys → AllByRecursion P (xs ++ ys)
all-joined P [] ys a b = b
all-joined P (x ∷ xs) ys a b = (a.0, all-joined P xs ys a.1 b)

all-groups : (P : Entry → Type 0) (ds : List Entry) (names : List (List ℕ)) → AllByRecursion P ds → AllByRecursion P (flat_map (λ n. group n ds) names)
all-groups P ds [] all = tt
all-groups P ds (n ∷ ns) all = all-joined P (group n ds) (flat_map (λ n. group n ds) ns) (group-all P n ds all) (all-groups P ds ns all)

all-listed : (P : Digest → Type 0) (es : List Entry) → AllByRecursion (λ e. P (listed e)) es → AllByRecursion P (map listed es)
all-listed P [] all = tt
all-listed P (e ∷ es) all = (all.0, all-listed P es all.1)

later : (p : Placed) (ps : List Placed) (es : List Entry) → AllByRecursion (λ e. SomeOf (IsDigestOf (listed e)) ps) es → AllByRecursion (λ e. SomeOf (IsDigestOf (listed e)) (p ∷ ps)) es
later p ps [] all = tt
later p ps (e ∷ es) all = (inr all.0, later p ps es all.1)

each-listed : (ds : List Entry) (ps : List Placed) → AreDigestsOf ds ps → AllByRecursion (λ e. SomeOf (IsDigestOf (listed e)) ps) ds
each-listed [] [] are = tt
each-listed [] (p ∷ ps) are = absurd are
each-listed (d ∷ ds) [] are = absurd are
each-listed (d ∷ ds) (p ∷ ps) are = (inl are.0, later p ps ds (each-listed ds ps are.1))

pub lists-items : (ds : List Entry) (ps : List Placed) → AreDigestsOf ds ps → Lists (grouped ds) ps
lists-items ds ps are = all-listed (λ d. SomeOf (IsDigestOf d) ps) (flat_map (λ n. group n ds) (namespaces ds)) (all-groups (λ e. SomeOf (IsDigestOf (listed e)) ps) ds (namespaces ds) (each-listed ds ps are))

-- ---- each item has its digest

abbrev In : {A : Type 0} → A → List A → Type 0
In x xs = SomeOf (λ y. y ≡ x) xs

in-front : {A : Type 0} (x : A) (xs ys : List A) → In x xs → In x (xs ++ ys)
in-front x [] ys i = absurd i
in-front x (z ∷ xs) ys (inl e) = inl e
in-front x (z ∷ xs) ys (inr i) = inr (in-front x xs ys i)

in-after : {A : Type 0} (x : A) (xs ys : List A) → In x ys → In x (xs ++ ys)
in-after x [] ys i = i
in-after x (z ∷ xs) ys i = inr (in-after x xs ys i)

in-group : (e : Entry) (ds : List Entry) → In e ds → In e (group e.0 ds)
in-group e [] i = absurd i
in-group e (d ∷ ds) (inl is) = subst (λ b. In e (if b then d ∷ group e.0 ds else group e.0 ds)) (sym ((bytes_eq-Decides d.0 e.0).1 (ap (λ (x : Entry). x.0) is))) (inl is)
in-group e (d ∷ ds) (inr i) = elim (bytes_eq d.0 e.0) as (λ b. In e (if b then d ∷ group e.0 ds else group e.0 ds)) [
  | true ↦ inr (in-group e ds i)
  | false ↦ in-group e ds i
]

in-groups : (e : Entry) (ds : List Entry) (names : List (List ℕ)) → In e ds → In e.0 names → In e (flat_map (λ n. group n ds) names)
in-groups e ds [] i j = absurd j
in-groups e ds (n ∷ ns) i (inl is) = in-front e (group n ds) (flat_map (λ n. group n ds) ns) (subst (λ (x : List ℕ). In e (group x ds)) (sym is) (in-group e ds i))
in-groups e ds (n ∷ ns) i (inr j) = in-after e (group n ds) (flat_map (λ n. group n ds) ns) (in-groups e ds ns i j)

either-true : (a b : Bool) → (a || b) ≡ true → (a ≡ true) ⊎ (b ≡ true)
either-true true b e = inl refl
either-true false b e = inr e

drop-false : (b : Bool) → (b || false) ≡ true → b ≡ true
drop-false true e = refl
drop-false false e = e

-- the namespace of a digest is of one before it or among those after
named : (e : Entry) (before ds : List Entry) → In e ds → (has_namespace e.0 before ≡ true) ⊎ In e.0 (namespaces_after before ds)
named e before [] i = absurd i
named e before (d ∷ ds) (inl is) = go (has_namespace d.0 before) refl where
  name : d.0 ≡ e.0
  name = ap (λ (x : Entry). x.0) is

  go : (b : Bool) → has_namespace d.0 before ≡ b → (has_namespace e.0 before ≡ true) ⊎ In e.0 (if b then namespaces_after (before ++ d ∷ []) ds else d.0 ∷ namespaces_after (before ++ d ∷ []) ds)
  go true has = inl (subst (λ (n : List ℕ). has_namespace n before ≡ true) name has)
  go false has = inr (inl name)
named e before (d ∷ ds) (inr i) = go (has_namespace d.0 before) refl (named e (before ++ d ∷ []) ds i) where
  own : has_namespace e.0 (before ++ d ∷ []) ≡ true → (has_namespace e.0 before ≡ true) ⊎ (bytes_eq d.0 e.0 ≡ true)
  own has = last (either-true (has_namespace e.0 before) (has_namespace e.0 (d ∷ [])) (sym (any-joined (is_of e.0) before (d ∷ [])) ∙ has)) where
    last : (has_namespace e.0 before ≡ true) ⊎ ((bytes_eq d.0 e.0 || false) ≡ true) → (has_namespace e.0 before ≡ true) ⊎ (bytes_eq d.0 e.0 ≡ true)
    last (inl a) = inl a
    last (inr b) = inr (drop-false (bytes_eq d.0 e.0) b)

  here : (b : Bool) → has_namespace d.0 before ≡ b → (has_namespace e.0 before ≡ true) ⊎ (bytes_eq d.0 e.0 ≡ true) → (has_namespace e.0 before ≡ true) ⊎ In e.0 (if b then namespaces_after (before ++ d ∷ []) ds else d.0 ∷ namespaces_after (before ++ d ∷ []) ds)
  here b has (inl a) = inl a
  here true has (inr same) = inl (subst (λ (n : List ℕ). has_namespace n before ≡ true) ((bytes_eq-Decides d.0 e.0).0 same) has)
  here false has (inr same) = inr (inl ((bytes_eq-Decides d.0 e.0).0 same))

  go : (b : Bool) → has_namespace d.0 before ≡ b → (has_namespace e.0 (before ++ d ∷ []) ≡ true) ⊎ In e.0 (namespaces_after (before ++ d ∷ []) ds) → (has_namespace e.0 before ≡ true) ⊎ In e.0 (if b then namespaces_after (before ++ d ∷ []) ds else d.0 ∷ namespaces_after (before ++ d ∷ []) ds)
  go b has (inl before_too) = here b has (own before_too)
  go true has (inr among) = inr among
  go false has (inr among) = inr (inr among)

in-namespaces : (e : Entry) (ds : List Entry) → In e ds → In e.0 (namespaces ds)
in-namespaces e ds i = go (named e [] ds i) where
  go : (false ≡ true) ⊎ In e.0 (namespaces ds) → In e.0 (namespaces ds)
  go (inl e) = absurd (cc)
  go (inr among) = among

some-listed : (P : Digest → Type 0) (e : Entry) (es : List Entry) → In e es → P (listed e) → SomeOf P (map listed es)
some-listed P e [] i p = absurd i
some-listed P e (x ∷ es) (inl is) p = inl (subst (λ (y : Entry). P (listed y)) (sym is) p)
some-listed P e (x ∷ es) (inr i) p = inr (some-listed P e es i p)

covered : (all ds : List Entry) (ps : List Placed) → ((e : Entry) → In e ds → In e all) → AreDigestsOf ds ps → Covers (grouped all) ps
covered all [] [] within are = tt
covered all [] (p ∷ ps) within are = absurd are
covered all (d ∷ ds) [] within are = absurd are
covered all (d ∷ ds) (p ∷ ps) within are =
    let i = within d (inl refl) in (
      some-listed (λ x. IsDigestOf x p) d (flat_map (λ n. group n all) (namespaces all)) (in-groups d all (namespaces all) i (in-namespaces d all i)) are.0,
      covered all ds ps (λ e j. within e (inr j)) are.1,
    )

pub covers-items : (ds : List Entry) (ps : List Placed) → AreDigestsOf ds ps → Covers (grouped ds) ps
covers-items ds ps are = covered ds ds ps (λ e i. i) are
