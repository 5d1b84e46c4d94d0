-- What holds of the items of a copy holds of them by their namespaces.
use Rattle.std.proofs.Common.{◌≡◌, ℕ, Bool, true, false, not, cond, inl, inr, List, [], ◌∷◌, ◌++◌, map, refl, sym, ap, subst, ◌∙◌}
use Rattle.std.specs.Prelude.{filter}
use Rattle.std.specs.List.{AllByRecursion, flat_map}
use Rattle.std.specs.Str.{bytes_eq}
use Rattle.std.proofs.lemmas.Slice.Eq.{bytes_eq-Decides}
use Rattle.doc_response.specs.Answered.{distinct_texts, of_namespace}
use Rattle.doc_response.specs.WrittenReads.{regrouped, spread_group}
use Rattle.mso_digests.specs.Digests.{Digest}
use Rattle.mso_digests.specs.MadeFrom.{IsDigestOf, MadeFrom, SomeOf}
use Rattle.mso_digests.specs.Object.{Object}
use Rattle.package_laws.proofs.CopiesStored.{weaker}

abbrev Pair : Type 0
Pair = List ℕ × List ℕ

same-text : (a b : List ℕ) → bytes_eq a b ≡ true → a ≡ b
same-text a b e = (bytes_eq-Decides a b).0 e

own-text : (a b : List ℕ) → a ≡ b → bytes_eq a b ≡ true
own-text a b e = (bytes_eq-Decides a b).1 e

-- ---- all of them

all-both : {A : Type 0} (Q : A → Type 0) (xs ys : List A) → AllByRecursion Q xs → AllByRecursion Q ys → AllByRecursion Q (xs ++ ys)
all-both Q [] ys all rest = rest
all-both Q (x ∷ xs) ys all rest = (all.0, all-both Q xs ys all.1 rest)

all-spread : (Q : Pair → Type 0) (ns : List ℕ) (pairs : List Pair) → AllByRecursion Q pairs → AllByRecursion Q (spread_group (of_namespace pairs ns))
all-spread Q ns [] all = tt
all-spread Q ns ((name, raw) ∷ pairs) all = go (bytes_eq name ns) refl (all-spread Q ns pairs all.1) where
  kept : List Pair
  kept = filter (λ (pair : Pair). bytes_eq pair.0 ns) pairs

  spread : List Pair → List Pair
  spread ps = map (λ (r : List ℕ). (ns, r)) (map (λ (pair : Pair). pair.1) ps)

  go : (b : Bool) → bytes_eq name ns ≡ b → AllByRecursion Q (spread kept) → AllByRecursion Q (spread (cond b ((name, raw) ∷ kept) kept))
  go true is rest = (subst (λ (x : List ℕ). Q (x, raw)) (same-text name ns is) all.0, rest)
  go false is rest = rest

all-of : (Q : Pair → Type 0) (pairs : List Pair) (ts : List (List ℕ)) → AllByRecursion Q pairs → AllByRecursion Q (flat_map spread_group (map (of_namespace pairs) ts))
all-of Q pairs [] all = tt
all-of Q pairs (t ∷ ts) all = all-both Q (spread_group (of_namespace pairs t)) (flat_map spread_group (map (of_namespace pairs) ts)) (all-spread Q t pairs all) (all-of Q pairs ts all)

regrouped-all : (Q : Pair → Type 0) (pairs : List Pair) → AllByRecursion Q pairs → AllByRecursion Q (regrouped pairs)
regrouped-all Q pairs all = all-of Q pairs (distinct_texts (map (λ (pair : Pair). pair.0) pairs)) all

-- ---- one of them

some-front : {A : Type 0} (P : A → Type 0) (xs ys : List A) → SomeOf P xs → SomeOf P (xs ++ ys)
some-front P [] ys some = absurd some
some-front P (x ∷ xs) ys (inl holds) = inl holds
some-front P (x ∷ xs) ys (inr rest) = inr (some-front P xs ys rest)

some-after : {A : Type 0} (P : A → Type 0) (xs ys : List A) → SomeOf P ys → SomeOf P (xs ++ ys)
some-after P [] ys some = some
some-after P (x ∷ xs) ys some = inr (some-after P xs ys some)

abbrev IsIn : (Pair → Type 0) → List ℕ → Pair → Type 0
IsIn P ns pair = P pair × (pair.0 ≡ ns)

abbrev Is : List ℕ → List ℕ → Type 0
Is ns t = t ≡ ns

some-spread : (P : Pair → Type 0) (ns : List ℕ) (pairs : List Pair) → SomeOf (IsIn P ns) pairs → SomeOf P (spread_group (of_namespace pairs ns))
some-spread P ns [] some = absurd some
some-spread P ns ((name, raw) ∷ pairs) some = go (bytes_eq name ns) refl (some-spread P ns pairs) some where
  kept : List Pair
  kept = filter (λ (pair : Pair). bytes_eq pair.0 ns) pairs

  spread : List Pair → List Pair
  spread ps = map (λ (r : List ℕ). (ns, r)) (map (λ (pair : Pair). pair.1) ps)

  go : (b : Bool) → bytes_eq name ns ≡ b → (SomeOf (IsIn P ns) pairs → SomeOf P (spread kept)) → SomeOf (IsIn P ns) ((name, raw) ∷ pairs) → SomeOf P (spread (cond b ((name, raw) ∷ kept) kept))
  go true is more (inl holds) = inl (subst (λ (x : List ℕ). P (x, raw)) holds.1 holds.0)
  go false is more (inl holds) = absurd (let own = own-text name ns holds.1 in cc)
  go true is more (inr rest) = inr (more rest)
  go false is more (inr rest) = more rest

some-of : (P : Pair → Type 0) (pairs : List Pair) (ts : List (List ℕ)) (ns : List ℕ) → SomeOf (Is ns) ts → SomeOf (IsIn P ns) pairs → SomeOf P (flat_map spread_group (map (of_namespace pairs) ts))
some-of P pairs [] ns named some = absurd named
some-of P pairs (t ∷ ts) ns (inl same) some =
    some-front P (spread_group (of_namespace pairs t)) (flat_map spread_group (map (of_namespace pairs) ts))
    (some-spread P t pairs (subst (λ (x : List ℕ). SomeOf (IsIn P x) pairs) (sym same) some))
some-of P pairs (t ∷ ts) ns (inr rest) some =
    some-after P (spread_group (of_namespace pairs t)) (flat_map spread_group (map (of_namespace pairs) ts)) (some-of P pairs ts ns rest some)

some-kept : (text ns : List ℕ) (ts : List (List ℕ)) → bytes_eq text ns ≡ false → SomeOf (Is ns) ts → SomeOf (Is ns) (filter (λ (other : List ℕ). not (bytes_eq text other)) ts)
some-kept text ns [] other some = absurd some
some-kept text ns (t ∷ ts) other some = go (bytes_eq text t) refl (some-kept text ns ts other) some where
  rest_kept : List (List ℕ)
  rest_kept = filter (λ (x : List ℕ). not (bytes_eq text x)) ts

  go : (b : Bool) → bytes_eq text t ≡ b → (SomeOf (Is ns) ts → SomeOf (Is ns) rest_kept) → SomeOf (Is ns) (t ∷ ts) → SomeOf (Is ns) (cond (not b) (t ∷ rest_kept) rest_kept)
  go true is more (inl same) = absurd (let both : bytes_eq text ns ≡ true = ap (bytes_eq text) (sym same) ∙ is in cc)
  go false is more (inl same) = inl same
  go true is more (inr rest) = more rest
  go false is more (inr rest) = inr (more rest)

some-first : (ns : List ℕ) (ts : List (List ℕ)) → SomeOf (Is ns) ts → SomeOf (Is ns) (distinct_texts ts)
some-first ns [] some = absurd some
some-first ns (t ∷ ts) (inl same) = inl same
some-first ns (t ∷ ts) (inr rest) = go (bytes_eq t ns) refl (some-first ns ts rest) where
  go : (b : Bool) → bytes_eq t ns ≡ b → SomeOf (Is ns) (distinct_texts ts) → SomeOf (Is ns) (distinct_texts (t ∷ ts))
  go true is more = inl (same-text t ns is)
  go false is more = inr (some-kept t ns (distinct_texts ts) is more)

record HasNamespace (P : Pair → Type 0) (pairs : List Pair) : Type 0 where
  ns : List ℕ
  named : SomeOf (Is ns) (map (λ (pair : Pair). pair.0) pairs)
  some : SomeOf (IsIn P ns) pairs

some-named : (P : Pair → Type 0) (pairs : List Pair) → SomeOf P pairs → HasNamespace P pairs
some-named P [] some = absurd some
some-named P (p ∷ pairs) (inl holds) = record { ns = p.0; named = inl refl; some = inl (holds, refl) }
some-named P (p ∷ pairs) (inr rest) = let found = some-named P pairs rest in record { ns = found.ns; named = inr found.named; some = inr found.some }

regrouped-some : (P : Pair → Type 0) (pairs : List Pair) → SomeOf P pairs → SomeOf P (regrouped pairs)
regrouped-some P pairs some =
    let found = some-named P pairs some in
    let names = map (λ (pair : Pair). pair.0) pairs in
    some-of P pairs (distinct_texts names) found.ns (some-first found.ns names found.named) found.some

-- ---- an object that is made from them

pub made-regrouped : (o : Object) (pairs : List Pair) → MadeFrom o pairs → MadeFrom o (regrouped pairs)
made-regrouped o pairs made = record {
  lists = weaker (λ (d : Digest). SomeOf (IsDigestOf d) pairs) (λ (d : Digest). SomeOf (IsDigestOf d) (regrouped pairs)) (λ d some. regrouped-some (IsDigestOf d) pairs some) o.digests made.lists;
  covers = regrouped-all (λ (p : Pair). SomeOf (λ (d : Digest). IsDigestOf d p) o.digests) pairs made.covers;
}
