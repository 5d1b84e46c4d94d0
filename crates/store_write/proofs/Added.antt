-- One document more.
use Rattle.std.proofs.Common.{◌≡◌, ℕ, zero, suc, Bool, true, false, cond, List, [], ◌∷◌, ◌++◌, map, take, Some, refl, sym, ap, ◌∙◌}
use Rattle.std.specs.Prelude.{filter, slice_get}
use Rattle.std.proofs.lemmas.List.{append_assoc}

-- the first of a list and the one after them
take-more : {A : Type 0} (xs : List A) (n : ℕ) (x : A) → slice_get xs n ≡ Some x → take (suc n) xs ≡ take n xs ++ x ∷ []
take-more [] n x e = absurd (cc)
take-more (y ∷ xs) zero x e = let same : y ≡ x = cc in ap (λ z. z ∷ []) same
take-more (y ∷ xs) (suc n) x e = ap (λ (zs : List _). y ∷ zs) (take-more xs n x e)

map-both : {A B : Type 0} (f : A → B) (xs ys : List A) → map f (xs ++ ys) ≡ map f xs ++ map f ys
map-both f [] ys = refl
map-both f (x ∷ xs) ys = ap (λ (zs : List _). f x ∷ zs) (map-both f xs ys)

filter-both : {A : Type 0} (q : A → Bool) (xs ys : List A) → filter q (xs ++ ys) ≡ filter q xs ++ filter q ys
filter-both q [] ys = refl
filter-both q (x ∷ xs) ys = either (q x) (filter-both q xs ys) where
  either : (b : Bool) → filter q (xs ++ ys) ≡ filter q xs ++ filter q ys → cond b (x ∷ filter q (xs ++ ys)) (filter q (xs ++ ys)) ≡ cond b (x ∷ filter q xs) (filter q xs) ++ filter q ys
  either true rest = ap (λ (zs : List _). x ∷ zs) rest
  either false rest = rest

-- with the one at a place
pub mapped-more : {A B : Type 0} (f : A → B) (xs : List A) (n : ℕ) (x : A) (old before now : List B) → slice_get xs n ≡ Some x → before ≡ old ++ map f (take n xs) → now ≡ before ++ f x ∷ [] →
    now ≡ old ++ map f (take (suc n) xs)
mapped-more f xs n x old before now at before_is now_is =
    now_is ∙ ap (λ (zs : List _). zs ++ f x ∷ []) before_is ∙ append_assoc old (map f (take n xs)) (f x ∷ [])
    ∙ ap (λ (zs : List _). old ++ zs) (sym (ap (map f) (take-more xs n x at) ∙ map-both f (take n xs) (x ∷ [])))

pub filtered-more : {A : Type 0} (q : A → Bool) (xs : List A) (n : ℕ) (x : A) (old before now : List A) → slice_get xs n ≡ Some x → before ≡ old ++ filter q (take n xs) → now ≡ before ++ filter q (x ∷ []) →
    now ≡ old ++ filter q (take (suc n) xs)
filtered-more q xs n x old before now at before_is now_is =
    now_is ∙ ap (λ (zs : List _). zs ++ filter q (x ∷ [])) before_is ∙ append_assoc old (filter q (take n xs)) (filter q (x ∷ []))
    ∙ ap (λ (zs : List _). old ++ zs) (sym (ap (filter q) (take-more xs n x at) ∙ filter-both q (take n xs) (x ∷ [])))
