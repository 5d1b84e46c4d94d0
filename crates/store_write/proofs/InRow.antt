-- What is written of a list, one part after the other.
use Rattle.std.proofs.Common.{◌≡◌, ℕ, zero, suc, List, [], ◌∷◌, ◌++◌, map, take, Some, sym, ap, ◌∙◌}
use Rattle.std.specs.Prelude.{flat_map, slice_get}
use Rattle.std.proofs.lemmas.List.{append_assoc, append-nil}

-- the bytes of each, one after the other
abbrev pub in_row : {A : Type 0} → (A → List ℕ) → List A → List ℕ
in_row f xs = flat_map (λ part. part) (map f xs)

-- the part at a place stands after those before it
pub one-more : {A : Type 0} (f : A → List ℕ) (xs : List A) (n : ℕ) (x : A) → slice_get xs n ≡ Some x → in_row f (take (suc n) xs) ≡ in_row f (take n xs) ++ f x
one-more f [] n x e = absurd (cc)
one-more f (y ∷ xs) zero x e = let same : y ≡ x = cc in append-nil (f y) ∙ ap f same
one-more f (y ∷ xs) (suc n) x e = ap (λ (rest : List ℕ). f y ++ rest) (one-more f xs n x e) ∙ sym (append_assoc (f y) (in_row f (take n xs)) (f x))

-- the same after other bytes
pub written-more : {A : Type 0} (f : A → List ℕ) (xs : List A) (n : ℕ) (x : A) (old before now : List ℕ) → slice_get xs n ≡ Some x → before ≡ old ++ in_row f (take n xs) → now ≡ before ++ f x →
    now ≡ old ++ in_row f (take (suc n) xs)
written-more f xs n x old before now at before_is now_is =
    now_is ∙ ap (λ (b : List ℕ). b ++ f x) before_is ∙ append_assoc old (in_row f (take n xs)) (f x) ∙ ap (λ (b : List ℕ). old ++ b) (sym (one-more f xs n x at))
