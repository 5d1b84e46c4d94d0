-- Wishes by their namespaces are the same wishes in another order.
use Rattle.std.proofs.Common.{◌≡◌, ◌≤◌, ℕ, Bool, true, false, not, ◌&&◌, ◌||◌, cond, if◌then◌else◌, List, [], ◌∷◌, ◌++◌, length, refl, sym, ap, ◌∙◌, subst, arith}
use Rattle.std.specs.Prelude.{filter, flat_map}
use Rattle.std.specs.List.{AllByRecursion}
use Rattle.std.specs.List.Sorted.{IsPermutation}
use Rattle.std.specs.Str.{bytes_eq}
use Rattle.std.proofs.lemmas.List.{append_assoc}
use Rattle.std.proofs.lemmas.List.Sorted.{IsPermutation-refl, IsPermutation-trans, IsPermutation-append_right, IsPermutation-filter_both}
use Rattle.doc_request.specs.declared.wish_draft.WishDraft.{WishDraft}
use Rattle.doc_request.specs.Written.{is_in, openers}
use Rattle.request_laws.specs.ReadBack.{of_space, grouped}
use Rattle.request_laws.proofs.Openers.{Wishes, same, has_space, any-joined, own}

-- ---- filters

pub filter-all : {A : Type 0} (P : A → Type 0) (q : A → Bool) (xs : List A) → AllByRecursion P xs → AllByRecursion P (filter q xs)
filter-all P q [] all = tt
filter-all P q (x ∷ xs) all = either (filter-all P q xs all.1) (q x) where
  either : AllByRecursion P (filter q xs) → (b : Bool) → AllByRecursion P (cond b (x ∷ filter q xs) (filter q xs))
  either rest true = (all.0, rest)
  either rest false = rest

pub filter-fewer : {A : Type 0} (q : A → Bool) (xs : List A) → length (filter q xs) ≤ length xs
filter-fewer q [] = omega arith
filter-fewer q (x ∷ xs) = let rest = filter-fewer q xs in either (q x) rest where
  either : (b : Bool) → length (filter q xs) ≤ length xs → length (cond b (x ∷ filter q xs) (filter q xs)) ≤ length (x ∷ xs)
  either true rest = omega arith
  either false rest = omega arith

filter-same : {A : Type 0} (p q : A → Bool) → ((x : A) → p x ≡ q x) → (xs : List A) → filter p xs ≡ filter q xs
filter-same p q is [] = refl
filter-same p q is (x ∷ xs) = rw (is x, filter-same p q is xs) refl

filter-none : {A : Type 0} (p : A → Bool) (xs : List A) → AllByRecursion (λ x. p x ≡ false) xs → filter p xs ≡ []
filter-none p [] none = refl
filter-none p (x ∷ xs) none = rw none.0 (filter-none p xs none.1)

filter-each : {A : Type 0} (p : A → Bool) → ((x : A) → p x ≡ true) → (xs : List A) → filter p xs ≡ xs
filter-each p is [] = refl
filter-each p is (x ∷ xs) = rw (is x) (ap (λ (ys : List _). x ∷ ys) (filter-each p is xs))

filter-twice : {A : Type 0} (p q : A → Bool) (xs : List A) → filter p (filter q xs) ≡ filter (λ x. q x && p x) xs
filter-twice p q [] = refl
filter-twice p q (x ∷ xs) = either (filter-twice p q xs) (q x) where
  either : filter p (filter q xs) ≡ filter (λ y. q y && p y) xs → (b : Bool) → filter p (cond b (x ∷ filter q xs) (filter q xs)) ≡ cond (b && p x) (x ∷ filter (λ y. q y && p y) xs) (filter (λ y. q y && p y) xs)
  either later true = rw later refl
  either later false = later

-- ---- wishes in none of the namespaces of others

abbrev outside : Wishes → WishDraft → Bool
outside before wish = not (has_space wish.ns before)

not-outside : (all wishes : Wishes) → AllByRecursion (λ w. has_space w.ns all ≡ true) wishes → AllByRecursion (λ w. outside all w ≡ false) wishes
not-outside all [] each = tt
not-outside all (w ∷ ws) each = (rw each.0 refl, not-outside all ws each.1)

-- with one wish more
outside-more : (before : Wishes) (w x : WishDraft) → outside (before ++ w ∷ []) x ≡ outside before x && not (bytes_eq w.ns x.ns)
outside-more before w x = rw (any-joined (is_in x.ns) before (w ∷ [])) (cases (has_space x.ns before) (bytes_eq w.ns x.ns)) where
  cases : (a b : Bool) → not (a || (b || false)) ≡ not a && not b
  cases true b = refl
  cases false true = refl
  cases false false = refl

bytes_eq-turned : (a b : List ℕ) → bytes_eq a b ≡ bytes_eq b a
bytes_eq-turned a b = go (bytes_eq a b) (bytes_eq b a) refl refl where
  go : (x y : Bool) → bytes_eq a b ≡ x → bytes_eq b a ≡ y → x ≡ y
  go true true e f = refl
  go false false e f = refl
  go true false e f = let mapped : bytes_eq b a ≡ bytes_eq a a = ap (λ (z : List ℕ). bytes_eq z a) (sym (same a b e)) in let one : bytes_eq a b ≡ bytes_eq a a = ap (λ (z : List ℕ). bytes_eq a z) (sym (same a b e)) in absurd (cc)
  go false true e f = let mapped : bytes_eq a b ≡ bytes_eq b b = ap (λ (z : List ℕ). bytes_eq z b) (sym (same b a f)) in let one : bytes_eq b a ≡ bytes_eq b b = ap (λ (z : List ℕ). bytes_eq b z) (sym (same b a f)) in absurd (cc)

-- a wish whose namespace is there already changes nothing
known-same : (before : Wishes) (w x : WishDraft) → has_space w.ns before ≡ true → outside (before ++ w ∷ []) x ≡ outside before x
known-same before w x known = outside-more before w x ∙ go (bytes_eq w.ns x.ns) refl where
  go : (b : Bool) → bytes_eq w.ns x.ns ≡ b → (outside before x && not b) ≡ outside before x
  go true e = let there : has_space x.ns before ≡ true = subst (λ (n : List ℕ). has_space n before ≡ true) (same w.ns x.ns e) known in rw there refl
  go false e = cases (outside before x) where
    cases : (a : Bool) → (a && true) ≡ a
    cases true = refl
    cases false = refl

-- of those in none of the namespaces before, those in a new namespace are all that are in it
new-space : (before : Wishes) (w x : WishDraft) → has_space w.ns before ≡ false → (outside before x && is_in w.ns x) ≡ is_in w.ns x
new-space before w x new = go (bytes_eq x.ns w.ns) refl where
  go : (b : Bool) → bytes_eq x.ns w.ns ≡ b → (outside before x && b) ≡ b
  go true e = let none : has_space x.ns before ≡ false = subst (λ (n : List ℕ). has_space n before ≡ false) (sym (same x.ns w.ns e)) new in rw none refl
  go false e = cases (outside before x) where
    cases : (a : Bool) → (a && false) ≡ false
    cases true = refl
    cases false = refl

others-same : (before : Wishes) (w x : WishDraft) → (outside before x && not (is_in w.ns x)) ≡ outside (before ++ w ∷ []) x
others-same before w x = rw (bytes_eq-turned x.ns w.ns) (sym (outside-more before w x))

-- ---- the wishes by their namespaces

regrouped : (all before wishes : Wishes) → before ++ wishes ≡ all → IsPermutation (filter (outside before) all) (flat_map (of_space all) (openers before wishes))
regrouped all before [] e =
    let whole : all ≡ before = sym e ∙ nil before in
    let none : filter (outside before) all ≡ [] = rw whole (filter-none (outside before) before (not-outside before before (own before))) in
    subst (λ (xs : Wishes). IsPermutation xs []) (sym none) (IsPermutation-refl []) where
      nil : (xs : Wishes) → xs ++ [] ≡ xs
      nil [] = refl
      nil (x ∷ xs) = ap (λ (ys : Wishes). x ∷ ys) (nil xs)
regrouped all before (w ∷ ws) e = go (regrouped all (before ++ w ∷ []) ws (append_assoc before (w ∷ []) ws ∙ e)) (has_space w.ns before) refl where
  opened : IsPermutation (filter (outside (before ++ w ∷ [])) all) (flat_map (of_space all) (openers (before ++ w ∷ []) ws)) → has_space w.ns before ≡ false → IsPermutation (filter (outside before) all) (of_space all w ++ flat_map (of_space all) (openers (before ++ w ∷ []) ws))
  opened next new =
      let left = filter (outside before) all in
      let own_space : filter (is_in w.ns) left ≡ of_space all w = filter-twice (is_in w.ns) (outside before) all ∙ filter-same _ _ (λ x. new-space before w x new) all in
      let others : filter (λ x. not (is_in w.ns x)) left ≡ filter (outside (before ++ w ∷ [])) all = filter-twice (λ x. not (is_in w.ns x)) (outside before) all ∙ filter-same _ _ (λ x. others-same before w x) all in
      let both = IsPermutation-filter_both (is_in w.ns) (λ x. not (is_in w.ns x)) (λ x. refl) left in
      let split : IsPermutation left (of_space all w ++ filter (outside (before ++ w ∷ [])) all) = subst (λ (ys : Wishes). IsPermutation left (ys ++ filter (outside (before ++ w ∷ [])) all)) own_space (subst (λ (zs : Wishes). IsPermutation left (filter (is_in w.ns) left ++ zs)) others both) in
      IsPermutation-trans _ _ _ split (IsPermutation-append_right (of_space all w) _ _ next)

  go : IsPermutation (filter (outside (before ++ w ∷ [])) all) (flat_map (of_space all) (openers (before ++ w ∷ []) ws)) → (b : Bool) → has_space w.ns before ≡ b → IsPermutation (filter (outside before) all) (flat_map (of_space all) (if b then openers (before ++ w ∷ []) ws else w ∷ openers (before ++ w ∷ []) ws))
  go next true known = subst (λ (xs : Wishes). IsPermutation xs (flat_map (of_space all) (openers (before ++ w ∷ []) ws))) (filter-same _ _ (λ x. known-same before w x known) all) next
  go next false new = opened next new

pub grouped-permutation : (wishes : Wishes) → IsPermutation wishes (grouped wishes)
grouped-permutation wishes = subst (λ (xs : Wishes). IsPermutation xs (grouped wishes)) (filter-each (outside []) (λ x. refl) wishes) (regrouped wishes [] wishes refl)
