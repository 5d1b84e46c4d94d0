-- The first places of texts, found one by one.
use Rattle.std.proofs.Common.{◌≡◌, ℕ, ◌+◌, ◌<◌, length, get_or, drop, add-one, drop-cons, Bool, true, false, not, ◌&&◌, ◌||◌, cond, List, [], ◌∷◌, ◌++◌, refl, sym, ap, ◌∙◌, append_assoc}
use Rattle.std.specs.Prelude.{filter}
use Rattle.std.specs.Str.{bytes_eq}
use Rattle.std.proofs.lemmas.List.Folds.{list_any-append}
use Rattle.std.proofs.lemmas.Slice.Eq.{bytes_eq-Decides}
use Rattle.doc_response.specs.Answered.{has_text, distinct_texts}
use Rattle.doc_response.specs.Namespaces.{added, texts}
use Rattle.std.specs.Borrow.{Bor}

-- texts that were found, and the first ones of others that weren't
abbrev pub more : List (List ℕ) → List (List ℕ) → List (List ℕ)
more found rest = found ++ filter (λ (text : List ℕ). not (has_text text found)) (distinct_texts rest)

abbrev others : List ℕ → List (List ℕ) → List (List ℕ)
others text rest = filter (λ (other : List ℕ). not (bytes_eq text other)) (distinct_texts rest)

filter-filter : {A : Type 0} (p q : A → Bool) (xs : List A) → filter p (filter q xs) ≡ filter (λ x. q x && p x) xs
filter-filter p q [] = refl
filter-filter p q (x ∷ xs) = either (q x) (p x) (filter-filter p q xs) where
  either : (b c : Bool) → filter p (filter q xs) ≡ filter (λ x. q x && p x) xs →
      filter p (cond b (x ∷ filter q xs) (filter q xs)) ≡ cond (b && p x) (x ∷ filter (λ x. q x && p x) xs) (filter (λ x. q x && p x) xs)
  either true c rest = rw rest refl
  either false c rest = rest

filter-alike : {A : Type 0} (p q : A → Bool) (xs : List A) → ((x : A) → p x ≡ q x) → filter p xs ≡ filter q xs
filter-alike p q [] alike = refl
filter-alike p q (x ∷ xs) alike = rw (alike x, filter-alike p q xs alike) refl

-- what holds where a text is equal to another
equal-texts : (a b : List ℕ) → (bytes_eq a b ≡ true) → a ≡ b
equal-texts a b e = (bytes_eq-Decides a b).0 e

-- a text that was found already is ignored
found-alike : (found : List (List ℕ)) (text : List ℕ) → has_text text found ≡ true → (other : List ℕ) →
    (not (bytes_eq text other) && not (has_text other found)) ≡ not (has_text other found)
found-alike found text has other = either (bytes_eq text other) refl where
  either : (b : Bool) → bytes_eq text other ≡ b → (not b && not (has_text other found)) ≡ not (has_text other found)
  either false e = refl
  either true e = ap not (sym has ∙ ap (λ (t : List ℕ). has_text t found) (equal-texts text other e))

more-found : (found rest : List (List ℕ)) (text : List ℕ) → has_text text found ≡ true → more found (text ∷ rest) ≡ more found rest
more-found found rest text has =
    ap (λ (b : Bool). found ++ cond (not b) (text ∷ filter (λ (t : List ℕ). not (has_text t found)) (others text rest)) (filter (λ (t : List ℕ). not (has_text t found)) (others text rest))) has
    ∙ ap (λ (list : List (List ℕ)). found ++ list)
    (filter-filter (λ (t : List ℕ). not (has_text t found)) (λ (other : List ℕ). not (bytes_eq text other)) (distinct_texts rest)
    ∙ filter-alike _ _ (distinct_texts rest) (found-alike found text has))

-- a text that wasn't is one of those that were from now on
new-alike : (found : List (List ℕ)) (text other : List ℕ) →
    (not (bytes_eq text other) && not (has_text other found)) ≡ not (has_text other (found ++ text ∷ []))
new-alike found text other =
    rw (list_any-append (λ (t : List ℕ). bytes_eq t other) found (text ∷ [])) (either (bytes_eq text other) (has_text other found)) where
      either : (b c : Bool) → (not b && not c) ≡ not (c || (b || false))
      either true true = refl
      either true false = refl
      either false true = refl
      either false false = refl

more-new : (found rest : List (List ℕ)) (text : List ℕ) → has_text text found ≡ false → more found (text ∷ rest) ≡ more (found ++ text ∷ []) rest
more-new found rest text has =
    ap (λ (b : Bool). found ++ cond (not b) (text ∷ filter (λ (t : List ℕ). not (has_text t found)) (others text rest)) (filter (λ (t : List ℕ). not (has_text t found)) (others text rest))) has
    ∙ ap (λ (list : List (List ℕ)). found ++ (text ∷ list))
    (filter-filter (λ (t : List ℕ). not (has_text t found)) (λ (other : List ℕ). not (bytes_eq text other)) (distinct_texts rest)
    ∙ filter-alike _ _ (distinct_texts rest) (new-alike found text))
    ∙ sym (append_assoc found (text ∷ []) _)

-- one text more
pub more-added : (found rest : List (List ℕ)) (text : List ℕ) → more (added text found) rest ≡ more found (text ∷ rest)
more-added found rest text = either (has_text text found) refl where
  either : (b : Bool) → has_text text found ≡ b → more (cond b found (found ++ text ∷ [])) rest ≡ more found (text ∷ rest)
  either true e = sym (more-found found rest text e)
  either false e = sym (more-new found rest text e)

filter-all : {A : Type 0} (xs : List A) → filter (λ x. true) xs ≡ xs
filter-all [] = refl
filter-all (x ∷ xs) = rw (filter-all xs) refl

-- before the first text
pub more-start : (rest : List (List ℕ)) → more [] rest ≡ distinct_texts rest
more-start rest = filter-all (distinct_texts rest)

-- the texts from one on: it, and those after it
pub texts-drop : (list : List (Bor (List ℕ))) (i : ℕ) (d : Bor (List ℕ)) → i < length list →
    texts (drop i list) ≡ (get_or list i d).now ∷ texts (drop (i + 1) list)
texts-drop list i d h = rw (add-one, drop-cons list i d) refl
