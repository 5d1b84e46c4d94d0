-- Texts are distinct where, in their order, none is the one before it.
use Rattle.std.proofs.Common.{◌≡◌, ◌<◌, ◌≤◌, ◌+◌, ℕ, suc, Bool, true, false, not, ◌&&◌, ◌||◌, cond, List, [], ◌∷◌, length, get_or, Option, Some, None, refl, sym, ap, ◌∙◌, subst, arith}
use Rattle.std.specs.Prelude.{filter_map, map}
use Rattle.std.specs.List.{AllByRecursion, cons_option, list_any, sum_by}
use Rattle.std.specs.List.Sorted.{IsPermutation, IsSorted}
use Rattle.std.specs.Cmp.Lexicographic.{slice_cmp}
use Rattle.std.specs.declared.cmp.Ordering.{Ordering}
use Rattle.std.specs.declared.cmp.Ordering.TheVariants.{Less, Equal, Greater}
use Rattle.std.specs.Ordering.{is_eq, is_lt, nat_cmp, ordering_reverse}
use Rattle.std.specs.Str.{bytes_eq}
use Rattle.std.specs.Borrow.{Bor}
use Rattle.std.proofs.lemmas.Cmp.{nat_list_cmp_total}
use Rattle.std.proofs.lemmas.List.Sorted.{IsPermutation-map, ranks_by, sorted_far, sum_by-IsPermutation}
use Rattle.std.proofs.lemmas.List.Sums.{sum_by-cons}
use Rattle.std.proofs.lemmas.Map.Text.{is_eq-slice_cmp}
use Rattle.std.proofs.lemmas.Slice.Eq.{bytes_eq-Decides}
use Rattle.cbor_view.specs.Label.{is_words}
use Rattle.cbor_view.specs.Parts.{Part, text_in}
use Rattle.doc_request.specs.Spaces.{are_distinct, has_name, is_among}
use Rattle.doc_request.specs.Texts.{are_apart, are_apart_from, key_text}

abbrev Texts : Type 0
Texts = List (List ℕ)

abbrev is : List ℕ → List ℕ → Bool
is text other = bytes_eq other text

-- no text is there twice
abbrev are_once : Texts → Bool
are_once [] = true
are_once (t ∷ ts) = not (list_any (is t) ts) && are_once ts

same : (a b : List ℕ) → bytes_eq a b ≡ true → a ≡ b
same a b e = (bytes_eq-Decides a b).0 e

itself : (a : List ℕ) → bytes_eq a a ≡ true
itself a = (bytes_eq-Decides a a).1 refl

-- ---- the keys of a map

name-any : (name : List ℕ) (es : List (Part × Part)) → has_name name es ≡ list_any (is name) (filter_map key_text es)
name-any name [] = refl
name-any name (e ∷ es) = go (name-any name es) (text_in e.0) where
  go : has_name name es ≡ list_any (is name) (filter_map key_text es) → (o : Option (List ℕ)) → (is_words name o || has_name name es) ≡ list_any (is name) (cons_option o (filter_map key_text es))
  go later None = later
  go later (Some text) = ap (λ b. bytes_eq text name || b) later

keys-once : (es : List (Part × Part)) → are_distinct es ≡ are_once (filter_map key_text es)
keys-once [] = refl
keys-once (e ∷ es) = go (keys-once es) (text_in e.0) where
  go : are_distinct es ≡ are_once (filter_map key_text es) → (o : Option (List ℕ)) → (not (is_among o es) && are_distinct es) ≡ are_once (cons_option o (filter_map key_text es))
  go later None = later
  go later (Some text) = ap (λ b. not b && are_distinct es) (name-any text es) ∙ ap (λ b. not (list_any (is text) (filter_map key_text es)) && b) later

-- ---- the order of texts doesn't matter

abbrev one : List ℕ → List ℕ → ℕ
one text other = cond (bytes_eq other text) 1 0

-- how often a text is there
abbrev count : List ℕ → Texts → ℕ
count text ts = sum_by (one text) ts

count-more : (t u : List ℕ) (us : Texts) (b : Bool) → bytes_eq u t ≡ b → count t (u ∷ us) ≡ cond b 1 0 + count t us
count-more t u us b e = sum_by-cons (one t) u us ∙ ap (λ (c : Bool). cond c 1 0 + count t us) e

either : (a b : Bool) → (a || b) ≡ false → (a ≡ false) × (b ≡ false)
either true b e = absurd (cc)
either false b e = (refl, e)

both : (a b : Bool) → (not a && b) ≡ true → (a ≡ false) × (b ≡ true)
both true b e = absurd (cc)
both false b e = (refl, e)

none-count : (t : List ℕ) (ts : Texts) → list_any (is t) ts ≡ false → count t ts ≡ 0
none-count t [] none = refl
none-count t (u ∷ us) none =
    let parts = either (bytes_eq u t) (list_any (is t) us) none in
    let first = count-more t u us false parts.0 in
    let later = none-count t us parts.1 in
    omega arith

count-none : (t : List ℕ) (ts : Texts) → count t ts ≡ 0 → list_any (is t) ts ≡ false
count-none t [] none = refl
count-none t (u ∷ us) none = go (count-none t us) (bytes_eq u t) refl where
  go : (count t us ≡ 0 → list_any (is t) us ≡ false) → (b : Bool) → bytes_eq u t ≡ b → (b || list_any (is t) us) ≡ false
  go later true e = let more = count-more t u us true e in absurd (omega arith)
  go later false e = let more = count-more t u us false e in later (omega arith)

once-few : (ts : Texts) → are_once ts ≡ true → (t : List ℕ) → count t ts ≤ 1
once-few [] once t = omega arith
once-few (u ∷ us) once t = let parts = both (list_any (is u) us) (are_once us) once in go (once-few us parts.1 t) parts.0 (bytes_eq u t) refl where
  go : count t us ≤ 1 → list_any (is u) us ≡ false → (b : Bool) → bytes_eq u t ≡ b → count t (u ∷ us) ≤ 1
  go later none true e =
      let more = count-more t u us true e in
      let zero_is : count t us ≡ 0 = none-count t us (subst (λ (x : List ℕ). list_any (is x) us ≡ false) (same u t e) none) in
      omega arith
  go later none false e = let more = count-more t u us false e in omega arith

few-once : (ts : Texts) → ((t : List ℕ) → count t ts ≤ 1) → are_once ts ≡ true
few-once [] few = refl
few-once (u ∷ us) few =
    let own = few u in
    let more = count-more u u us true (itself u) in
    let none : list_any (is u) us ≡ false = count-none u us (omega arith) in
    rw none (few-once us (λ t. fewer t (few t) (bytes_eq u t) refl)) where
      fewer : (t : List ℕ) → count t (u ∷ us) ≤ 1 → (b : Bool) → bytes_eq u t ≡ b → count t us ≤ 1
      fewer t few true e = let more = count-more t u us true e in omega arith
      fewer t few false e = let more = count-more t u us false e in omega arith

moved : (xs ys : Texts) → ((t : List ℕ) → count t ys ≡ count t xs) → are_once xs ≡ true → are_once ys ≡ true
moved xs ys counts once = few-once ys (λ t. let few = once-few xs once t in let equal = counts t in omega arith)

once-moved : (xs ys : Texts) → IsPermutation xs ys → are_once ys ≡ are_once xs
once-moved xs ys moves = go (are_once xs) (are_once ys) refl refl where
  counts : (t : List ℕ) → count t ys ≡ count t xs
  counts t = sum_by-IsPermutation (one t) xs ys moves

  go : (a b : Bool) → are_once xs ≡ a → are_once ys ≡ b → b ≡ a
  go true true ea eb = refl
  go false false ea eb = refl
  go true false ea eb = let there = moved xs ys counts ea in absurd (cc)
  go false true ea eb = let back = moved ys xs (λ t. sym (counts t)) eb in absurd (cc)

-- ---- texts in their order

abbrev lt : List ℕ → List ℕ → Bool
lt x y = is_lt (slice_cmp nat_cmp x y)

abbrev Ascends : Texts → Type 0
Ascends [] = Unit {0}
Ascends (x ∷ xs) = AllByRecursion (λ y. lt y x ≡ false) xs × Ascends xs

abbrev Lent : Type 0
Lent = List (Bor (List ℕ))

abbrev texts_of : Lent → Texts
texts_of xs = map (λ t. t.now) xs

none-before : (x : List ℕ) (ys : Lent) → ((j : ℕ) (d : Bor (List ℕ)) → j < length ys → lt (get_or ys j d).now x ≡ false) → AllByRecursion (λ y. lt y x ≡ false) (texts_of ys)
none-before x [] all = tt
none-before x (y ∷ ys) all = (all 0 y (omega arith), none-before x ys (λ j d h. all (suc j) d (omega arith)))

ascending : (xs : Lent) → ((i j : ℕ) (d : Bor (List ℕ)) → i ≤ j → j < length xs → lt (get_or xs j d).now (get_or xs i d).now ≡ false) → Ascends (texts_of xs)
ascending [] up = tt
ascending (x ∷ xs) up = (none-before x.now xs (λ j d h. up 0 (suc j) d (omega arith) (omega arith)), ascending xs (λ i j d le h. up (suc i) (suc j) d (omega arith) (omega arith)))

abbrev cmp : Bor (List ℕ) → Bor (List ℕ) → Ordering
cmp x y = slice_cmp nat_cmp x.now y.now

sorted-ascends : (xs : Lent) → IsSorted cmp xs → Ascends (texts_of xs)
sorted-ascends xs sorted = ascending xs (λ i j d le h. sorted_far (λ x y. is_lt (cmp x y)) (ranks_by nat_list_cmp_total (λ (t : Bor (List ℕ)). t.now)) xs sorted i j d le h)

-- neither of two texts is before the other: they are one
tied : (x y : List ℕ) → lt x y ≡ false → lt y x ≡ false → bytes_eq y x ≡ true
tied x y a b = go (slice_cmp nat_cmp y x) refl (nat_list_cmp_total.antisymm x y) b where
  go : (o : Ordering) → slice_cmp nat_cmp y x ≡ o → slice_cmp nat_cmp x y ≡ ordering_reverse (slice_cmp nat_cmp y x) → is_lt (slice_cmp nat_cmp y x) ≡ false → bytes_eq y x ≡ true
  go Less e mapped below = absurd (let t : is_lt Less ≡ false = subst (λ (o : Ordering). is_lt o ≡ false) e below in cc)
  go Equal e mapped below = sym (is_eq-slice_cmp y x) ∙ ap is_eq e
  go Greater e mapped below = absurd (let t : is_lt Less ≡ false = subst (λ (o : Ordering). is_lt o ≡ false) (mapped ∙ ap ordering_reverse e) a in cc)

none-later : (x y : List ℕ) (zs : Texts) → lt y x ≡ false → AllByRecursion (λ z. lt z y ≡ false) zs → bytes_eq y x ≡ false → list_any (is x) zs ≡ false
none-later x y [] low all other = refl
none-later x y (z ∷ zs) low all other = go (none-later x y zs low all.1 other) (bytes_eq z x) refl where
  go : list_any (is x) zs ≡ false → (b : Bool) → bytes_eq z x ≡ b → (b || list_any (is x) zs) ≡ false
  go later true e = let equal = tied x y (subst (λ (t : List ℕ). lt t y ≡ false) (same z x e) all.0) low in absurd (cc)
  go later false e = later

mapped : (a b : List ℕ) → bytes_eq a b ≡ bytes_eq b a
mapped a b = go (bytes_eq a b) (bytes_eq b a) refl refl where
  go : (x y : Bool) → bytes_eq a b ≡ x → bytes_eq b a ≡ y → x ≡ y
  go true true e f = refl
  go false false e f = refl
  go true false e f = let back : bytes_eq b a ≡ true = (bytes_eq-Decides b a).1 (sym (same a b e)) in absurd (cc)
  go false true e f = let back : bytes_eq a b ≡ true = (bytes_eq-Decides a b).1 (sym (same b a f)) in absurd (cc)

apart-from : (x : List ℕ) (xs : Texts) → Ascends (x ∷ xs) → are_apart_from (Some x) xs ≡ are_once (x ∷ xs)
apart-from x [] up = refl
apart-from x (y ∷ ys) up = rw (mapped x y) (go (apart-from y ys up.1) (bytes_eq y x) refl) where
  go : are_apart_from (Some y) ys ≡ are_once (y ∷ ys) → (b : Bool) → bytes_eq y x ≡ b → (not b && are_apart_from (Some y) ys) ≡ (not (b || list_any (is x) ys) && are_once (y ∷ ys))
  go later true e = refl
  go later false e = rw (none-later x y ys up.0.0 up.1.0 e) later

sorted-apart : (ts : Texts) → Ascends ts → are_apart ts ≡ are_once ts
sorted-apart [] up = refl
sorted-apart (t ∷ ts) up = apart-from t ts up

pub sorted_texts : (es : List (Part × Part)) (xs ys : Lent) → texts_of xs ≡ filter_map key_text es → IsPermutation xs ys → IsSorted cmp ys → are_apart (texts_of ys) ≡ are_distinct es
sorted_texts es xs ys keys moves sorted =
    sorted-apart (texts_of ys) (sorted-ascends ys sorted)
    ∙ once-moved (texts_of xs) (texts_of ys) (IsPermutation-map (λ (t : Bor (List ℕ)). t.now) xs ys moves)
    ∙ ap are_once keys
    ∙ sym (keys-once es)
