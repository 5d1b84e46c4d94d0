-- What holds of pairs holds of them by their namespaces.
use Rattle.std.proofs.Common.{◌≡◌, ◌≤◌, ℕ, suc, Bool, true, false, not, cond, List, [], ◌∷◌, ◌++◌, length, map, refl, ap, ◌∙◌, arith}
use Rattle.std.specs.Prelude.{filter}
use Rattle.std.specs.List.{AllByRecursion, flat_map}
use Rattle.std.specs.Str.{bytes_eq}
use Rattle.cbor_view.specs.Parts.{Part}
use Rattle.doc_response.specs.Answered.{distinct_texts, grouped, of_namespace}
use Rattle.doc_response.specs.Response.{spread, spread_all}
use Rattle.doc_response.specs.WrittenReads.{plain_part, spread_group}
use Rattle.doc_response.proofs.GroupsRead.{part_bytes, plain_group}

abbrev Pairs : Type 0
Pairs = List (List ℕ × List ℕ)

pub filter-all : {A : Type 0} (P : A → Type 0) (q : A → Bool) (xs : List A) → AllByRecursion P xs → AllByRecursion P (filter q xs)
filter-all P q [] all = tt
filter-all P q (x ∷ xs) all = either (filter-all P q xs all.1) (q x) where
  either : AllByRecursion P (filter q xs) → (b : Bool) → AllByRecursion P (cond b (x ∷ filter q xs) (filter q xs))
  either rest true = (all.0, rest)
  either rest false = rest

pub filter-fewer : {A : Type 0} (q : A → Bool) (xs : List A) → length (filter q xs) ≤ length xs
filter-fewer q [] = omega arith
filter-fewer q (x ∷ xs) = let rest = filter-fewer q xs in either (q x) rest where
  either : (b : Bool) → length (filter q xs) ≤ length xs → length (cond b (x ∷ filter q xs) (filter q xs)) ≤ length (x ∷ xs)
  either true rest = omega arith
  either false rest = omega arith

pub firsts-all : (P : List ℕ → Type 0) (texts : List (List ℕ)) → AllByRecursion P texts → AllByRecursion P (distinct_texts texts)
firsts-all P [] all = tt
firsts-all P (text ∷ texts) all = (all.0, filter-all P (λ (other : List ℕ). not (bytes_eq text other)) (distinct_texts texts) (firsts-all P texts all.1))

pub firsts-fewer : (texts : List (List ℕ)) → length (distinct_texts texts) ≤ length texts
firsts-fewer [] = omega arith
firsts-fewer (text ∷ texts) =
    let rest = firsts-fewer texts in
    let some = filter-fewer (λ (other : List ℕ). not (bytes_eq text other)) (distinct_texts texts) in
    omega (arith, rest, some)

pub map-all : {A B : Type 0} (P : B → Type 0) (f : A → B) (xs : List A) → AllByRecursion (λ x. P (f x)) xs → AllByRecursion P (map f xs)
map-all P f [] all = tt
map-all P f (x ∷ xs) all = (all.0, map-all P f xs all.1)

-- the second parts of the pairs of a namespace
pub of-all : (P : List ℕ → Type 0) (ns : List ℕ) (pairs : Pairs) → AllByRecursion (λ (pair : List ℕ × List ℕ). P pair.1) pairs → AllByRecursion P (of_namespace pairs ns).1
of-all P ns pairs all =
    map-all P (λ (pair : List ℕ × List ℕ). pair.1) (filter (λ (pair : List ℕ × List ℕ). bytes_eq pair.0 ns) pairs)
    (filter-all (λ (pair : List ℕ × List ℕ). P pair.1) (λ (pair : List ℕ × List ℕ). bytes_eq pair.0 ns) pairs all)

pub map-length : {A B : Type 0} (f : A → B) (xs : List A) → length (map f xs) ≡ length xs
map-length f [] = refl
map-length f (x ∷ xs) = ap suc (map-length f xs)

pub of-fewer : (ns : List ℕ) (pairs : Pairs) → length (of_namespace pairs ns).1 ≤ length pairs
of-fewer ns pairs =
    let kept = filter (λ (pair : List ℕ × List ℕ). bytes_eq pair.0 ns) pairs in
    let same = map-length (λ (pair : List ℕ × List ℕ). pair.1) kept in
    let fewer = filter-fewer (λ (pair : List ℕ × List ℕ). bytes_eq pair.0 ns) pairs in
    omega (arith, same, fewer)

pub grouped-fewer : (pairs : Pairs) → length (grouped pairs) ≤ length pairs
grouped-fewer pairs =
    let names = map (λ (pair : List ℕ × List ℕ). pair.0) pairs in
    let one = map-length (of_namespace pairs) (distinct_texts names) in
    let two = firsts-fewer names in
    let three = map-length (λ (pair : List ℕ × List ℕ). pair.0) pairs in
    omega (arith, one, two, three)

-- ---- items without their places

map-both : {A B : Type 0} (f : A → B) (xs ys : List A) → map f (xs ++ ys) ≡ map f xs ++ map f ys
map-both f [] ys = refl
map-both f (x ∷ xs) ys = ap (λ (zs : List _). f x ∷ zs) (map-both f xs ys)

spread-plain : (ns : List ℕ) (items : List Part) → map plain_part (map (λ (item : Part). (ns, item)) items) ≡ map (λ (raw : List ℕ). (ns, raw)) (map part_bytes items)
spread-plain ns [] = refl
spread-plain ns (item ∷ items) = ap (λ (x : List (List ℕ × List ℕ)). (ns, item.bytes) ∷ x) (spread-plain ns items)

pub all-plain : (spaces : List (List ℕ × List Part)) → map plain_part (spread_all spaces) ≡ flat_map spread_group (map plain_group spaces)
all-plain [] = refl
all-plain (space ∷ spaces) =
    map-both plain_part (spread space) (spread_all spaces)
    ∙ ap (λ (x : List (List ℕ × List ℕ)). x ++ map plain_part (spread_all spaces)) (spread-plain space.0 space.1)
    ∙ ap (λ (x : List (List ℕ × List ℕ)). spread_group (plain_group space) ++ x) (all-plain spaces)
