-- Digests that were written, grouped by namespace, are read as they were given.
use Rattle.std.proofs.Common.{◌≡◌, ℕ, suc, ◌+◌, ◌<◌, ◌≤◌, ◌^◌, ◌==◌, ◌&&◌, ◌||◌, if◌then◌else◌, Bool, true, false, List, [], ◌∷◌, ◌++◌, length, Some, refl, sym, ap, ◌∙◌, subst, arith, eq-eqb, eqb-true}
use Rattle.std.specs.Prelude.{flat_map, map, IsUtf8}
use Rattle.std.specs.List.{list_any, list_all, AllByRecursion}
use Rattle.std.specs.Str.{bytes_eq}
use Rattle.std.proofs.lemmas.Slice.Eq.{bytes_eq-Decides}
use Rattle.cbor_view.specs.Parts.{Part, pairs_in, uint_in, bytes_in, text_in}
use Rattle.cbor_view.specs.Shortest.{bytes_bytes, text_bytes, uint_bytes}
use Rattle.cbor_view.specs.Tree.{Unsigned, Bytes, Text}
use Rattle.cbor_view.proofs.WrittenParts.{IsPiece, piece-shortest, ArePieces, entries_from, pairs_begin, pairs-written, piece-map, tree-shortest}
use Rattle.mso_digests.specs.Digests.{Digest, digests_under, digests_from, digests_in, is_digest, is_namespace, is_digest_map, have_length, has_text, has_uint, are_texts_distinct, are_uints_distinct, have_distinct_uints, has_distinct_digests}
use Rattle.mso_digests.specs.WrittenFacts.{HasSpelling, AllHaveSpelling}
use Rattle.mso_digests.specs.Written.{Entry, is_of, has_namespace, group, namespaces_after, namespaces, digest_pair, group_bytes, namespace_pair, digests_bytes, listed, grouped, is_same, AreOnce}

same : (a b : List ℕ) → bytes_eq a b ≡ true → a ≡ b
same a b e = (bytes_eq-Decides a b).0 e

-- ---- one namespace

digest-short : (e : Entry) → HasSpelling e → length e.2 < 2 ^ 32
digest-short e fits = let n = fits.digest in omega arith

digest-pieces : (es : List Entry) → AllHaveSpelling es → ArePieces 0 (map digest_pair es)
digest-pieces [] fit = tt
digest-pieces (e ∷ es) fit = (piece-shortest 0 (Unsigned e.1) fit.0.number (omega arith), piece-shortest 0 (Bytes e.2) (digest-short e fit.0) (omega arith), digest-pieces es fit.1)

number-read : (at : ℕ) (e : Entry) → HasSpelling e → uint_in (record { at = at; bytes = uint_bytes e.1 }) ≡ Some e.1
number-read at e fits = rw (tree-shortest (Unsigned e.1) fits.number (omega arith)) refl

digest-read : (at : ℕ) (e : Entry) → HasSpelling e → bytes_in (record { at = at; bytes = bytes_bytes e.2 }) ≡ Some e.2
digest-read at e fits = rw (tree-shortest (Bytes e.2) (digest-short e fits) (omega arith)) refl

-- the digests are of one namespace
abbrev AllOf : List ℕ → List Entry → Type 0
AllOf namespace es = AllByRecursion (λ e. e.0 ≡ namespace) es

under-read : (namespace : List ℕ) (at : ℕ) (es : List Entry) → AllHaveSpelling es → AllOf namespace es → digests_under namespace (entries_from at (map digest_pair es)) ≡ map listed es
under-read namespace at [] fit own = refl
under-read namespace at (e ∷ es) fit own =
    let later = under-read namespace (at + length (uint_bytes e.1) + length (bytes_bytes e.2)) es fit.1 own.1 in
    rw (number-read at e fit.0, digest-read (at + length (uint_bytes e.1)) e fit.0)
    (ap (λ (x : List Digest). record { namespace = namespace; number = e.1; digest = e.2 } ∷ x) later
    ∙ ap (λ (n : List ℕ). record { namespace = n; number = e.1; digest = e.2 } ∷ map listed es) (sym own.0))

all-digests : (at : ℕ) (es : List Entry) → AllHaveSpelling es → list_all is_digest (entries_from at (map digest_pair es)) ≡ true
all-digests at [] fit = refl
all-digests at (e ∷ es) fit =
    rw (number-read at e fit.0, digest-read (at + length (uint_bytes e.1)) e fit.0) (all-digests (at + length (uint_bytes e.1) + length (bytes_bytes e.2)) es fit.1)

abbrev has_number : ℕ → List Entry → Bool
has_number number es = list_any (λ e. e.1 == number) es

uint-any : (number at : ℕ) (es : List Entry) → AllHaveSpelling es → has_uint (Some number) (entries_from at (map digest_pair es)) ≡ has_number number es
uint-any number at [] fit = refl
uint-any number at (e ∷ es) fit =
    rw (number-read at e fit.0) (ap (λ b. (e.1 == number) || b) (uint-any number (at + length (uint_bytes e.1) + length (bytes_bytes e.2)) es fit.1))

-- no number stands twice
abbrev NumbersOnce : List Entry → Type 0
NumbersOnce [] = Unit {0}
NumbersOnce (e ∷ es) = (has_number e.1 es ≡ false) × NumbersOnce es

uints-once : (at : ℕ) (es : List Entry) → AllHaveSpelling es → NumbersOnce es → are_uints_distinct (entries_from at (map digest_pair es)) ≡ true
uints-once at [] fit once = refl
uints-once at (e ∷ es) fit once =
    let next = at + length (uint_bytes e.1) + length (bytes_bytes e.2) in
    rw (number-read at e fit.0)
    (rw (uint-any e.1 next es fit.1) (rw (once.0) (uints-once next es fit.1 once.1)))

-- ---- the group of a namespace

pub group-all : (P : Entry → Type 0) (namespace : List ℕ) (ds : List Entry) → AllByRecursion P ds → AllByRecursion P (group namespace ds)
group-all P namespace [] all = tt
group-all P namespace (d ∷ ds) all = elim (bytes_eq d.0 namespace) as (λ b. AllByRecursion P (if b then d ∷ group namespace ds else group namespace ds)) [
  | true ↦ (all.0, group-all P namespace ds all.1)
  | false ↦ group-all P namespace ds all.1
]

group-of : (namespace : List ℕ) (ds : List Entry) → AllOf namespace (group namespace ds)
group-of namespace [] = tt
group-of namespace (d ∷ ds) = go (group-of namespace ds) (bytes_eq d.0 namespace) refl where
  go : AllOf namespace (group namespace ds) → (b : Bool) → bytes_eq d.0 namespace ≡ b → AllOf namespace (if b then d ∷ group namespace ds else group namespace ds)
  go later true e = (same d.0 namespace e, later)
  go later false e = later

group-few : (namespace : List ℕ) (ds : List Entry) → length (group namespace ds) ≤ length ds
group-few namespace [] = omega arith
group-few namespace (d ∷ ds) = let few = group-few namespace ds in elim (bytes_eq d.0 namespace) as (λ b. length (if b then d ∷ group namespace ds else group namespace ds) ≤ suc (length ds)) [
  | true ↦ omega arith
  | false ↦ omega arith
]

either : (a b : Bool) → (a || b) ≡ false → (a ≡ false) × (b ≡ false)
either true b e = absurd (cc)
either false b e = (refl, e)

numbers-differ : (a b : ℕ) → (a == b) ≡ false → (b == a) ≡ false
numbers-differ a b e = go (b == a) refl where
  go : (t : Bool) → (b == a) ≡ t → t ≡ false
  go false is = refl
  go true is = let equal : b ≡ a = eqb-true b a is in let clash : true ≡ false = sym (eq-eqb a b (sym equal)) ∙ e in absurd (cc)

-- a digest that isn't again among others of its namespace has a number of its own there
number-once : (namespace : List ℕ) (d : Entry) (ds : List Entry) → d.0 ≡ namespace → list_any (is_same d) ds ≡ false → has_number d.1 (group namespace ds) ≡ false
number-once namespace d [] own once = refl
number-once namespace d (e ∷ es) own once = let parts = either (bytes_eq d.0 e.0 && d.1 == e.1) (list_any (is_same d) es) once in go parts.0 (number-once namespace d es own parts.1) (bytes_eq e.0 namespace) refl where
  go : (bytes_eq d.0 e.0 && d.1 == e.1) ≡ false → has_number d.1 (group namespace es) ≡ false → (b : Bool) → bytes_eq e.0 namespace ≡ b → has_number d.1 (if b then e ∷ group namespace es else group namespace es) ≡ false
  go first later true e0 =
      let equal : bytes_eq d.0 e.0 ≡ true = (bytes_eq-Decides d.0 e.0).1 (own ∙ sym (same e.0 namespace e0)) in
      let other : (d.1 == e.1) ≡ false = subst (λ b. (b && d.1 == e.1) ≡ false) equal first in
      rw (numbers-differ d.1 e.1 other) later
  go first later false e0 = later

numbers-once : (namespace : List ℕ) (ds : List Entry) → AreOnce ds → NumbersOnce (group namespace ds)
numbers-once namespace [] once = tt
numbers-once namespace (d ∷ ds) once = go (numbers-once namespace ds once.1) (bytes_eq d.0 namespace) refl where
  go : NumbersOnce (group namespace ds) → (b : Bool) → bytes_eq d.0 namespace ≡ b → NumbersOnce (if b then d ∷ group namespace ds else group namespace ds)
  go later true e = (number-once namespace d ds (same d.0 namespace e) once.0, later)
  go later false e = later

-- ---- the namespaces

-- a short text
record IsName (n : List ℕ) : Type 0 where
  short : length n < 2 ^ 32
  text : IsUtf8 n

abbrev AllNames : List (List ℕ) → Type 0
AllNames ns = AllByRecursion IsName ns

names-fit : (before ds : List Entry) → AllHaveSpelling ds → AllNames (namespaces_after before ds)
names-fit before [] fit = tt
names-fit before (d ∷ ds) fit = let later = names-fit (before ++ d ∷ []) ds fit.1 in elim (has_namespace d.0 before) as (λ b. AllNames (if b then namespaces_after (before ++ d ∷ []) ds else d.0 ∷ namespaces_after (before ++ d ∷ []) ds)) [
  | true ↦ later
  | false ↦ (record { short = fit.0.short; text = fit.0.text }, later)
]

names-few : (before ds : List Entry) → length (namespaces_after before ds) ≤ length ds
names-few before [] = omega arith
names-few before (d ∷ ds) = let few = names-few (before ++ d ∷ []) ds in elim (has_namespace d.0 before) as (λ b. length (if b then namespaces_after (before ++ d ∷ []) ds else d.0 ∷ namespaces_after (before ++ d ∷ []) ds) ≤ suc (length ds)) [
  | true ↦ omega arith
  | false ↦ omega arith
]

abbrev has_name : List ℕ → List (List ℕ) → Bool
has_name name names = list_any (λ n. bytes_eq n name) names

pub any-joined : {A : Type 0} (test : A → Bool) (xs ys : List A) → list_any test (xs ++ ys) ≡ list_any test xs || list_any test ys
any-joined test [] ys = refl
any-joined test (x ∷ xs) ys = rw (any-joined test xs ys) (elim (test x) as (λ b. (b || (list_any test xs || list_any test ys)) ≡ ((b || list_any test xs) || list_any test ys)) [
  | true ↦ refl
  | false ↦ refl
])

or-true : (b : Bool) → (b || true) ≡ true
or-true true = refl
or-true false = refl

still : (name : List ℕ) (before : List Entry) (d : Entry) → has_namespace name before ≡ true → has_namespace name (before ++ d ∷ []) ≡ true
still name before d e = any-joined (is_of name) before (d ∷ []) ∙ rw e refl

now : (before : List Entry) (d : Entry) → has_namespace d.0 (before ++ d ∷ []) ≡ true
now before d = any-joined (is_of d.0) before (d ∷ []) ∙ rw ((bytes_eq-Decides d.0 d.0).1 refl) (or-true (has_namespace d.0 before))

-- a namespace of an earlier digest isn't again among those after it
name-gone : (name : List ℕ) (before ds : List Entry) → has_namespace name before ≡ true → has_name name (namespaces_after before ds) ≡ false
name-gone name before [] e = refl
name-gone name before (d ∷ ds) e = go (name-gone name (before ++ d ∷ []) ds (still name before d e)) (has_namespace d.0 before) refl where
  differs : has_namespace d.0 before ≡ false → (b : Bool) → bytes_eq d.0 name ≡ b → b ≡ false
  differs none false is = refl
  differs none true is = let own : has_namespace d.0 before ≡ true = subst (λ (n : List ℕ). has_namespace n before ≡ true) (sym (same d.0 name is)) e in let clash : true ≡ false = sym own ∙ none in absurd (cc)

  go : has_name name (namespaces_after (before ++ d ∷ []) ds) ≡ false → (b : Bool) → has_namespace d.0 before ≡ b → has_name name (if b then namespaces_after (before ++ d ∷ []) ds else d.0 ∷ namespaces_after (before ++ d ∷ []) ds) ≡ false
  go later true is = later
  go later false is = rw (differs is (bytes_eq d.0 name) refl) later

abbrev NamesOnce : List (List ℕ) → Type 0
NamesOnce [] = Unit {0}
NamesOnce (n ∷ ns) = (has_name n ns ≡ false) × NamesOnce ns

names-once : (before ds : List Entry) → NamesOnce (namespaces_after before ds)
names-once before [] = tt
names-once before (d ∷ ds) = let later = names-once (before ++ d ∷ []) ds in elim (has_namespace d.0 before) as (λ b. NamesOnce (if b then namespaces_after (before ++ d ∷ []) ds else d.0 ∷ namespaces_after (before ++ d ∷ []) ds)) [
  | true ↦ later
  | false ↦ (name-gone d.0 (before ++ d ∷ []) ds (now before d), later)
]

-- ---- the map of them

-- what is written of a list of digests
pub record AreWritable (ds : List Entry) : Type 0 where
  pub fit : AllHaveSpelling ds
  pub once : AreOnce ds
  pub few : length ds < 2 ^ 32

pairs-few : {A B : Type 0} (f : A → B) (xs : List A) → length (map f xs) ≡ length xs
pairs-few f [] = refl
pairs-few f (x ∷ xs) = ap suc (pairs-few f xs)

group-short : (namespace : List ℕ) (ds : List Entry) → AreWritable ds → length (map digest_pair (group namespace ds)) < 2 ^ 32
group-short namespace ds are = let a = are.few in let b = group-few namespace ds in rw (pairs-few digest_pair (group namespace ds)) (omega arith)

name-read : (at : ℕ) (n : List ℕ) → IsName n → text_in (record { at = at; bytes = text_bytes n }) ≡ Some n
name-read at n is = rw (tree-shortest (Text n) (is.short, is.text) (omega arith)) refl

group-read : (at : ℕ) (namespace : List ℕ) (ds : List Entry) → AreWritable ds → pairs_in (record { at = at; bytes = group_bytes ds namespace }) ≡ Some (entries_from (pairs_begin at (map digest_pair (group namespace ds))) (map digest_pair (group namespace ds)))
group-read at namespace ds are = pairs-written 0 (map digest_pair (group namespace ds)) at (digest-pieces (group namespace ds) (group-all HasSpelling namespace ds are.fit)) (omega arith) (group-short namespace ds are)

namespace-pieces : (ds : List Entry) (names : List (List ℕ)) → AreWritable ds → AllNames names → ArePieces 1 (map (namespace_pair ds) names)
namespace-pieces ds [] are all = tt
namespace-pieces ds (n ∷ ns) are all = (
  piece-shortest 1 (Text n) (all.0.short, all.0.text) (omega arith),
  piece-map 0 (map digest_pair (group n ds)) (digest-pieces (group n ds) (group-all HasSpelling n ds are.fit)) (group-short n ds are),
  namespace-pieces ds ns are all.1,
)

map-joined : {A B : Type 0} (f : A → B) (xs ys : List A) → map f (xs ++ ys) ≡ map f xs ++ map f ys
map-joined f [] ys = refl
map-joined f (x ∷ xs) ys = ap (λ zs. f x ∷ zs) (map-joined f xs ys)

names-read : (at : ℕ) (ds : List Entry) (names : List (List ℕ)) → AreWritable ds → AllNames names → digests_from (entries_from at (map (namespace_pair ds) names)) ≡ map listed (flat_map (λ n. group n ds) names)
names-read at ds [] are all = refl
names-read at ds (n ∷ ns) are all =
    let value = at + length (text_bytes n) in
    let pairs = map digest_pair (group n ds) in
    rw (name-read at n all.0)
    (rw (group-read value n ds are)
    (rw (under-read n (pairs_begin value pairs) (group n ds) (group-all HasSpelling n ds are.fit) (group-of n ds), names-read (at + length (text_bytes n) + length (group_bytes ds n)) ds ns are all.1)
    (sym (map-joined listed (group n ds) (flat_map (λ n. group n ds) ns)))))

all-namespaces : (at : ℕ) (ds : List Entry) (names : List (List ℕ)) → AreWritable ds → AllNames names → list_all is_namespace (entries_from at (map (namespace_pair ds) names)) ≡ true
all-namespaces at ds [] are all = refl
all-namespaces at ds (n ∷ ns) are all =
    let value = at + length (text_bytes n) in
    let pairs = map digest_pair (group n ds) in
    rw (name-read at n all.0)
    (rw (group-read value n ds are)
    (rw (all-digests (pairs_begin value pairs) (group n ds) (group-all HasSpelling n ds are.fit)) (all-namespaces (at + length (text_bytes n) + length (group_bytes ds n)) ds ns are all.1)))

all-once : (at : ℕ) (ds : List Entry) (names : List (List ℕ)) → AreWritable ds → have_distinct_uints (entries_from at (map (namespace_pair ds) names)) ≡ true
all-once at ds [] are = refl
all-once at ds (n ∷ ns) are =
    let value = at + length (text_bytes n) in
    let pairs = map digest_pair (group n ds) in
    rw (group-read value n ds are)
    (rw (uints-once (pairs_begin value pairs) (group n ds) (group-all HasSpelling n ds are.fit) (numbers-once n ds are.once)) (all-once (at + length (text_bytes n) + length (group_bytes ds n)) ds ns are))

text-any : (name : List ℕ) (at : ℕ) (ds : List Entry) (names : List (List ℕ)) → AllNames names → has_text (Some name) (entries_from at (map (namespace_pair ds) names)) ≡ has_name name names
text-any name at ds [] all = refl
text-any name at ds (n ∷ ns) all =
    rw (name-read at n all.0) (ap (λ b. bytes_eq n name || b) (text-any name (at + length (text_bytes n) + length (group_bytes ds n)) ds ns all.1))

texts-once : (at : ℕ) (ds : List Entry) (names : List (List ℕ)) → AllNames names → NamesOnce names → are_texts_distinct (entries_from at (map (namespace_pair ds) names)) ≡ true
texts-once at ds [] all once = refl
texts-once at ds (n ∷ ns) all once =
    let next = at + length (text_bytes n) + length (group_bytes ds n) in
    rw (name-read at n all.0)
    (rw (text-any n next ds ns all.1) (rw (once.0) (texts-once next ds ns all.1 once.1)))

all-joined : {A : Type 0} (test : A → Bool) (xs ys : List A) → list_all test xs ≡ true → list_all test ys ≡ true → list_all test (xs ++ ys) ≡ true
all-joined test [] ys a b = b
all-joined test (x ∷ xs) ys a b = go (λ rest. all-joined test xs ys rest b) (test x) a where
  go : (list_all test xs ≡ true → list_all test (xs ++ ys) ≡ true) → (t : Bool) → (t && list_all test xs) ≡ true → (t && list_all test (xs ++ ys)) ≡ true
  go later true a = later a
  go later false a = absurd (cc)

lengths-of : (es : List Entry) → AllHaveSpelling es → have_length (map listed es) ≡ true
lengths-of [] fit = refl
lengths-of (e ∷ es) fit = rw (eq-eqb (length e.2) 32 fit.0.digest) (lengths-of es fit.1)

names-lengths : (ds : List Entry) (names : List (List ℕ)) → AllHaveSpelling ds → have_length (map listed (flat_map (λ n. group n ds) names)) ≡ true
names-lengths ds [] fit = refl
names-lengths ds (n ∷ ns) fit =
    rw (map-joined listed (group n ds) (flat_map (λ n. group n ds) ns))
    (all-joined _ (map listed (group n ds)) (map listed (flat_map (λ n. group n ds) ns)) (lengths-of (group n ds) (group-all HasSpelling n ds fit)) (names-lengths ds ns fit))

pub record ReadsAs (ds : List Entry) (p : Part) : Type 0 where
  pub distinct : has_distinct_digests p ≡ true
  pub map : is_digest_map p ≡ true
  pub digests : digests_in p ≡ grouped ds
  pub lengths : have_length (digests_in p) ≡ true

names-short : (ds : List Entry) → AreWritable ds → length (map (namespace_pair ds) (namespaces ds)) < 2 ^ 32
names-short ds are = let a = are.few in let b = names-few [] ds in rw (pairs-few (namespace_pair ds) (namespaces ds)) (omega arith)

pub digests-piece : (ds : List Entry) → AreWritable ds → IsPiece 2 (digests_bytes ds)
unfolding digests_bytes
digests-piece ds are = piece-map 1 (map (namespace_pair ds) (namespaces ds)) (namespace-pieces ds (namespaces ds) are (names-fit [] ds are.fit)) (names-short ds are)

digests-pairs : (at : ℕ) (ds : List Entry) → AreWritable ds → pairs_in (record { at = at; bytes = digests_bytes ds }) ≡ Some (entries_from (pairs_begin at (map (namespace_pair ds) (namespaces ds))) (map (namespace_pair ds) (namespaces ds)))
unfolding digests_bytes
digests-pairs at ds are = pairs-written 1 (map (namespace_pair ds) (namespaces ds)) at (namespace-pieces ds (namespaces ds) are (names-fit [] ds are.fit)) (omega arith) (names-short ds are)

pub digests-read : (at : ℕ) (ds : List Entry) → AreWritable ds → ReadsAs ds (record { at = at; bytes = digests_bytes ds })
digests-read at ds are =
    let names = namespaces ds in
    let begin = pairs_begin at (map (namespace_pair ds) names) in
    let all = names-fit [] ds are.fit in
    record {
      distinct = rw (digests-pairs at ds are) (rw (texts-once begin ds names all (names-once [] ds), all-once begin ds names are) refl);
      map = rw (digests-pairs at ds are) (all-namespaces begin ds names are all);
      digests = rw (digests-pairs at ds are) (names-read begin ds names are all);
      lengths = rw (digests-pairs at ds are) (rw (names-read begin ds names are all) (names-lengths ds names are.fit));
    }
