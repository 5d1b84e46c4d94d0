-- Items that stand by their namespaces already are grouped as these namespaces.
use Rattle.std.proofs.Common.{◌≡◌, ℕ, Bool, true, false, ◌&&◌, ◌||◌, not, cond, List, [], ◌∷◌, ◌++◌, map, refl, ap, ◌∙◌}
use Rattle.std.specs.Prelude.{filter}
use Rattle.std.specs.List.{flat_map, list_any}
use Rattle.std.specs.Str.{bytes_eq}
use Rattle.std.proofs.lemmas.Slice.Eq.{bytes_eq-Decides}
use Rattle.doc_response.specs.Answered.{distinct_texts, grouped, of_namespace}
use Rattle.doc_response.specs.WrittenReads.{regrouped, spread_group}
use Rattle.doc_store.specs.Fields.{are_distinct}

abbrev Text : Type 0
Text = List ℕ

abbrev Pair : Type 0
Pair = Text × Text

abbrev Group : Type 0
Group = Text × List Text

abbrev pub names_of : List Pair → List Text
names_of pairs = map (λ (pair : Pair). pair.0) pairs

abbrev pub group_names : List Group → List Text
group_names groups = map (λ (g : Group). g.0) groups

abbrev pub has_items : Group → Bool
has_items (ns, []) = false
has_items (ns, raw ∷ raws) = true

-- ---- texts that are equal

same-text : (a b : Text) → bytes_eq a b ≡ true → a ≡ b
same-text a b e = (bytes_eq-Decides a b).0 e

own-text : (a : Text) → bytes_eq a a ≡ true
own-text a = (bytes_eq-Decides a a).1 refl

mapped : (a b : Text) → bytes_eq a b ≡ false → bytes_eq b a ≡ false
mapped a b e = go (bytes_eq b a) refl where
  go : (t : Bool) → bytes_eq b a ≡ t → bytes_eq b a ≡ false
  go false is = is
  go true is = let same : b ≡ a = same-text b a is in absurd (let own : bytes_eq a b ≡ true = rw same (own-text a) in cc)

-- ---- lists without a text

abbrev is_other : Text → Text → Bool
is_other text other = not (bytes_eq text other)

abbrev lacks : Text → List Text → Type 0
lacks text texts = list_any (bytes_eq text) texts ≡ false

first-lacks : (text other : Text) (texts : List Text) → lacks text (other ∷ texts) → bytes_eq text other ≡ false
first-lacks text other texts e = go (bytes_eq text other) refl e where
  go : (b : Bool) → bytes_eq text other ≡ b → (b || list_any (bytes_eq text) texts) ≡ false → bytes_eq text other ≡ false
  go true is e = absurd (cc)
  go false is e = is

rest-lacks : (text other : Text) (texts : List Text) → lacks text (other ∷ texts) → lacks text texts
rest-lacks text other texts e = go (bytes_eq text other) e where
  go : (b : Bool) → (b || list_any (bytes_eq text) texts) ≡ false → lacks text texts
  go true e = absurd (cc)
  go false e = e

with-other : (text other : Text) (texts : List Text) → bytes_eq text other ≡ false → lacks text texts → lacks text (other ∷ texts)
with-other text other texts e rest = rw e rest

filter-lacks : (text : Text) (q : Text → Bool) (texts : List Text) → lacks text texts → lacks text (filter q texts)
filter-lacks text q [] e = refl
filter-lacks text q (other ∷ texts) e = go (q other) (filter-lacks text q texts (rest-lacks text other texts e)) where
  go : (b : Bool) → lacks text (filter q texts) → lacks text (cond b (other ∷ filter q texts) (filter q texts))
  go true rest = with-other text other (filter q texts) (first-lacks text other texts e) rest
  go false rest = rest

firsts-lacks : (text : Text) (texts : List Text) → lacks text texts → lacks text (distinct_texts texts)
firsts-lacks text [] e = refl
firsts-lacks text (other ∷ texts) e =
    with-other text other (filter (is_other other) (distinct_texts texts)) (first-lacks text other texts e)
    (filter-lacks text (is_other other) (distinct_texts texts) (firsts-lacks text texts (rest-lacks text other texts e)))

kept-all : (text : Text) (texts : List Text) → lacks text texts → filter (is_other text) texts ≡ texts
kept-all text [] e = refl
kept-all text (other ∷ texts) e = rw (first-lacks text other texts e) (ap (λ (x : List Text). other ∷ x) (kept-all text texts (rest-lacks text other texts e)))

none-left : (text : Text) (texts : List Text) → lacks text (filter (is_other text) texts)
none-left text [] = refl
none-left text (other ∷ texts) = go (bytes_eq text other) refl (none-left text texts) where
  go : (b : Bool) → bytes_eq text other ≡ b → lacks text (filter (is_other text) texts) → lacks text (cond (not b) (other ∷ filter (is_other text) texts) (filter (is_other text) texts))
  go true is rest = rest
  go false is rest = with-other text other (filter (is_other text) texts) is rest

twice : (text : Text) (texts : List Text) → filter (is_other text) (filter (is_other text) texts) ≡ filter (is_other text) texts
twice text texts = kept-all text (filter (is_other text) texts) (none-left text texts)

-- ---- the names of a namespace's items, and of others after them

again : (ns : Text) (raws : List Text) (others : List Text) → filter (is_other ns) (distinct_texts (names_of (spread_group (ns, raws)) ++ others)) ≡ filter (is_other ns) (distinct_texts others)
again ns [] others = refl
again ns (raw ∷ raws) others =
    rw (own-text ns) (twice ns (distinct_texts (names_of (spread_group (ns, raws)) ++ others)) ∙ again ns raws others)

both-names : (one other : List Pair) → names_of (one ++ other) ≡ names_of one ++ names_of other
both-names [] other = refl
both-names (pair ∷ one) other = ap (λ (x : List Text). pair.0 ∷ x) (both-names one other)

firsts-of : (ns raw : Text) (raws : List Text) (others : List Pair) → lacks ns (names_of others) →
    distinct_texts (names_of (spread_group (ns, raw ∷ raws) ++ others)) ≡ ns ∷ distinct_texts (names_of others)
firsts-of ns raw raws others e =
    ap (λ (x : List Text). ns ∷ filter (is_other ns) (distinct_texts x)) (both-names (spread_group (ns, raws)) others)
    ∙ ap (λ (x : List Text). ns ∷ x) (again ns raws (names_of others) ∙ kept-all ns (distinct_texts (names_of others)) (firsts-lacks ns (names_of others) e))

-- ---- the items of a namespace among all

abbrev is_of : Text → Pair → Bool
is_of ns pair = bytes_eq pair.0 ns

none-of : (ns : Text) (pairs : List Pair) → lacks ns (names_of pairs) → filter (is_of ns) pairs ≡ []
none-of ns [] e = refl
none-of ns (pair ∷ pairs) e = rw (mapped ns pair.0 (first-lacks ns pair.0 (names_of pairs) e)) (none-of ns pairs (rest-lacks ns pair.0 (names_of pairs) e))

own-items : (ns : Text) (raws : List Text) (others : List Pair) → lacks ns (names_of others) → map (λ (pair : Pair). pair.1) (filter (is_of ns) (spread_group (ns, raws) ++ others)) ≡ raws
own-items ns [] others e = ap (map (λ (pair : Pair). pair.1)) (none-of ns others e)
own-items ns (raw ∷ raws) others e = rw (own-text ns) (ap (λ (x : List Text). raw ∷ x) (own-items ns raws others e))

passed-over : (ns name : Text) (raws : List Text) (others : List Pair) → bytes_eq ns name ≡ false → filter (is_of name) (spread_group (ns, raws) ++ others) ≡ filter (is_of name) others
passed-over ns name [] others e = refl
passed-over ns name (raw ∷ raws) others e = rw e (passed-over ns name raws others e)

others-alike : (ns : Text) (raws : List Text) (others : List Pair) (names : List Text) → lacks ns names →
    map (of_namespace (spread_group (ns, raws) ++ others)) names ≡ map (of_namespace others) names
others-alike ns raws others [] e = refl
others-alike ns raws others (name ∷ names) e =
    ap (λ (x : List Pair). (name, map (λ (pair : Pair). pair.1) x) ∷ map (of_namespace (spread_group (ns, raws) ++ others)) names) (passed-over ns name raws others (first-lacks ns name names e))
    ∙ ap (λ (x : List Group). of_namespace others name ∷ x) (others-alike ns raws others names (rest-lacks ns name names e))

-- ---- all namespaces

spread-lacks : (text ns : Text) (raws : List Text) (others : List Pair) → bytes_eq text ns ≡ false → lacks text (names_of others) → lacks text (names_of (spread_group (ns, raws) ++ others))
spread-lacks text ns [] others e rest = rest
spread-lacks text ns (raw ∷ raws) others e rest = with-other text ns (names_of (spread_group (ns, raws) ++ others)) e (spread-lacks text ns raws others e rest)

all-lack : (text : Text) (groups : List Group) → lacks text (group_names groups) → lacks text (names_of (flat_map spread_group groups))
all-lack text [] e = refl
all-lack text (g ∷ groups) e = spread-lacks text g.0 g.1 (flat_map spread_group groups) (first-lacks text g.0 (group_names groups) e) (all-lack text groups (rest-lacks text g.0 (group_names groups) e))

first-distinct : (text : Text) (texts : List Text) → are_distinct (text ∷ texts) ≡ true → lacks text texts
first-distinct text texts e = go (list_any (bytes_eq text) texts) refl e where
  go : (b : Bool) → list_any (bytes_eq text) texts ≡ b → (not b && are_distinct texts) ≡ true → lacks text texts
  go true is e = absurd (cc)
  go false is e = is

rest-distinct : (text : Text) (texts : List Text) → are_distinct (text ∷ texts) ≡ true → are_distinct texts ≡ true
rest-distinct text texts e = go (list_any (bytes_eq text) texts) e where
  go : (b : Bool) → (not b && are_distinct texts) ≡ true → are_distinct texts ≡ true
  go true e = absurd (cc)
  go false e = e

pub grouped-spread : (groups : List Group) → are_distinct (group_names groups) ≡ true → grouped (flat_map spread_group groups) ≡ filter has_items groups
grouped-spread [] e = refl
grouped-spread ((ns, []) ∷ groups) e = grouped-spread groups (rest-distinct ns (group_names groups) e)
grouped-spread ((ns, raw ∷ raws) ∷ groups) e =
    let others = flat_map spread_group groups in
    let lack = all-lack ns groups (first-distinct ns (group_names groups) e) in
    let items = spread_group (ns, raw ∷ raws) ++ others in
    ap (map (of_namespace items)) (firsts-of ns raw raws others lack)
    ∙ ap (λ (x : List Text). (ns, x) ∷ map (of_namespace items) (distinct_texts (names_of others))) (own-items ns (raw ∷ raws) others lack)
    ∙ ap (λ (x : List Group). (ns, raw ∷ raws) ∷ x) (others-alike ns (raw ∷ raws) others (distinct_texts (names_of others)) (firsts-lacks ns (names_of others) lack) ∙ grouped-spread groups (rest-distinct ns (group_names groups) e))

pub spread-kept : (groups : List Group) → flat_map spread_group (filter has_items groups) ≡ flat_map spread_group groups
spread-kept [] = refl
spread-kept ((ns, []) ∷ groups) = spread-kept groups
spread-kept ((ns, raw ∷ raws) ∷ groups) = ap (λ (x : List Pair). spread_group (ns, raw ∷ raws) ++ x) (spread-kept groups)

pub regrouped-spread : (groups : List Group) → are_distinct (group_names groups) ≡ true → regrouped (flat_map spread_group groups) ≡ flat_map spread_group groups
regrouped-spread groups e = ap (flat_map spread_group) (grouped-spread groups e) ∙ spread-kept groups
