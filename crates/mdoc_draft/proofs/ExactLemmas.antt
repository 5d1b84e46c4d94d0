-- That an answer holds exactly what is released and what is missing.
use Rattle.std.proofs.Common.{◌≡◌, ℕ, Bool, true, false, not, ◌&&◌, ◌||◌, cond, List, [], ◌∷◌, length, map, Option, Some, None, refl, sym, ap, subst, ◌∙◌, ◌⊎◌, inl, inr, arith}
use Rattle.std.specs.Prelude.{filter, filter_map, find, option_map, is_none, All, Contains}
use Rattle.std.specs.List.{AllByRecursion, list_any, cons_option}
use Rattle.std.specs.Str.{bytes_eq}
use Rattle.std.proofs.lemmas.Bool.{and_parts, and_from, not-true, or_parts, both_ways, false_from_ne_true}
use Rattle.std.proofs.lemmas.List.Elements.{All-nil, All-cons, All-map, All-contains, All-contains_itself, All-from_recursion, recursion_from_All, Contains-append_cases, filter_agree}
use Rattle.std.proofs.lemmas.Slice.Eq.{bytes_eq-Decides}
use Rattle.doc_store.specs.Held.{is_named, is_item, held}
use Rattle.issuer_items.specs.Item.{Item}
use Rattle.doc_store.specs.Item.{item}
use Rattle.doc_store.specs.Store.{Copy, Store}
use Rattle.mdoc_outside.specs.OptionSteps.{◌>>=◌}
use Rattle.consent.specs.Rules.{approved}
use Rattle.consent.specs.Wish.{Wanted}
use Rattle.consent.specs.declared.rule.Rule.{Rule}
use Rattle.doc_request.specs.Draft.{are_distinct, is_same_element}
use Rattle.doc_request.specs.declared.doc_draft.DocDraft.{DocDraft}
use Rattle.doc_request.specs.declared.wish_draft.WishDraft.{WishDraft}
use Rattle.doc_response.specs.Answered.{distinct_texts, grouped, has_text, of_namespace}
use Rattle.doc_response.specs.Namespaces.{count_of_text}
use Rattle.mdoc_draft.specs.Core.{item_given, is_missing, full_name, with_namespace}
use Rattle.mdoc_draft.specs.Exact.{IsReleasedFor, IsRefused, IsReleased, IsMissing, StandsOnce, is_of_namespace, OnlyReleased, EachReleasedOnce, OnlyMissing, EachMissingOnce}
use Rattle.mdoc_draft.specs.Released.{answer, shown_copy, wanted_of, wishes_in}

-- ---- texts

same_text : (a b : List ℕ) → bytes_eq a b ≡ true → a ≡ b
same_text a b e = (bytes_eq-Decides a b).0 e

is_text : (a b : List ℕ) → a ≡ b → bytes_eq a b ≡ true
is_text a b e = (bytes_eq-Decides a b).1 e

-- ---- steps that gave a value

bind_some : {A B : Type 0} (o : Option A) (f : A → Option B) (y : B) → (o >>= f) ≡ Some y → (x : A) × (o ≡ Some x) × (f x ≡ Some y)
bind_some None f y e = absurd cc
bind_some (Some x) f y e = (x, refl, e)

cond_some : {A : Type 0} (b : Bool) (o : Option A) (y : A) → cond b o None ≡ Some y → (b ≡ true) × (o ≡ Some y)
cond_some true o y e = (refl, e)
cond_some false o y e = absurd cc

-- ---- what is written under the namespaces

texts-all : (P : List ℕ → List ℕ → Type 0) (ns : List ℕ) (pairs : List (List ℕ × List ℕ)) →
    AllByRecursion (λ pair. P pair.0 pair.1) pairs → AllByRecursion (P ns) (of_namespace pairs ns).1
texts-all P ns [] all = tt
texts-all P ns (pair ∷ pairs) all = either (texts-all P ns pairs all.1) (bytes_eq pair.0 ns) refl where
  either : AllByRecursion (P ns) (of_namespace pairs ns).1 → (b : Bool) → bytes_eq pair.0 ns ≡ b →
      AllByRecursion (P ns) (map (λ (p : List ℕ × List ℕ). p.1) (cond b (pair ∷ filter (λ (p : List ℕ × List ℕ). bytes_eq p.0 ns) pairs) (filter (λ (p : List ℕ × List ℕ). bytes_eq p.0 ns) pairs)))
  either rest true e = (subst (λ (s : List ℕ). P s pair.1) (same_text pair.0 ns e) all.0, rest)
  either rest false e = rest

-- what holds of each pair holds of each text under its namespace
grouped-all : (P : List ℕ → List ℕ → Type 0) (pairs : List (List ℕ × List ℕ)) →
    AllByRecursion (λ pair. P pair.0 pair.1) pairs → All (λ group. All (P group.0) group.1) (grouped pairs)
grouped-all P pairs all =
    All-map (λ (group : List ℕ × List (List ℕ)). All (P group.0) group.1) (of_namespace pairs) (distinct_texts (map (λ (pair : List ℕ × List ℕ). pair.0) pairs))
    (λ k d h. All-from_recursion (P _) _ (texts-all P _ pairs all))

-- ---- the answer to a wish

-- the answer is an item that is released
released_for : (rules : List Rule) (reader : Option (List ℕ)) (documents : Store) (asked : DocDraft) (wish : Wanted) (raw : List ℕ) →
    Contains (wishes_in asked) wish → answer rules reader (shown_copy documents asked.doc_type) wish ≡ Some raw →
    IsReleasedFor rules reader documents asked wish raw
released_for rules reader documents asked wish raw wished e =
    let allowed = cond_some (approved rules reader wish) (shown_copy documents asked.doc_type >>= λ shown. held shown wish.ns wish.name) raw e in
    let there = bind_some (shown_copy documents asked.doc_type) (λ shown. held shown wish.ns wish.name) raw allowed.1 in
    record { wished = wished; allowed = allowed.0; copy = there.0; shown = there.1; there = there.2 }

-- and such an item is the answer
answer_released : (rules : List Rule) (reader : Option (List ℕ)) (documents : Store) (asked : DocDraft) (wish : Wanted) (raw : List ℕ) →
    IsReleasedFor rules reader documents asked wish raw → answer rules reader (shown_copy documents asked.doc_type) wish ≡ Some raw
answer_released rules reader documents asked wish raw released =
    ap (λ (copy : Option Copy). answer rules reader copy wish) released.shown
    ∙ ap (λ (b : Bool). cond b (held released.copy wish.ns wish.name) None) released.allowed
    ∙ released.there

-- ---- only what is released

items-released : (rules : List Rule) (reader : Option (List ℕ)) (documents : Store) (asked : DocDraft) (wishes : List Wanted) →
    AllByRecursion (Contains (wishes_in asked)) wishes →
    AllByRecursion (λ (pair : List ℕ × List ℕ). IsReleased rules reader documents asked pair.0 pair.1)
    (filter_map (item_given rules reader (shown_copy documents asked.doc_type)) wishes)
items-released rules reader documents asked [] wished = tt
items-released rules reader documents asked (wish ∷ wishes) wished =
    either (items-released rules reader documents asked wishes wished.1) (answer rules reader (shown_copy documents asked.doc_type) wish) refl where
      either : AllByRecursion (λ (pair : List ℕ × List ℕ). IsReleased rules reader documents asked pair.0 pair.1)
          (filter_map (item_given rules reader (shown_copy documents asked.doc_type)) wishes) →
          (o : Option (List ℕ)) → answer rules reader (shown_copy documents asked.doc_type) wish ≡ o →
          AllByRecursion (λ (pair : List ℕ × List ℕ). IsReleased rules reader documents asked pair.0 pair.1)
          (cons_option (option_map (with_namespace wish) o) (filter_map (item_given rules reader (shown_copy documents asked.doc_type)) wishes))
      either rest None e = rest
      either rest (Some raw) e = (
        record { wish = wish; same_ns = refl; for_wish = released_for rules reader documents asked wish raw wished.0 e },
        rest,
      )

wished-all : (asked : DocDraft) → AllByRecursion (Contains (wishes_in asked)) (wishes_in asked)
wished-all asked = recursion_from_All (Contains (wishes_in asked)) (wishes_in asked) (All-contains_itself (wishes_in asked))

pub only_released : OnlyReleased
only_released rules reader documents asked =
    grouped-all (IsReleased rules reader documents asked) _ (items-released rules reader documents asked (wishes_in asked) (wished-all asked))

-- ---- one group of a namespace

filter-filter : {A : Type 0} (p q : A → Bool) (xs : List A) → filter p (filter q xs) ≡ filter (λ x. q x && p x) xs
filter-filter p q [] = refl
filter-filter p q (x ∷ xs) = either (q x) (filter-filter p q xs) where
  either : (b : Bool) → filter p (filter q xs) ≡ filter (λ x. q x && p x) xs →
      filter p (cond b (x ∷ filter q xs) (filter q xs)) ≡ cond (b && p x) (x ∷ filter (λ x. q x && p x) xs) (filter (λ x. q x && p x) xs)
  either true rest = rw rest refl
  either false rest = rest

filter-map : {A B : Type 0} (p : B → Bool) (f : A → B) (xs : List A) → filter p (map f xs) ≡ map f (filter (λ x. p (f x)) xs)
filter-map p f [] = refl
filter-map p f (x ∷ xs) = either (p (f x)) (filter-map p f xs) where
  either : (b : Bool) → filter p (map f xs) ≡ map f (filter (λ x. p (f x)) xs) →
      cond b (f x ∷ filter p (map f xs)) (filter p (map f xs)) ≡ map f (cond b (x ∷ filter (λ x. p (f x)) xs) (filter (λ x. p (f x)) xs))
  either true rest = rw rest refl
  either false rest = rest

filter-none : {A : Type 0} (p : A → Bool) (xs : List A) → ((x : A) → p x ≡ false) → filter p xs ≡ []
filter-none p [] none = refl
filter-none p (x ∷ xs) none = rw (none x) (filter-none p xs none)

-- the others than a text have it nowhere
others-none : (ns other : List ℕ) → (not (bytes_eq ns other) && bytes_eq other ns) ≡ false
others-none ns other = either (bytes_eq ns other) (bytes_eq other ns) refl refl where
  either : (b c : Bool) → bytes_eq ns other ≡ b → bytes_eq other ns ≡ c → (not b && c) ≡ false
  either true c e h = refl
  either false false e h = refl
  either false true e h = sym (is_text ns other (sym (same_text other ns h))) ∙ e

-- and the others than another text have it where it was
others-alike : (text ns : List ℕ) → bytes_eq text ns ≡ false → (other : List ℕ) → (not (bytes_eq text other) && bytes_eq other ns) ≡ bytes_eq other ns
others-alike text ns apart other = either (bytes_eq text other) refl where
  either : (b : Bool) → bytes_eq text other ≡ b → (not b && bytes_eq other ns) ≡ bytes_eq other ns
  either false e = refl
  either true e = sym (ap (λ (t : List ℕ). bytes_eq t ns) (sym (same_text text other e)) ∙ apart)

firsts-one : (ns : List ℕ) (texts : List (List ℕ)) → has_text ns texts ≡ true → filter (λ (text : List ℕ). bytes_eq text ns) (distinct_texts texts) ≡ ns ∷ []
firsts-one ns [] h = absurd cc
firsts-one ns (text ∷ texts) h = either (bytes_eq text ns) refl (λ k. firsts-one ns texts k) h where
  either : (b : Bool) → bytes_eq text ns ≡ b →
      (has_text ns texts ≡ true → filter (λ (t : List ℕ). bytes_eq t ns) (distinct_texts texts) ≡ ns ∷ []) → (b || has_text ns texts) ≡ true →
      cond b (text ∷ filter (λ (t : List ℕ). bytes_eq t ns) (filter (λ (t : List ℕ). not (bytes_eq text t)) (distinct_texts texts)))
      (filter (λ (t : List ℕ). bytes_eq t ns) (filter (λ (t : List ℕ). not (bytes_eq text t)) (distinct_texts texts)))
      ≡ ns ∷ []
  either false e rest h =
      filter-filter (λ (t : List ℕ). bytes_eq t ns) (λ (t : List ℕ). not (bytes_eq text t)) (distinct_texts texts)
      ∙ filter_agree _ _ (others-alike text ns e) (distinct_texts texts) ∙ rest h
  either true e rest h =
      let same : text ≡ ns = same_text text ns e in
      let none : filter (λ (t : List ℕ). bytes_eq t ns) (filter (λ (t : List ℕ). not (bytes_eq text t)) (distinct_texts texts)) ≡ [] =
      filter-filter (λ (t : List ℕ). bytes_eq t ns) (λ (t : List ℕ). not (bytes_eq text t)) (distinct_texts texts)
      ∙ filter-none _ (distinct_texts texts) (λ other. ap (λ (t : List ℕ). not (bytes_eq t other) && bytes_eq other ns) same ∙ others-none ns other) in
      rw (none, same) refl

groups-one : (pairs : List (List ℕ × List ℕ)) (ns : List ℕ) → has_text ns (map (λ (pair : List ℕ × List ℕ). pair.0) pairs) ≡ true →
    filter (is_of_namespace ns) (grouped pairs) ≡ of_namespace pairs ns ∷ []
groups-one pairs ns has =
    filter-map (is_of_namespace ns) (of_namespace pairs) (distinct_texts (map (λ (pair : List ℕ × List ℕ). pair.0) pairs))
    ∙ ap (map (of_namespace pairs)) (firsts-one ns (map (λ (pair : List ℕ × List ℕ). pair.0) pairs) has)

texts-none : (ns : List ℕ) (pairs : List (List ℕ × List ℕ)) → has_text ns (map (λ (pair : List ℕ × List ℕ). pair.0) pairs) ≡ false →
    (of_namespace pairs ns).1 ≡ []
texts-none ns [] none = refl
texts-none ns (pair ∷ pairs) none =
    let parts = or_parts (bytes_eq pair.0 ns) (has_text ns (map (λ (p : List ℕ × List ℕ). p.0) pairs)) none in
    rw parts.0 (texts-none ns pairs parts.1)

-- what stands once among the texts of its namespace stands once in the groups
once : (pairs : List (List ℕ × List ℕ)) (ns text : List ℕ) → count_of_text text (of_namespace pairs ns).1 ≡ 1 → StandsOnce (grouped pairs) ns text
once pairs ns text e = record {
  texts = (of_namespace pairs ns).1;
  one_group = groups-one pairs ns (found (has_text ns (map (λ (pair : List ℕ × List ℕ). pair.0) pairs)) refl);
  one_place = e;
} where
  found : (b : Bool) → has_text ns (map (λ (pair : List ℕ × List ℕ). pair.0) pairs) ≡ b → b ≡ true
  found true h = refl
  found false h =
      let none : count_of_text text (of_namespace pairs ns).1 ≡ 0 = ap (count_of_text text) (texts-none ns pairs h) in
      absurd (omega arith)

-- ---- how often something is given

-- whether what is given for a wish is this
abbrev is_hit : List ℕ → List ℕ → Option (List ℕ × List ℕ) → Bool
is_hit ns text None = false
is_hit ns text (Some pair) = bytes_eq pair.0 ns && bytes_eq pair.1 text

one_longer : {A B : Type 0} (b : Bool) (x : A) (xs : List A) (y : B) (ys : List B) → length xs ≡ length ys → length (cond b (x ∷ xs) xs) ≡ length (cond b (y ∷ ys) ys)
one_longer true x xs y ys e = rw e refl
one_longer false x xs y ys e = e

-- as often as wishes give it
count-hits : (give : Wanted → Option (List ℕ × List ℕ)) (ns text : List ℕ) (wishes : List Wanted) →
    count_of_text text (of_namespace (filter_map give wishes) ns).1 ≡ length (filter (λ (wish : Wanted). is_hit ns text (give wish)) wishes)
count-hits give ns text [] = refl
count-hits give ns text (wish ∷ wishes) = either (count-hits give ns text wishes) (give wish) where
  space : (b : Bool) (pair : List ℕ × List ℕ) →
      count_of_text text (of_namespace (filter_map give wishes) ns).1 ≡ length (filter (λ (w : Wanted). is_hit ns text (give w)) wishes) →
      count_of_text text (map (λ (p : List ℕ × List ℕ). p.1) (cond b (pair ∷ filter (λ (p : List ℕ × List ℕ). bytes_eq p.0 ns) (filter_map give wishes)) (filter (λ (p : List ℕ × List ℕ). bytes_eq p.0 ns) (filter_map give wishes))))
      ≡ length (cond (b && bytes_eq pair.1 text) (wish ∷ filter (λ (w : Wanted). is_hit ns text (give w)) wishes) (filter (λ (w : Wanted). is_hit ns text (give w)) wishes))
  space true pair rest = one_longer (bytes_eq pair.1 text) pair.1 _ wish _ rest
  space false pair rest = rest

  either : count_of_text text (of_namespace (filter_map give wishes) ns).1 ≡ length (filter (λ (w : Wanted). is_hit ns text (give w)) wishes) →
      (o : Option (List ℕ × List ℕ)) → count_of_text text (of_namespace (cons_option o (filter_map give wishes)) ns).1
      ≡ length (cond (is_hit ns text o) (wish ∷ filter (λ (w : Wanted). is_hit ns text (give w)) wishes) (filter (λ (w : Wanted). is_hit ns text (give w)) wishes))
  either rest None = rest
  either rest (Some pair) = space (bytes_eq pair.0 ns) pair rest

-- ---- one wish for one element

Contains-cases : (first : Wanted) (wishes : List Wanted) (wish : Wanted) → Contains (first ∷ wishes) wish → (first ≡ wish) ⊎ Contains wishes wish
Contains-cases first wishes wish contains = either (Contains-append_cases (first ∷ []) wishes wish contains) where
  either : Contains (first ∷ []) wish ⊎ Contains wishes wish → (first ≡ wish) ⊎ Contains wishes wish
  either (inl one) = inl (All-contains (λ (w : Wanted). first ≡ w) (first ∷ []) wish (All-cons (λ (w : Wanted). first ≡ w) first [] refl (All-nil (λ (w : Wanted). first ≡ w))) one)
  either (inr others) = inr others

no_hit : (to : WishDraft → Wanted) (p : Wanted → Bool) (q : WishDraft → Bool) (wishes : List WishDraft) → list_any q wishes ≡ false →
    ((wish : WishDraft) → p (to wish) ≡ true → q wish ≡ true) → length (filter p (map to wishes)) ≡ 0
no_hit to p q [] none only = refl
no_hit to p q (wish ∷ wishes) none only =
    let parts = or_parts (q wish) (list_any q wishes) none in
    let fails : p (to wish) ≡ false = false_from_ne_true (p (to wish)) (λ h. both_ways (q wish) parts.0 (only wish h)) in
    rw fails (no_hit to p q wishes parts.1 only)

-- Of wishes for different elements one passes, where those that pass are for one element.
one_hit : (to : WishDraft → Wanted) (p : Wanted → Bool) (wishes : List WishDraft) (wish : Wanted) → are_distinct wishes ≡ true →
    Contains (map to wishes) wish → p wish ≡ true → ((a b : WishDraft) → p (to a) ≡ true → p (to b) ≡ true → is_same_element a b ≡ true) →
    length (filter p (map to wishes)) ≡ 1
one_hit to p [] wish distinct contains hit same = absurd (omega (arith, contains.1))
one_hit to p (first ∷ wishes) wish distinct contains hit same =
    let parts = and_parts (not (list_any (is_same_element first) wishes)) (are_distinct wishes) distinct in
    let apart = not-true (list_any (is_same_element first) wishes) parts.0 in
    either (p (to first)) refl apart (λ among. one_hit to p wishes wish parts.1 among hit same) (Contains-cases (to first) (map to wishes) wish contains) where
      either : (b : Bool) → p (to first) ≡ b → list_any (is_same_element first) wishes ≡ false →
          (Contains (map to wishes) wish → length (filter p (map to wishes)) ≡ 1) → (to first ≡ wish) ⊎ Contains (map to wishes) wish →
          length (cond b (to first ∷ filter p (map to wishes)) (filter p (map to wishes))) ≡ 1
      either true e apart rest cases = rw (no_hit to p (is_same_element first) wishes apart (λ other h. same first other e h)) refl
      either false e apart rest (inl is) = absurd (both_ways (p (to first)) e (ap p is ∙ hit))
      either false e apart rest (inr among) = rest among

-- ---- each item that is released

-- the item that a copy holds has the name
named-held : (ns name raw : List ℕ) (items : List (List ℕ × List ℕ)) →
    option_map (λ (stored : List ℕ × List ℕ). stored.1) (find (is_item ns name) items) ≡ Some raw → is_named name (item raw) ≡ true
named-held ns name raw [] e = absurd cc
named-held ns name raw (stored ∷ items) e = either (is_item ns name stored) refl (λ k. named-held ns name raw items k) e where
  either : (b : Bool) → is_item ns name stored ≡ b →
      (option_map (λ (s : List ℕ × List ℕ). s.1) (find (is_item ns name) items) ≡ Some raw → is_named name (item raw) ≡ true) →
      option_map (λ (s : List ℕ × List ℕ). s.1) (cond b (Some stored) (find (is_item ns name) items)) ≡ Some raw → is_named name (item raw) ≡ true
  either true t rest e =
      let same : stored.1 ≡ raw = cc in
      subst (λ (r : List ℕ). is_named name (item r) ≡ true) same (and_parts (bytes_eq stored.0 ns) (is_named name (item stored.1)) t).1
  either false t rest e = rest e

-- so an item has one name
same_name : (a b : List ℕ) (read : Option Item) → is_named a read ≡ true → is_named b read ≡ true → a ≡ b
same_name a b None h k = absurd cc
same_name a b (Some read) h k = sym (same_text read.name a h) ∙ same_text read.name b k

hit-item : (rules : List Rule) (reader : Option (List ℕ)) (copy : Option Copy) (wish : Wanted) (ns raw : List ℕ) →
    is_hit ns raw (item_given rules reader copy wish) ≡ true → (wish.ns ≡ ns) × (is_named wish.name (item raw) ≡ true)
hit-item rules reader copy wish ns raw hit = either (answer rules reader copy wish) refl hit where
  either : (o : Option (List ℕ)) → answer rules reader copy wish ≡ o → is_hit ns raw (option_map (with_namespace wish) o) ≡ true →
      (wish.ns ≡ ns) × (is_named wish.name (item raw) ≡ true)
  either None e h = absurd cc
  either (Some found) e h =
      let parts = and_parts (bytes_eq wish.ns ns) (bytes_eq found raw) h in
      let allowed = cond_some (approved rules reader wish) (copy >>= λ shown. held shown wish.ns wish.name) found e in
      let there = bind_some copy (λ shown. held shown wish.ns wish.name) found allowed.1 in
      (same_text wish.ns ns parts.0, subst (λ (r : List ℕ). is_named wish.name (item r) ≡ true) (same_text found raw parts.1) (named-held wish.ns wish.name found there.0.items there.2))

pub each_released_once : EachReleasedOnce
each_released_once rules reader documents asked wish raw distinct released =
    let give = item_given rules reader (shown_copy documents asked.doc_type) in
    let to = wanted_of asked.doc_type in
    let hit : is_hit wish.ns raw (give wish) ≡ true =
    ap (λ (o : Option (List ℕ)). is_hit wish.ns raw (option_map (with_namespace wish) o)) (answer_released rules reader documents asked wish raw released)
    ∙ and_from (bytes_eq wish.ns wish.ns) (bytes_eq raw raw) (is_text wish.ns wish.ns refl) (is_text raw raw refl) in
    once (filter_map give (wishes_in asked)) wish.ns raw
    (count-hits give wish.ns raw (wishes_in asked)
    ∙ one_hit to (λ (w : Wanted). is_hit wish.ns raw (give w)) asked.wishes wish distinct released.wished hit (λ a b h k.
    let one = hit-item rules reader (shown_copy documents asked.doc_type) (to a) wish.ns raw h in
    let other = hit-item rules reader (shown_copy documents asked.doc_type) (to b) wish.ns raw k in
    and_from (bytes_eq a.ns b.ns) (bytes_eq a.name b.name) (is_text a.ns b.ns (one.0 ∙ sym other.0)) (is_text a.name b.name (same_name a.name b.name (item raw) one.1 other.1))))

-- ---- the wishes for which nothing is released

refused_for : (rules : List Rule) (reader : Option (List ℕ)) (documents : Store) (asked : DocDraft) (wish : Wanted) →
    Contains (wishes_in asked) wish → answer rules reader (shown_copy documents asked.doc_type) wish ≡ None → IsRefused rules reader documents asked wish
refused_for rules reader documents asked wish wished e = record {
  wished = wished;
  nothing = λ raw released. let given = answer_released rules reader documents asked wish raw released in absurd cc;
}

names-missing : (rules : List Rule) (reader : Option (List ℕ)) (documents : Store) (asked : DocDraft) (wishes : List Wanted) →
    AllByRecursion (Contains (wishes_in asked)) wishes →
    AllByRecursion (λ (pair : List ℕ × List ℕ). IsMissing rules reader documents asked pair.0 pair.1)
    (map full_name (filter (is_missing rules reader (shown_copy documents asked.doc_type)) wishes))
names-missing rules reader documents asked [] wished = tt
names-missing rules reader documents asked (wish ∷ wishes) wished =
    either (names-missing rules reader documents asked wishes wished.1) (answer rules reader (shown_copy documents asked.doc_type) wish) refl where
      either : AllByRecursion (λ (pair : List ℕ × List ℕ). IsMissing rules reader documents asked pair.0 pair.1)
          (map full_name (filter (is_missing rules reader (shown_copy documents asked.doc_type)) wishes)) →
          (o : Option (List ℕ)) → answer rules reader (shown_copy documents asked.doc_type) wish ≡ o →
          AllByRecursion (λ (pair : List ℕ × List ℕ). IsMissing rules reader documents asked pair.0 pair.1)
          (map full_name (cond (is_none o) (wish ∷ filter (is_missing rules reader (shown_copy documents asked.doc_type)) wishes)
          (filter (is_missing rules reader (shown_copy documents asked.doc_type)) wishes)))
      either rest None e = (
        record { wish = wish; same_ns = refl; same_name = refl; of_wish = refused_for rules reader documents asked wish wished.0 e },
        rest,
      )
      either rest (Some raw) e = rest

pub only_missing : OnlyMissing
only_missing rules reader documents asked =
    grouped-all (IsMissing rules reader documents asked) _ (names-missing rules reader documents asked (wishes_in asked) (wished-all asked))

-- what is given of a wish that passes
abbrev given_where : {A B : Type 0} → (A → Bool) → (A → B) → A → Option B
given_where p f x = cond (p x) (Some (f x)) None

map-filter : {A B : Type 0} (p : A → Bool) (f : A → B) (xs : List A) → map f (filter p xs) ≡ filter_map (given_where p f) xs
map-filter p f [] = refl
map-filter p f (x ∷ xs) = either (p x) (map-filter p f xs) where
  either : (b : Bool) → map f (filter p xs) ≡ filter_map (given_where p f) xs →
      map f (cond b (x ∷ filter p xs) (filter p xs)) ≡ cons_option (cond b (Some (f x)) None) (filter_map (given_where p f) xs)
  either true rest = rw rest refl
  either false rest = rest

hit-name : (p : Wanted → Bool) (wish : Wanted) (ns name : List ℕ) → is_hit ns name (given_where p full_name wish) ≡ true → (wish.ns ≡ ns) × (wish.name ≡ name)
hit-name p wish ns name hit = either (p wish) hit where
  either : (b : Bool) → is_hit ns name (cond b (Some (full_name wish)) None) ≡ true → (wish.ns ≡ ns) × (wish.name ≡ name)
  either true h =
      let parts = and_parts (bytes_eq wish.ns ns) (bytes_eq wish.name name) h in
      (same_text wish.ns ns parts.0, same_text wish.name name parts.1)
  either false h = absurd cc

-- a refused wish has no answer
none_given : (rules : List Rule) (reader : Option (List ℕ)) (documents : Store) (asked : DocDraft) (wish : Wanted) →
    IsRefused rules reader documents asked wish → is_missing rules reader (shown_copy documents asked.doc_type) wish ≡ true
none_given rules reader documents asked wish refused = either (answer rules reader (shown_copy documents asked.doc_type) wish) refl where
  either : (o : Option (List ℕ)) → answer rules reader (shown_copy documents asked.doc_type) wish ≡ o → is_none o ≡ true
  either None e = refl
  either (Some raw) e = absurd (refused.nothing raw (released_for rules reader documents asked wish raw refused.wished e))

pub each_missing_once : EachMissingOnce
each_missing_once rules reader documents asked wish distinct refused =
    let missing = is_missing rules reader (shown_copy documents asked.doc_type) in
    let give = given_where missing full_name in
    let to = wanted_of asked.doc_type in
    let hit : is_hit wish.ns wish.name (give wish) ≡ true =
    ap (λ (b : Bool). is_hit wish.ns wish.name (cond b (Some (full_name wish)) None)) (none_given rules reader documents asked wish refused)
    ∙ and_from (bytes_eq wish.ns wish.ns) (bytes_eq wish.name wish.name) (is_text wish.ns wish.ns refl) (is_text wish.name wish.name refl) in
    once (map full_name (filter missing (wishes_in asked))) wish.ns wish.name
    (ap (λ (pairs : List (List ℕ × List ℕ)). count_of_text wish.name (of_namespace pairs wish.ns).1) (map-filter missing full_name (wishes_in asked))
    ∙ count-hits give wish.ns wish.name (wishes_in asked)
    ∙ one_hit to (λ (w : Wanted). is_hit wish.ns wish.name (give w)) asked.wishes wish distinct refused.wished hit (λ a b h k.
    let one = hit-name missing (to a) wish.ns wish.name h in
    let other = hit-name missing (to b) wish.ns wish.name k in
    and_from (bytes_eq a.ns b.ns) (bytes_eq a.name b.name) (is_text a.ns b.ns (one.0 ∙ sym other.0)) (is_text a.name b.name (one.1 ∙ sym other.1))))
