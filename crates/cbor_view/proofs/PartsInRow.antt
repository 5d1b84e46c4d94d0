-- The parts of a whole item stand in a row after its head, and nothing else does.
use Rattle.std.proofs.Common.{◌≡◌, ℕ, zero, suc, ◌+◌, ◌<◌, ◌≤◌, List, [], ◌∷◌, ◌++◌, length, Some, None, Ok, refl, sym, ap, ◌∙◌, subst, arith}
use Rattle.std.proofs.lemmas.List.{length-append, append-nil}
use Rattle.std.proofs.Math.Nat.{le-max_left, le-max_right}
use Rattle.cbor_view.specs.declared.heads.Head.{Head}
use Rattle.cbor_view.specs.declared.heads.Head.TheVariants as heads
use Rattle.cbor_view.specs.Tree.{Tree, Unsigned, Negative, Bytes, Text, Array, Map, Tag, Simple, Float, Trees, none, more, Pairs, no_pair, pair, count, pair_count, levels, levels_of_all, levels_of_pairs}
use Rattle.cbor_view.specs.Spelling.{Spelled, AllSpelled, PairsSpelled}
use Rattle.cbor_view.specs.Reading.{head_at}
use Rattle.cbor_view.specs.Parts.{Part, first_part, after_first, parts_at, entries_at, body_of, array_after, map_after, tag_after, items_in, pairs_in, tag_in}
use Rattle.cbor_view.specs.PartialSpelling.{StandsFirst, StandInRow, keys_and_values, IsEnd, IsMadeOf}
use Rattle.cbor_view.proofs.HeadReading.{HeadOf, typed-again}
use Rattle.cbor_view.proofs.PartialParts.{first-is, parts-more, entries-more}
use Rattle.cbor_view.proofs.PartialCounts.{parts-counted}
use Rattle.cbor_view.proofs.PartialStands.{headed}

-- ---- rows

-- the place after bytes
abbrev end_of : ℕ → List ℕ → Part
end_of at bytes = record { at = at + length bytes; bytes = [] }

end-at : (at : ℕ) (body : List ℕ) → body ≡ [] → end_of at body ≡ record { at = at; bytes = body }
end-at at body e =
    let n : at + length body ≡ at = omega (arith, ap length e) in
    ap (λ (m : ℕ). record { at = m; bytes = [] }) n ∙ ap (λ (x : List ℕ). record { at = at; bytes = x }) (sym e)

end-moved : (at : ℕ) (f behind : List ℕ) → end_of (at + length f) behind ≡ end_of at (f ++ behind)
end-moved at f behind = let n : at + length f + length behind ≡ at + length (f ++ behind) = omega (arith, length-append f behind) in ap (λ (m : ℕ). record { at = m; bytes = [] }) n

one-first : (t : Tree) (inside at : ℕ) (f behind : List ℕ) → Spelled t f → inside + levels t ≤ 32 → StandsFirst inside (record { at = at; bytes = f ++ behind }) (record { at = at; bytes = f }) (record { at = at + length f; bytes = behind })
one-first t inside at f behind s l = record { tree = t; spelled = s; nesting = l; bytes = refl; place = refl; next = refl }

no-parts : (inside at : ℕ) (body : List ℕ) → body ≡ [] → StandInRow inside (parts_at 0 (record { at = at; bytes = body })) (end_of at body) (record { at = at; bytes = body })
unfolding parts_at
no-parts inside at body e = end-at at body e

more-parts : (t : Tree) (n inside at : ℕ) (f behind : List ℕ) → Spelled t f → inside + levels t ≤ 32 → StandInRow inside (parts_at n (record { at = at + length f; bytes = behind })) (end_of (at + length f) behind) (record { at = at + length f; bytes = behind }) → StandInRow inside (parts_at (suc n) (record { at = at; bytes = f ++ behind })) (end_of at (f ++ behind)) (record { at = at; bytes = f ++ behind })
more-parts t n inside at f behind s l row =
    let i = first-is 32 at t f behind [] s (omega arith) (omega arith) in
    let q : Part = record { at = at; bytes = f ++ behind } in
    let a : Part = record { at = at; bytes = f } in
    let b : Part = record { at = at + length f; bytes = behind } in
    let parts : parts_at (suc n) q ≡ a ∷ parts_at n b = parts-more n q ∙ (ap (λ (x : Part). x ∷ parts_at n (after_first q)) i.first ∙ ap (λ (x : Part). a ∷ parts_at n x) i.after) in
    let others : StandInRow inside (parts_at n b) (end_of at (f ++ behind)) b = subst (λ (e : Part). StandInRow inside (parts_at n b) e b) (end-moved at f behind) row in
    subst (λ (ps : List Part). StandInRow inside ps (end_of at (f ++ behind)) q) (sym parts) (record { mid = b; first = one-first t inside at f behind s l; others = others })

parts-row : (ts : Trees) (inside at : ℕ) (body : List ℕ) → AllSpelled ts body → inside + levels_of_all ts ≤ 32 → StandInRow inside (parts_at (count ts) (record { at = at; bytes = body })) (end_of at body) (record { at = at; bytes = body })
parts-row none inside at body s l = no-parts inside at body s
parts-row (more t ts) inside at body s l =
    let a : inside + levels t ≤ 32 = omega (arith, le-max_left (levels t) (levels_of_all ts)) in
    let b : inside + levels_of_all ts ≤ 32 = omega (arith, le-max_right (levels t) (levels_of_all ts)) in
    subst (λ (x : List ℕ). StandInRow inside (parts_at (suc (count ts)) (record { at = at; bytes = x })) (end_of at x) (record { at = at; bytes = x })) (sym s.whole)
    (more-parts t (count ts) inside at s.front s.rest s.first a (parts-row ts inside (at + length s.front) s.rest s.second b))

no-entries : (inside at : ℕ) (body : List ℕ) → body ≡ [] → StandInRow inside (keys_and_values (entries_at 0 (record { at = at; bytes = body }))) (end_of at body) (record { at = at; bytes = body })
unfolding entries_at
no-entries inside at body e = end-at at body e

more-entries : (t u : Tree) (n inside at : ℕ) (k v behind : List ℕ) → Spelled t k → Spelled u v → inside + levels t ≤ 32 → inside + levels u ≤ 32 → StandInRow inside (keys_and_values (entries_at n (record { at = at + length k + length v; bytes = behind }))) (end_of (at + length k + length v) behind) (record { at = at + length k + length v; bytes = behind }) → StandInRow inside (keys_and_values (entries_at (suc n) (record { at = at; bytes = k ++ (v ++ behind) }))) (end_of at (k ++ (v ++ behind))) (record { at = at; bytes = k ++ (v ++ behind) })
more-entries t u n inside at k v behind s r l m row =
    let i = first-is 32 at t k (v ++ behind) [] s (omega arith) (omega arith) in
    let j = first-is 32 (at + length k) u v behind [] r (omega arith) (omega arith) in
    let q : Part = record { at = at; bytes = k ++ (v ++ behind) } in
    let key : Part = record { at = at; bytes = k } in
    let value : Part = record { at = at + length k; bytes = v } in
    let mid : Part = record { at = at + length k; bytes = v ++ behind } in
    let end : Part = record { at = at + length k + length v; bytes = behind } in
    let entries : entries_at (suc n) q ≡ (key, value) ∷ entries_at n end =
    entries-more n q
    ∙ (ap (λ (x : Part). (x, first_part (after_first q)) ∷ entries_at n (after_first (after_first q))) i.first
    ∙ (ap (λ (x : Part). (key, first_part x) ∷ entries_at n (after_first x)) i.after
    ∙ (ap (λ (x : Part). (key, x) ∷ entries_at n (after_first mid)) j.first ∙ ap (λ (x : Part). (key, value) ∷ entries_at n x) j.after))) in
    let moved : end_of (at + length k + length v) behind ≡ end_of at (k ++ (v ++ behind)) = end-moved (at + length k) v behind ∙ end-moved at k (v ++ behind) in
    let others : StandInRow inside (keys_and_values (entries_at n end)) (end_of at (k ++ (v ++ behind))) end = subst (λ (e : Part). StandInRow inside (keys_and_values (entries_at n end)) e end) moved row in
    subst (λ (es : List (Part × Part)). StandInRow inside (keys_and_values es) (end_of at (k ++ (v ++ behind))) q) (sym entries)
    (record { mid = mid; first = one-first t inside at k (v ++ behind) s l; others = record { mid = end; first = one-first u inside (at + length k) v behind r m; others = others } })

entries-row : (ps : Pairs) (inside at : ℕ) (body : List ℕ) → PairsSpelled ps body → inside + levels_of_pairs ps ≤ 32 → StandInRow inside (keys_and_values (entries_at (pair_count ps) (record { at = at; bytes = body }))) (end_of at body) (record { at = at; bytes = body })
entries-row no_pair inside at body s l = no-entries inside at body s
entries-row (pair k v ps) inside at body s l =
    let a : inside + levels k ≤ 32 = omega arith in
    let b : inside + levels v ≤ 32 = omega arith in
    let c : inside + levels_of_pairs ps ≤ 32 = omega arith in
    let whole : body ≡ s.front ++ (s.second.front ++ s.second.rest) = s.whole ∙ ap (λ x. s.front ++ x) s.second.whole in
    subst (λ (x : List ℕ). StandInRow inside (keys_and_values (entries_at (suc (pair_count ps)) (record { at = at; bytes = x }))) (end_of at x) (record { at = at; bytes = x })) (sym whole)
    (more-entries k v (pair_count ps) inside at s.front s.second.front s.second.rest s.first s.second.first a b (entries-row ps inside (at + length s.front + length s.second.front) s.second.rest s.second.second c))

entries-counted : (n : ℕ) (p : Part) → length (entries_at n p) ≡ n
unfolding entries_at
entries-counted zero p = refl
entries-counted (suc n) p = ap suc (entries-counted n (after_first (after_first p)))

-- ---- the head of each kind

head-read : (p : Part) (front rest : List ℕ) (h : Head) → p.bytes ≡ front ++ rest → HeadOf h front → head_at p.bytes ≡ Ok (h, rest)
head-read p front rest h w is = ap head_at w ∙ typed-again h front rest is

alone : (p : Part) (h : Head) → HeadOf h p.bytes → head_at p.bytes ≡ Ok (h, [])
alone p h is = head-read p p.bytes [] h (sym (append-nil p.bytes)) is

no-items : (p : Part) (h : Head) (rest : List ℕ) (items : List Part) → head_at p.bytes ≡ Ok (h, rest) → array_after p (Ok (h, rest)) ≡ None → items_in p ≡ Some items → IsMadeOf 4 (length items) items p
no-items p h rest items e n is = let k : items_in p ≡ None = ap (array_after p) e ∙ n in absurd (cc)

no-pairs : (p : Part) (h : Head) (rest : List ℕ) (entries : List (Part × Part)) → head_at p.bytes ≡ Ok (h, rest) → map_after p (Ok (h, rest)) ≡ None → pairs_in p ≡ Some entries → IsMadeOf 5 (length entries) (keys_and_values entries) p
no-pairs p h rest entries e n is = let k : pairs_in p ≡ None = ap (map_after p) e ∙ n in absurd (cc)

no-tag : (p q : Part) (h : Head) (rest : List ℕ) (n : ℕ) → head_at p.bytes ≡ Ok (h, rest) → tag_after p (Ok (h, rest)) ≡ None → tag_in p ≡ Some (n, q) → IsMadeOf 6 n (q ∷ []) p
no-tag p q h rest n e z is = let k : tag_in p ≡ None = ap (tag_after p) e ∙ z in absurd (cc)

pub items-made : (t : Tree) (p : Part) (items : List Part) → Spelled t p.bytes → levels t ≤ 32 → items_in p ≡ Some items → IsMadeOf 4 (length items) items p
items-made (Array ts) p items s l is =
    let q : Part = body_of p s.1.rest in
    let e = head-read p s.1.front s.1.rest (heads.Array (count ts)) s.1.whole s.1.first in
    let some : items_in p ≡ Some (parts_at (count ts) q) = ap (array_after p) e in
    let same : parts_at (count ts) q ≡ items = cc in
    let n : count ts ≡ length (parts_at (count ts) q) = sym (parts-counted (count ts) q) in
    let made : IsMadeOf 4 (count ts) (parts_at (count ts) q) p = headed 0 4 (count ts) p s.1.rest s.1.front (parts_at (count ts) q) IsEnd (end_of q.at s.1.rest) (omega arith) s.1.first s.1.whole (parts-row ts 1 q.at s.1.rest s.1.second (omega arith)) refl in
    subst (λ (ps : List Part). IsMadeOf 4 (length ps) ps p) same (subst (λ m. IsMadeOf 4 m (parts_at (count ts) q) p) n made)
items-made (Unsigned n) p items s l is = no-items p (heads.Unsigned n) [] items (alone p (heads.Unsigned n) s) refl is
items-made (Negative n) p items s l is = no-items p (heads.Negative n) [] items (alone p (heads.Negative n) s) refl is
items-made (Bytes b) p items s l is = no-items p (heads.Bytes (length b)) s.1.rest items (head-read p s.1.front s.1.rest (heads.Bytes (length b)) s.1.whole s.1.first) refl is
items-made (Text b) p items s l is = no-items p (heads.Text (length b)) s.2.rest items (head-read p s.2.front s.2.rest (heads.Text (length b)) s.2.whole s.2.first) refl is
items-made (Map ps) p items s l is = no-items p (heads.Map (pair_count ps)) s.1.rest items (head-read p s.1.front s.1.rest (heads.Map (pair_count ps)) s.1.whole s.1.first) refl is
items-made (Tag n t) p items s l is = no-items p (heads.Tag n) s.rest items (head-read p s.front s.rest (heads.Tag n) s.whole s.first) refl is
items-made (Simple n) p items s l is = no-items p (heads.Simple n) [] items (alone p (heads.Simple n) s) refl is
items-made (Float w n) p items s l is = no-items p (heads.Float w n) [] items (alone p (heads.Float w n) s) refl is

pub pairs-made : (t : Tree) (p : Part) (entries : List (Part × Part)) → Spelled t p.bytes → levels t ≤ 32 → pairs_in p ≡ Some entries → IsMadeOf 5 (length entries) (keys_and_values entries) p
pairs-made (Map ps) p entries s l is =
    let q : Part = body_of p s.1.rest in
    let e = head-read p s.1.front s.1.rest (heads.Map (pair_count ps)) s.1.whole s.1.first in
    let some : pairs_in p ≡ Some (entries_at (pair_count ps) q) = ap (map_after p) e in
    let same : entries_at (pair_count ps) q ≡ entries = cc in
    let n : pair_count ps ≡ length (entries_at (pair_count ps) q) = sym (entries-counted (pair_count ps) q) in
    let made : IsMadeOf 5 (pair_count ps) (keys_and_values (entries_at (pair_count ps) q)) p = headed 0 5 (pair_count ps) p s.1.rest s.1.front (keys_and_values (entries_at (pair_count ps) q)) IsEnd (end_of q.at s.1.rest) (omega arith) s.1.first s.1.whole (entries-row ps 1 q.at s.1.rest s.1.second (omega arith)) refl in
    subst (λ (es : List (Part × Part)). IsMadeOf 5 (length es) (keys_and_values es) p) same (subst (λ m. IsMadeOf 5 m (keys_and_values (entries_at (pair_count ps) q)) p) n made)
pairs-made (Unsigned n) p entries s l is = no-pairs p (heads.Unsigned n) [] entries (alone p (heads.Unsigned n) s) refl is
pairs-made (Negative n) p entries s l is = no-pairs p (heads.Negative n) [] entries (alone p (heads.Negative n) s) refl is
pairs-made (Bytes b) p entries s l is = no-pairs p (heads.Bytes (length b)) s.1.rest entries (head-read p s.1.front s.1.rest (heads.Bytes (length b)) s.1.whole s.1.first) refl is
pairs-made (Text b) p entries s l is = no-pairs p (heads.Text (length b)) s.2.rest entries (head-read p s.2.front s.2.rest (heads.Text (length b)) s.2.whole s.2.first) refl is
pairs-made (Array ts) p entries s l is = no-pairs p (heads.Array (count ts)) s.1.rest entries (head-read p s.1.front s.1.rest (heads.Array (count ts)) s.1.whole s.1.first) refl is
pairs-made (Tag n t) p entries s l is = no-pairs p (heads.Tag n) s.rest entries (head-read p s.front s.rest (heads.Tag n) s.whole s.first) refl is
pairs-made (Simple n) p entries s l is = no-pairs p (heads.Simple n) [] entries (alone p (heads.Simple n) s) refl is
pairs-made (Float w n) p entries s l is = no-pairs p (heads.Float w n) [] entries (alone p (heads.Float w n) s) refl is

tag-row : (t : Tree) (inside at : ℕ) (body : List ℕ) → Spelled t body → inside + levels t ≤ 32 → StandInRow inside (record { at = at; bytes = body } ∷ []) (end_of at body) (record { at = at; bytes = body })
tag-row t inside at body s l = record { mid = end_of at body; first = record { tree = t; spelled = s; nesting = l; bytes = sym (append-nil body); place = refl; next = refl }; others = refl }

pub tag-made : (t : Tree) (p q : Part) (n : ℕ) → Spelled t p.bytes → levels t ≤ 32 → tag_in p ≡ Some (n, q) → IsMadeOf 6 n (q ∷ []) p
tag-made (Tag m t) p q n s l is =
    let nesting : 1 + levels t ≤ 32 = omega arith in
    let outer : 0 < 32 = omega arith in
    let r : Part = body_of p s.rest in
    let e = head-read p s.front s.rest (heads.Tag m) s.whole s.first in
    let some : tag_in p ≡ Some (m, r) = ap (tag_after p) e in
    let same : (m, r) ≡ (n, q) = cc in
    let made : IsMadeOf 6 m (r ∷ []) p = headed 0 6 m p s.rest s.front (r ∷ []) IsEnd (end_of r.at s.rest) outer s.first s.whole (tag-row t 1 r.at s.rest s.second nesting) refl in
    subst (λ (x : ℕ × Part). IsMadeOf 6 x.0 (x.1 ∷ []) p) same made
tag-made (Unsigned m) p q n s l is = no-tag p q (heads.Unsigned m) [] n (alone p (heads.Unsigned m) s) refl is
tag-made (Negative m) p q n s l is = no-tag p q (heads.Negative m) [] n (alone p (heads.Negative m) s) refl is
tag-made (Bytes b) p q n s l is = no-tag p q (heads.Bytes (length b)) s.1.rest n (head-read p s.1.front s.1.rest (heads.Bytes (length b)) s.1.whole s.1.first) refl is
tag-made (Text b) p q n s l is = no-tag p q (heads.Text (length b)) s.2.rest n (head-read p s.2.front s.2.rest (heads.Text (length b)) s.2.whole s.2.first) refl is
tag-made (Array ts) p q n s l is = no-tag p q (heads.Array (count ts)) s.1.rest n (head-read p s.1.front s.1.rest (heads.Array (count ts)) s.1.whole s.1.first) refl is
tag-made (Map ps) p q n s l is = no-tag p q (heads.Map (pair_count ps)) s.1.rest n (head-read p s.1.front s.1.rest (heads.Map (pair_count ps)) s.1.whole s.1.first) refl is
tag-made (Simple m) p q n s l is = no-tag p q (heads.Simple m) [] n (alone p (heads.Simple m) s) refl is
tag-made (Float w m) p q n s l is = no-tag p q (heads.Float w m) [] n (alone p (heads.Float w m) s) refl is
