-- The parts of a partial item that is whole.
use Rattle.std.proofs.Common.{◌≡◌, ℕ, suc, ◌+◌, ◌-◌, ◌≤◌, List, ◌∷◌, ◌++◌, map, length, take, drop, Option, Some, Ok, refl, sym, ap, ◌∙◌, subst, arith, IsOk, is_ok}
use Rattle.std.proofs.lemmas.List.{length-append, append_assoc}
use Rattle.std.proofs.Math.Seq.{take-append_seam}
use Rattle.cbor_view.specs.declared.heads.Head.{Head}
use Rattle.cbor_view.specs.Tree.{Tree, Trees, none, more, Pairs, no_pair, pair, count, pair_count, levels, levels_of_all, levels_of_pairs}
use Rattle.cbor_view.specs.Spelling.{Spelled, AllSpelled, PairsSpelled}
use Rattle.cbor_view.specs.Reading.{head_at, item_at, reads, size, past}
use Rattle.cbor_view.specs.Parts.{Part, body_of, first_part, after_first, parts_at, entries_at}
use Rattle.cbor_view.specs.PartialItem.{PartialItem, whole, front, item_first, pair_first, partial_item_at, both_whole, until_broken, partial_pair_at}
use Rattle.cbor_view.proofs.HeadReading.{AreBytes, front-each, typed-again, head-sound}
use Rattle.cbor_view.proofs.ItemReading.{item-again, item-sound}
use Rattle.cbor_view.proofs.WholeReading.{spells-reads}
use Rattle.cbor_view.proofs.Splitting.{split-spelled, is-first}
use Rattle.cbor_view.proofs.Steps.{first-of}
use Rattle.cbor_view.proofs.PartialFaults.{first-some, partial-whole, until-some}

-- ---- the bytes of an item that is read

pub front-is : (p : Part) (f rest : List ℕ) → p.bytes ≡ f ++ rest → front p rest ≡ record { at = p.at; bytes = f }
front-is p f rest w =
    let n : length p.bytes - length rest ≡ length f = omega (arith, ap length w, length-append f rest) in
    let b : take (length p.bytes - length rest) p.bytes ≡ f = rw (n, w) (take-append_seam f rest) in
    ap (λ (x : List ℕ). record { at = p.at; bytes = x }) b

pub body-is : (p : Part) (f rest : List ℕ) → p.bytes ≡ f ++ rest → body_of p rest ≡ record { at = p.at + length f; bytes = rest }
body-is p f rest w =
    let n : length p.bytes - length rest ≡ length f = omega (arith, ap length w, length-append f rest) in
    ap (λ (m : ℕ). record { at = p.at + m; bytes = rest }) n

pub front-read : (d : ℕ) (p : Part) (rest : List ℕ) → d ≤ 32 → AreBytes p.bytes → past (item_at d p.bytes) ≡ Ok rest → IsOk (reads (front p rest).bytes)
front-read d p rest m are e =
    let f = first-of (item_at d p.bytes) rest e in
    let s = (item-sound d).each p.bytes rest f.0 are f.1 in
    let n = s.nesting in
    let r = spells-reads s.front f.0 (record { spelled = s.spelled; nesting = omega arith }) in
    subst (λ (q : Part). IsOk (reads q.bytes)) (sym (front-is p s.front rest s.whole)) (ap is_ok r)

-- its head is the one at the front of the file
pub record WholeHead (p : Part) (rest : List ℕ) : Type 0 where
  pub h : Head
  pub body : List ℕ
  pub all : head_at p.bytes ≡ Ok (h, body ++ rest)
  pub own_fault : head_at (front p rest).bytes ≡ Ok (h, body)

pub whole-head : (d : ℕ) (p : Part) (x : Tree × List ℕ) → d ≤ 32 → AreBytes p.bytes → item_at d p.bytes ≡ Ok x → WholeHead p x.1
whole-head d p x m are e =
    let s = (item-sound d).each p.bytes x.1 x.0 are e in
    let n = s.nesting in
    let i = split-spelled x.0 s.front s.spelled (omega arith) in
    let each : AreBytes s.front = record { each = front-each s.front x.1 (subst AreBytes s.whole are) } in
    let k = head-sound s.front i.body i.h each i.splits.head in
    let w : p.bytes ≡ k.front ++ (i.body ++ x.1) = s.whole ∙ ap (λ (y : List ℕ). y ++ x.1) k.whole ∙ append_assoc k.front i.body x.1 in
    record {
      h = i.h;
      body = i.body;
      all = ap head_at w ∙ typed-again i.h k.front (i.body ++ x.1) k.head_of;
      own_fault = ap (λ (q : Part). head_at q.bytes) (front-is p s.front x.1 s.whole) ∙ i.splits.head;
    }

-- ---- items that follow one another, with bytes after them

pub record FirstIs (d at : ℕ) (f behind rest : List ℕ) : Type 0 where
  pub some : item_first d (record { at = at; bytes = (f ++ behind) ++ rest }) ≡ Some (record { at = at; bytes = f }, record { at = at + length f; bytes = behind ++ rest })
  pub partial : partial_item_at d (record { at = at; bytes = (f ++ behind) ++ rest }) ≡ whole (record { at = at; bytes = f })
  pub first : first_part (record { at = at; bytes = f ++ behind }) ≡ record { at = at; bytes = f }
  pub after : after_first (record { at = at; bytes = f ++ behind }) ≡ record { at = at + length f; bytes = behind }

pub first-is : (d at : ℕ) (t : Tree) (f behind rest : List ℕ) → Spelled t f → levels t ≤ d → d ≤ 32 → FirstIs d at f behind rest
first-is d at t f behind rest s l m =
    let p : Part = record { at = at; bytes = (f ++ behind) ++ rest } in
    let a : Part = record { at = at; bytes = f } in
    let w : (f ++ behind) ++ rest ≡ f ++ (behind ++ rest) = append_assoc f behind rest in
    let e : item_at d ((f ++ behind) ++ rest) ≡ Ok (t, behind ++ rest) = ap (item_at d) w ∙ item-again t d f (behind ++ rest) s l in
    let fr = front-is p f (behind ++ rest) w in
    let b = body-is p f (behind ++ rest) w in
    let i = is-first t f behind s (omega arith) in
    record {
      some = first-some d p (t, behind ++ rest) e ∙ (ap (λ (q : Part). Some (q, body_of p (behind ++ rest))) fr ∙ ap (λ (q : Part). Some (a, q)) b);
      partial = partial-whole d p (t, behind ++ rest) e ∙ ap (λ (q : Part). whole q) fr;
      first = ap (λ (y : List ℕ). record { at = at; bytes = y }) i.front_is;
      after = ap (λ (n : ℕ). record { at = at + n; bytes = drop (size (f ++ behind)) (f ++ behind) }) i.size_is ∙ ap (λ (y : List ℕ). record { at = at + length f; bytes = y }) i.rest_is;
    }

pub parts-more : (n : ℕ) (p : Part) → parts_at (suc n) p ≡ first_part p ∷ parts_at n (after_first p)
unfolding parts_at
parts-more n p = refl

no-until : (d at : ℕ) (body rest : List ℕ) → until_broken (partial_item_at d) (item_first d) 0 (record { at = at; bytes = body ++ rest }) ≡ map (λ q. whole q) (parts_at 0 (record { at = at; bytes = body }))
unfolding until_broken parts_at
no-until d at body rest = refl

more-until : (d at n : ℕ) (f behind rest : List ℕ) → FirstIs d at f behind rest → until_broken (partial_item_at d) (item_first d) n (record { at = at + length f; bytes = behind ++ rest }) ≡ map (λ q. whole q) (parts_at n (record { at = at + length f; bytes = behind })) → until_broken (partial_item_at d) (item_first d) (suc n) (record { at = at; bytes = (f ++ behind) ++ rest }) ≡ map (λ q. whole q) (parts_at (suc n) (record { at = at; bytes = f ++ behind }))
more-until d at n f behind rest i h =
    let p : Part = record { at = at; bytes = (f ++ behind) ++ rest } in
    let q : Part = record { at = at; bytes = f ++ behind } in
    let a : Part = record { at = at; bytes = f } in
    let b : Part = record { at = at + length f; bytes = behind ++ rest } in
    let parts : parts_at (suc n) q ≡ a ∷ parts_at n (record { at = at + length f; bytes = behind }) = parts-more n q ∙ (ap (λ (x : Part). x ∷ parts_at n (after_first q)) i.first ∙ ap (λ (x : Part). a ∷ parts_at n x) i.after) in
    until-some (partial_item_at d) (item_first d) n p (a, b) i.some ∙ (ap (λ (g : PartialItem). g ∷ until_broken (partial_item_at d) (item_first d) n b) i.partial ∙ (ap (λ (gs : List PartialItem). whole a ∷ gs) h ∙ sym (ap (λ (ps : List Part). map (λ q. whole q) ps) parts)))

pub all-whole : (ts : Trees) (d at : ℕ) (body rest : List ℕ) → AllSpelled ts body → levels_of_all ts ≤ d → d ≤ 32 → until_broken (partial_item_at d) (item_first d) (count ts) (record { at = at; bytes = body ++ rest }) ≡ map (λ q. whole q) (parts_at (count ts) (record { at = at; bytes = body }))
all-whole none d at body rest s l m = no-until d at body rest
all-whole (more t ts) d at body rest s l m =
    let a : levels t ≤ d = omega arith in
    let b : levels_of_all ts ≤ d = omega arith in
    subst (λ (x : List ℕ). until_broken (partial_item_at d) (item_first d) (suc (count ts)) (record { at = at; bytes = x ++ rest }) ≡ map (λ q. whole q) (parts_at (suc (count ts)) (record { at = at; bytes = x }))) (sym s.whole)
    (more-until d at (count ts) s.front s.rest rest (first-is d at t s.front s.rest rest s.first a m) (all-whole ts d (at + length s.front) s.rest rest s.second b m))

pub entries-more : (n : ℕ) (p : Part) → entries_at (suc n) p ≡ (first_part p, first_part (after_first p)) ∷ entries_at n (after_first (after_first p))
unfolding entries_at
entries-more n p = refl

no-pair-until : (d at : ℕ) (body rest : List ℕ) → until_broken (partial_pair_at d) (pair_first d) 0 (record { at = at; bytes = body ++ rest }) ≡ map both_whole (entries_at 0 (record { at = at; bytes = body }))
unfolding until_broken entries_at
no-pair-until d at body rest = refl

more-pair-until : (d at n : ℕ) (k v behind rest : List ℕ) → FirstIs d at k (v ++ behind) rest → FirstIs d (at + length k) v behind rest → until_broken (partial_pair_at d) (pair_first d) n (record { at = at + length k + length v; bytes = behind ++ rest }) ≡ map both_whole (entries_at n (record { at = at + length k + length v; bytes = behind })) → until_broken (partial_pair_at d) (pair_first d) (suc n) (record { at = at; bytes = (k ++ (v ++ behind)) ++ rest }) ≡ map both_whole (entries_at (suc n) (record { at = at; bytes = k ++ (v ++ behind) }))
more-pair-until d at n k v behind rest i j h =
    let p : Part = record { at = at; bytes = (k ++ (v ++ behind)) ++ rest } in
    let q : Part = record { at = at; bytes = k ++ (v ++ behind) } in
    let key : Part = record { at = at; bytes = k } in
    let value : Part = record { at = at + length k; bytes = v } in
    let mid : Part = record { at = at + length k; bytes = v ++ behind } in
    let b : Part = record { at = at + length k + length v; bytes = behind ++ rest } in
    let end : Part = record { at = at + length k + length v; bytes = behind } in
    let some : pair_first d p ≡ Some ((key, value), b) = rw i.some (rw j.some refl) in
    let whole_or : partial_pair_at d p ≡ both_whole (key, value) = rw (i.some, i.partial) (rw j.partial refl) in
    let entries : entries_at (suc n) q ≡ (key, value) ∷ entries_at n end =
    entries-more n q
    ∙ (ap (λ (x : Part). (x, first_part (after_first q)) ∷ entries_at n (after_first (after_first q))) i.first
    ∙ (ap (λ (x : Part). (key, first_part x) ∷ entries_at n (after_first x)) i.after
    ∙ (ap (λ (x : Part). (key, x) ∷ entries_at n (after_first mid)) j.first ∙ ap (λ (x : Part). (key, value) ∷ entries_at n x) j.after))) in
    until-some (partial_pair_at d) (pair_first d) n p ((key, value), b) some ∙ (ap (λ (g : PartialItem × Option PartialItem). g ∷ until_broken (partial_pair_at d) (pair_first d) n b) whole_or ∙ (ap (λ (gs : List (PartialItem × Option PartialItem)). both_whole (key, value) ∷ gs) h ∙ sym (ap (λ (es : List (Part × Part)). map both_whole es) entries)))

pub pairs-whole : (ps : Pairs) (d at : ℕ) (body rest : List ℕ) → PairsSpelled ps body → levels_of_pairs ps ≤ d → d ≤ 32 → until_broken (partial_pair_at d) (pair_first d) (pair_count ps) (record { at = at; bytes = body ++ rest }) ≡ map both_whole (entries_at (pair_count ps) (record { at = at; bytes = body }))
pairs-whole no_pair d at body rest s l m = no-pair-until d at body rest
pairs-whole (pair k v ps) d at body rest s l m =
    let a : levels k ≤ d = omega arith in
    let b : levels v ≤ d = omega arith in
    let c : levels_of_pairs ps ≤ d = omega arith in
    let all : body ≡ s.front ++ (s.second.front ++ s.second.rest) = s.whole ∙ ap (λ x. s.front ++ x) s.second.whole in
    subst (λ (x : List ℕ). until_broken (partial_pair_at d) (pair_first d) (suc (pair_count ps)) (record { at = at; bytes = x ++ rest }) ≡ map both_whole (entries_at (suc (pair_count ps)) (record { at = at; bytes = x }))) (sym all)
    (more-pair-until d at (pair_count ps) s.front s.second.front s.second.rest rest
    (first-is d at k s.front (s.second.front ++ s.second.rest) rest s.first a m)
    (first-is d (at + length s.front) v s.second.front s.second.rest rest s.second.first b m)
    (pairs-whole ps d (at + length s.front + length s.second.front) s.second.rest rest s.second.second c m))
