-- What `item_at` reads is so spelled, and it reads each spelling.
use Rattle.std.proofs.Common.{◌≡◌, ℕ, zero, suc, ◌+◌, ◌-◌, ◌<◌, ◌≤◌, ◌^◌, if◌then◌else◌, List, [], ◌++◌, length, take, drop, true, false, nat_lt, Option, Some, None, Result, Ok, Err, refl, sym, ap, ◌∙◌, subst, arith, inl, inr}
use Rattle.std.specs.Prelude.{IsUtf8}
use Rattle.std.specs.Str.{is_utf8}
use Rattle.std.proofs.lemmas.Str.{is_utf8-from_IsUtf8, IsUtf8-from_is_utf8}
use Rattle.std.proofs.lemmas.Bool.{ltb-true, ltb-false}
use Rattle.std.proofs.lemmas.Bool.Decides.{nat_tests}
use Rattle.std.proofs.lemmas.List.{take-append-drop, length-take-le, append_assoc, length-append}
use Rattle.std.proofs.Math.Seq.{take-append_seam, drop-append_seam}
use Rattle.std.proofs.Math.Nat.{le-max_left, le-max_right, max-le}
use Rattle.cbor_view.specs.declared.cbor_kind.CborKind.{CborKind}
use Rattle.cbor_view.specs.declared.cbor_kind.CborKind.TheVariants.{Truncated, Length, Deep, BadText}
use Rattle.cbor_view.specs.declared.stop.Stop.{Stop}
use Rattle.cbor_view.specs.declared.heads.Head.{Head}
use Rattle.cbor_view.specs.declared.heads.Head.TheVariants as heads
use Rattle.cbor_view.specs.Tree.{Tree, Unsigned, Negative, Bytes, Text, Array, Map, Tag, Simple, Float, Trees, none, more, Pairs, no_pair, pair, count, pair_count, levels, levels_of_all, levels_of_pairs}
use Rattle.cbor_view.specs.Spelling.{IsHead, Spelled, AllSpelled, PairsSpelled}
use Rattle.cbor_view.specs.Reading.{◌>>=◌, Reader, head_at, items_at, pairs_at, item_at, inner, behind, behind_head, counted, deeper, stop, string_at, text_at}
use Rattle.cbor_view.proofs.HeadReading.{AreBytes, AreBytes-after, HeadOf, typed-again, if-cases, bind-ok, first-same, second-same, head-sound}
use Rattle.cbor_view.proofs.Steps.{item-inner, inner-positive}

-- ---- strings

abbrev read : {A : Type 0} → A → List ℕ → Result (A × List ℕ) Stop
read x rest = Ok (x, rest)

string-again : (left : ℕ) (b rest : List ℕ) → length b < 2 ^ 32 → string_at left (length b) (b ++ rest) ≡ read b rest
string-again left b rest lt =
    let len : length (b ++ rest) ≡ length b + length rest = length-append b rest in
    let fits : nat_lt (length (b ++ rest)) (length b) ≡ false = grind (arith, nat_tests) in
    let short : nat_lt (length b) (2 ^ 32) ≡ true = grind (arith, nat_tests) in
    rw fits (rw short (rw (take-append_seam b rest, drop-append_seam b rest) refl))

text-again : (left : ℕ) (b rest : List ℕ) → length b < 2 ^ 32 → IsUtf8 b → text_at left (length b) (b ++ rest) ≡ read b rest
text-again left b rest lt good = rw (string-again left b rest lt) (rw (is_utf8-from_IsUtf8 b good) refl)

pub record IsString (n : ℕ) (bytes b rest : List ℕ) : Type 0 where
  pub short : n < 2 ^ 32
  pub len : length b ≡ n
  pub whole : bytes ≡ b ++ rest

pub string-sound : (left n : ℕ) (bytes b rest : List ℕ) → string_at left n bytes ≡ read b rest → IsString n bytes b rest
string-sound left n bytes b rest e = elim (if-cases (nat_lt (length bytes) n) (stop Truncated left) (if nat_lt n (2 ^ 32) then read (take n bytes) (drop n bytes) else stop Length left) (read b rest) e) [
  | inl d ↦ absurd (cc)
  | inr d ↦ elim (if-cases (nat_lt n (2 ^ 32)) (read (take n bytes) (drop n bytes)) (stop Length left) (read b rest) d.1) [
    | inl k ↦
        let b-is : take n bytes ≡ b = first-same (take n bytes, drop n bytes) (b, rest) k.1 in
        let rest-is : drop n bytes ≡ rest = second-same (take n bytes, drop n bytes) (b, rest) k.1 in
        let enough : n ≤ length bytes = ltb-false (length bytes) n d.0 in
        record { short = ltb-true n (2 ^ 32) k.0; len = ap length (sym b-is) ∙ length-take-le n bytes enough; whole = sym (take-append-drop n bytes) ∙ cc }
    | inr k ↦ absurd (cc)
  ]
]

pub text-sound : (left n : ℕ) (bytes b rest : List ℕ) → text_at left n bytes ≡ read b rest → IsString n bytes b rest × IsUtf8 b
text-sound left n bytes b rest e =
    let s = bind-ok (string_at left n bytes) (λ s. if is_utf8 s.0 then Ok s else stop BadText left) (b, rest) e in
    elim (if-cases (is_utf8 s.value.0) (Ok s.value) (stop BadText left) (read b rest) s.after) [
      | inl d ↦
          let b-is : s.value.0 ≡ b = first-same s.value (b, rest) d.1 in
          let same : s.value ≡ (b, rest) = cc in
          (string-sound left n bytes b rest (s.before ∙ ap (λ x. Ok x) same), IsUtf8-from_is_utf8 b (subst (λ x. is_utf8 x ≡ true) b-is d.0))
      | inr d ↦ absurd (cc)
    ]

-- ---- each spelling is read

pub started : (d : ℕ) (h : Head) (front rest : List ℕ) → HeadOf h front → item_at d (front ++ rest) ≡ behind (inner d) (length (front ++ rest)) h rest
started d h front rest is = item-inner d (front ++ rest) ∙ ap (behind_head (inner d) (length (front ++ rest))) (typed-again h front rest is)

-- a head and a body
head_and_body : (d : ℕ) (h : Head) (bytes front body rest : List ℕ) → HeadOf h front → bytes ≡ front ++ body → item_at d (bytes ++ rest) ≡ behind (inner d) (length (front ++ (body ++ rest))) h (body ++ rest)
head_and_body d h bytes front body rest is whole = ap (item_at d) (ap (λ x. x ++ rest) whole ∙ append_assoc front body rest) ∙ started d h front (body ++ rest) is

nested-again : {A : Type 0} (left n d : ℕ) (parts : Reader Tree → Result A Stop) → n < 2 ^ 32 → 0 < d → counted left n (deeper (inner d) left parts) ≡ parts (item_at (d - 1))
nested-again left n d parts short deep = let t : nat_lt n (2 ^ 32) ≡ true = grind (arith, nat_tests) in rw t (rw (inner-positive d deep) refl)

more-again : (one : Reader Tree) (n : ℕ) (bytes mid rest : List ℕ) (t : Tree) (ts : Trees) → one bytes ≡ read t mid → items_at one n mid ≡ read ts rest → items_at one (suc n) bytes ≡ read (more t ts) rest
unfolding items_at
more-again one n bytes mid rest t ts e f = rw e (rw f refl)

pair-again : (one : Reader Tree) (n : ℕ) (bytes mid behind rest : List ℕ) (k v : Tree) (ps : Pairs) → one bytes ≡ read k mid → one mid ≡ read v behind → pairs_at one n behind ≡ read ps rest → pairs_at one (suc n) bytes ≡ read (pair k v ps) rest
unfolding pairs_at
pair-again one n bytes mid behind rest k v ps e f g = rw e (rw f (rw g refl))

none-again : (one : Reader Tree) (front rest : List ℕ) → front ≡ [] → items_at one 0 (front ++ rest) ≡ read none rest
unfolding items_at
none-again one front rest e = rw e refl

no_pair-again : (one : Reader Tree) (front rest : List ℕ) → front ≡ [] → pairs_at one 0 (front ++ rest) ≡ read no_pair rest
unfolding pairs_at
no_pair-again one front rest e = rw e refl

-- one part before others
parted : (one : Reader Tree) (bytes front behind rest : List ℕ) (t : Tree) → bytes ≡ front ++ behind → one (front ++ (behind ++ rest)) ≡ read t (behind ++ rest) → one (bytes ++ rest) ≡ read t (behind ++ rest)
parted one bytes front behind rest t whole e = ap one (ap (λ x. x ++ rest) whole ∙ append_assoc front behind rest) ∙ e

mutual
  pub item-again : (t : Tree) (d : ℕ) (front rest : List ℕ) → Spelled t front → levels t ≤ d → item_at d (front ++ rest) ≡ read t rest
  item-again (Unsigned n) d front rest s l = started d (heads.Unsigned n) front rest s
  item-again (Negative n) d front rest s l = started d (heads.Negative n) front rest s
  item-again (Bytes b) d front rest s l = head_and_body d (heads.Bytes (length b)) front s.1.front s.1.rest rest s.1.first s.1.whole ∙ rw s.1.second (rw (string-again (length (s.1.front ++ (b ++ rest))) b rest s.0) refl)
  item-again (Text b) d front rest s l = head_and_body d (heads.Text (length b)) front s.2.front s.2.rest rest s.2.first s.2.whole ∙ rw s.2.second (rw (text-again (length (s.2.front ++ (b ++ rest))) b rest s.0 s.1) refl)
  item-again (Array ts) d front rest s l =
      head_and_body d (heads.Array (count ts)) front s.1.front s.1.rest rest s.1.first s.1.whole
      ∙ nested-again (length (s.1.front ++ (s.1.rest ++ rest))) (count ts) d (λ one. items_at one (count ts) (s.1.rest ++ rest) >>= λ x. read (Array x.0) x.1) s.0 (omega arith)
      ∙ ap (λ r. r >>= λ x. read (Array x.0) x.1) (all-again ts (d - 1) s.1.rest rest s.1.second (omega arith))
  item-again (Map ps) d front rest s l =
      head_and_body d (heads.Map (pair_count ps)) front s.1.front s.1.rest rest s.1.first s.1.whole
      ∙ nested-again (length (s.1.front ++ (s.1.rest ++ rest))) (pair_count ps) d (λ one. pairs_at one (pair_count ps) (s.1.rest ++ rest) >>= λ x. read (Map x.0) x.1) s.0 (omega arith)
      ∙ ap (λ r. r >>= λ x. read (Map x.0) x.1) (pairs-again ps (d - 1) s.1.rest rest s.1.second (omega arith))
  item-again (Tag n t) d front rest s l =
      head_and_body d (heads.Tag n) front s.front s.rest rest s.first s.whole
      ∙ nested-again (length (s.front ++ (s.rest ++ rest))) 1 d (λ one. one (s.rest ++ rest) >>= λ x. read (Tag n x.0) x.1) (omega arith) (omega arith)
      ∙ ap (λ r. r >>= λ x. read (Tag n x.0) x.1) (item-again t (d - 1) s.rest rest s.second (omega arith))
  item-again (Simple n) d front rest s l = started d (heads.Simple n) front rest s
  item-again (Float w n) d front rest s l = started d (heads.Float w n) front rest s

  all-again : (ts : Trees) (d : ℕ) (front rest : List ℕ) → AllSpelled ts front → levels_of_all ts ≤ d → items_at (item_at d) (count ts) (front ++ rest) ≡ read ts rest
  all-again none d front rest s l = none-again (item_at d) front rest s
  all-again (more t ts) d front rest s l =
      let a : levels t ≤ d = omega (arith, le-max_left (levels t) (levels_of_all ts)) in
      let b : levels_of_all ts ≤ d = omega (arith, le-max_right (levels t) (levels_of_all ts)) in
      more-again (item_at d) (count ts) (front ++ rest) (s.rest ++ rest) rest t ts
      (parted (item_at d) front s.front s.rest rest t s.whole (item-again t d s.front (s.rest ++ rest) s.first a))
      (all-again ts d s.rest rest s.second b)

  pairs-again : (ps : Pairs) (d : ℕ) (front rest : List ℕ) → PairsSpelled ps front → levels_of_pairs ps ≤ d → pairs_at (item_at d) (pair_count ps) (front ++ rest) ≡ read ps rest
  pairs-again no_pair d front rest s l = no_pair-again (item_at d) front rest s
  pairs-again (pair k v ps) d front rest s l =
      let a : levels k ≤ d = omega arith in
      let b : levels v ≤ d = omega arith in
      let c : levels_of_pairs ps ≤ d = omega arith in
      pair-again (item_at d) (pair_count ps) (front ++ rest) (s.rest ++ rest) (s.second.rest ++ rest) rest k v ps
      (parted (item_at d) front s.front s.rest rest k s.whole (item-again k d s.front (s.rest ++ rest) s.first a))
      (parted (item_at d) s.rest s.second.front s.second.rest rest v s.second.whole (item-again v d s.second.front (s.second.rest ++ rest) s.second.first b))
      (pairs-again ps d s.second.rest rest s.second.second c)

-- ---- what was read is so spelled

pub record ReadAs (d : ℕ) (bytes : List ℕ) (t : Tree) (rest : List ℕ) : Type 0 where
  pub front : List ℕ
  pub spelled : Spelled t front
  pub nesting : levels t ≤ d
  pub whole : bytes ≡ front ++ rest

-- a reader of items of at most so many levels
pub record IsSound (d : ℕ) (one : Reader Tree) : Type 0 where
  pub each : (bytes rest : List ℕ) (t : Tree) → AreBytes bytes → one bytes ≡ read t rest → ReadAs d bytes t rest

pub record AllRead (d n : ℕ) (bytes : List ℕ) (ts : Trees) (rest : List ℕ) : Type 0 where
  pub front : List ℕ
  pub spelled : AllSpelled ts front
  pub nesting : levels_of_all ts ≤ d
  pub counts : count ts ≡ n
  pub whole : bytes ≡ front ++ rest

pub record PairsRead (d n : ℕ) (bytes : List ℕ) (ps : Pairs) (rest : List ℕ) : Type 0 where
  pub front : List ℕ
  pub spelled : PairsSpelled ps front
  pub nesting : levels_of_pairs ps ≤ d
  pub counts : pair_count ps ≡ n
  pub whole : bytes ≡ front ++ rest

finished : (d : ℕ) (bytes front mid rest : List ℕ) (t u : Tree) → Spelled t front → levels t ≤ d → bytes ≡ front ++ mid → read t mid ≡ read u rest → ReadAs d bytes u rest
finished d bytes front mid rest t u s l w e = subst (λ x. ReadAs d bytes x rest) (first-same (t, mid) (u, rest) e) (record { front = front; spelled = s; nesting = l; whole = w ∙ ap (λ r. front ++ r) (second-same (t, mid) (u, rest) e) })

pub bytes-after : (bytes front rest : List ℕ) → bytes ≡ front ++ rest → AreBytes bytes → AreBytes rest
bytes-after bytes front rest w are = AreBytes-after front rest (subst AreBytes w are)

pub joined : (a b c d e : List ℕ) → a ≡ b ++ c → c ≡ d ++ e → a ≡ (b ++ d) ++ e
joined a b c d e p q = p ∙ ap (λ x. b ++ x) q ∙ sym (append_assoc b d e)

more_items : Reader Tree → ℕ → Tree × List ℕ → Result (Trees × List ℕ) Stop
more_items one n t = items_at one n t.1 >>= λ ts. read (more t.0 ts.0) ts.1

pub items-sound : (d : ℕ) (one : Reader Tree) → IsSound d one → (n : ℕ) (bytes rest : List ℕ) (ts : Trees) → AreBytes bytes → items_at one n bytes ≡ read ts rest → AllRead d n bytes ts rest
unfolding items_at more_items
items-sound d one s zero bytes rest ts are e = subst (λ x. AllRead d 0 bytes x rest) (first-same (none, bytes) (ts, rest) e) (record { front = []; spelled = refl; nesting = omega arith; counts = refl; whole = second-same (none, bytes) (ts, rest) e })
items-sound d one s (suc n) bytes rest ts are e =
    let b = bind-ok (one bytes) (more_items one n) (ts, rest) e in
    let k = bind-ok (items_at one n b.value.1) (λ x. read (more b.value.0 x.0) x.1) (ts, rest) b.after in
    let first = s.each bytes b.value.1 b.value.0 are b.before in
    let others = items-sound d one s n b.value.1 k.value.1 k.value.0 (bytes-after bytes first.front b.value.1 first.whole are) k.before in
    let ts-is : more b.value.0 k.value.0 ≡ ts = first-same (more b.value.0 k.value.0, k.value.1) (ts, rest) k.after in
    let rest-is : k.value.1 ≡ rest = second-same (more b.value.0 k.value.0, k.value.1) (ts, rest) k.after in
    subst (λ x. AllRead d (suc n) bytes x rest) ts-is (record {
      front = first.front ++ others.front;
      spelled = record { front = first.front; rest = others.front; first = first.spelled; second = others.spelled; whole = refl };
      nesting = max-le first.nesting others.nesting;
      counts = ap suc others.counts;
      whole = joined bytes first.front b.value.1 others.front rest first.whole (others.whole ∙ ap (λ r. others.front ++ r) rest-is);
    })

more_pairs : Reader Tree → ℕ → Tree × List ℕ → Result (Pairs × List ℕ) Stop
more_pairs one n k = one k.1 >>= λ v. pairs_at one n v.1 >>= λ ps. read (pair k.0 v.0 ps.0) ps.1

pub pairs-sound : (d : ℕ) (one : Reader Tree) → IsSound d one → (n : ℕ) (bytes rest : List ℕ) (ps : Pairs) → AreBytes bytes → pairs_at one n bytes ≡ read ps rest → PairsRead d n bytes ps rest
unfolding pairs_at more_pairs
pairs-sound d one s zero bytes rest ps are e = subst (λ x. PairsRead d 0 bytes x rest) (first-same (no_pair, bytes) (ps, rest) e) (record { front = []; spelled = refl; nesting = omega arith; counts = refl; whole = second-same (no_pair, bytes) (ps, rest) e })
pairs-sound d one s (suc n) bytes rest ps are e =
    let b = bind-ok (one bytes) (more_pairs one n) (ps, rest) e in
    let v = bind-ok (one b.value.1) (λ v. pairs_at one n v.1 >>= λ ps. read (pair b.value.0 v.0 ps.0) ps.1) (ps, rest) b.after in
    let k = bind-ok (pairs_at one n v.value.1) (λ x. read (pair b.value.0 v.value.0 x.0) x.1) (ps, rest) v.after in
    let key = s.each bytes b.value.1 b.value.0 are b.before in
    let after_key = bytes-after bytes key.front b.value.1 key.whole are in
    let value = s.each b.value.1 v.value.1 v.value.0 after_key v.before in
    let others = pairs-sound d one s n v.value.1 k.value.1 k.value.0 (bytes-after b.value.1 value.front v.value.1 value.whole after_key) k.before in
    let ps-is : pair b.value.0 v.value.0 k.value.0 ≡ ps = first-same (pair b.value.0 v.value.0 k.value.0, k.value.1) (ps, rest) k.after in
    let rest-is : k.value.1 ≡ rest = second-same (pair b.value.0 v.value.0 k.value.0, k.value.1) (ps, rest) k.after in
    subst (λ x. PairsRead d (suc n) bytes x rest) ps-is (record {
      front = key.front ++ (value.front ++ others.front);
      spelled = record { front = key.front; rest = value.front ++ others.front; first = key.spelled; second = record { front = value.front; rest = others.front; first = value.spelled; second = others.spelled; whole = refl }; whole = refl };
      nesting = max-le key.nesting (max-le value.nesting others.nesting);
      counts = ap suc others.counts;
      whole = joined bytes key.front b.value.1 (value.front ++ others.front) rest key.whole (joined b.value.1 value.front v.value.1 others.front rest value.whole (others.whole ∙ ap (λ r. others.front ++ r) rest-is));
    })

-- the reader of what is nested, where there is one
Inside : ℕ → Option (Reader Tree) → Type 0
Inside d None = Unit {0}
Inside d (Some one) = (k : ℕ) × (d ≡ suc k) × IsSound k one

-- what follows a head
after-sound : (d : ℕ) (room : Option (Reader Tree)) → Inside d room → (left : ℕ) (h : Head) (bytes front body rest : List ℕ) (t : Tree) → HeadOf h front → bytes ≡ front ++ body → AreBytes body → behind room left h body ≡ read t rest → ReadAs d bytes t rest
unfolding Inside
after-sound d room inside left (heads.Unsigned n) bytes front body rest t is w are e = finished d bytes front body rest (Unsigned n) t is (omega arith) w e
after-sound d room inside left (heads.Negative n) bytes front body rest t is w are e = finished d bytes front body rest (Negative n) t is (omega arith) w e
after-sound d room inside left (heads.Simple n) bytes front body rest t is w are e = finished d bytes front body rest (Simple n) t is (omega arith) w e
after-sound d room inside left (heads.Float k n) bytes front body rest t is w are e = finished d bytes front body rest (Float k n) t is (omega arith) w e
after-sound d room inside left (heads.Bytes n) bytes front body rest t is w are e =
    let b = bind-ok (string_at left n body) (λ s. read (Bytes s.0) s.1) (t, rest) e in
    let s = string-sound left n body b.value.0 b.value.1 b.before in
    finished d bytes (front ++ b.value.0) b.value.1 rest (Bytes b.value.0) t
    (subst (λ m. m < 2 ^ 32) (sym s.len) s.short, record { front = front; rest = b.value.0; first = subst (λ m. IsHead 2 m front) (sym s.len) is; second = refl; whole = refl })
    (omega arith) (joined bytes front body b.value.0 b.value.1 w s.whole) b.after
after-sound d room inside left (heads.Text n) bytes front body rest t is w are e =
    let b = bind-ok (text_at left n body) (λ s. read (Text s.0) s.1) (t, rest) e in
    let u = text-sound left n body b.value.0 b.value.1 b.before in
    let s = u.0 in
    finished d bytes (front ++ b.value.0) b.value.1 rest (Text b.value.0) t
    (subst (λ m. m < 2 ^ 32) (sym s.len) s.short, u.1, record { front = front; rest = b.value.0; first = subst (λ m. IsHead 3 m front) (sym s.len) is; second = refl; whole = refl })
    (omega arith) (joined bytes front body b.value.0 b.value.1 w s.whole) b.after
after-sound d None inside left (heads.Array n) bytes front body rest t is w are e = elim (if-cases (nat_lt n (2 ^ 32)) (stop Deep left) (stop Length left) (read t rest) e) [ inl k ↦ absurd (cc) | inr k ↦ absurd (cc) ]
after-sound d None inside left (heads.Map n) bytes front body rest t is w are e = elim (if-cases (nat_lt n (2 ^ 32)) (stop Deep left) (stop Length left) (read t rest) e) [ inl k ↦ absurd (cc) | inr k ↦ absurd (cc) ]
after-sound d None inside left (heads.Tag n) bytes front body rest t is w are e = absurd (cc)
after-sound d (Some one) inside left (heads.Array n) bytes front body rest t is w are e = elim (if-cases (nat_lt n (2 ^ 32)) (items_at one n body >>= λ x. read (Array x.0) x.1) (stop Length left) (read t rest) e) [
  | inl k ↦
      let b = bind-ok (items_at one n body) (λ x. read (Array x.0) x.1) (t, rest) k.1 in
      let s = items-sound inside.0 one inside.2 n body b.value.1 b.value.0 are b.before in
      finished d bytes (front ++ s.front) b.value.1 rest (Array b.value.0) t
      (subst (λ m. m < 2 ^ 32) (sym s.counts) (ltb-true n (2 ^ 32) k.0), record { front = front; rest = s.front; first = subst (λ m. IsHead 4 m front) (sym s.counts) is; second = s.spelled; whole = refl })
      (let l = s.nesting in let q = inside.1 in omega arith) (joined bytes front body s.front b.value.1 w s.whole) b.after
  | inr k ↦ absurd (cc)
]
after-sound d (Some one) inside left (heads.Map n) bytes front body rest t is w are e = elim (if-cases (nat_lt n (2 ^ 32)) (pairs_at one n body >>= λ x. read (Map x.0) x.1) (stop Length left) (read t rest) e) [
  | inl k ↦
      let b = bind-ok (pairs_at one n body) (λ x. read (Map x.0) x.1) (t, rest) k.1 in
      let s = pairs-sound inside.0 one inside.2 n body b.value.1 b.value.0 are b.before in
      finished d bytes (front ++ s.front) b.value.1 rest (Map b.value.0) t
      (subst (λ m. m < 2 ^ 32) (sym s.counts) (ltb-true n (2 ^ 32) k.0), record { front = front; rest = s.front; first = subst (λ m. IsHead 5 m front) (sym s.counts) is; second = s.spelled; whole = refl })
      (let l = s.nesting in let q = inside.1 in omega arith) (joined bytes front body s.front b.value.1 w s.whole) b.after
  | inr k ↦ absurd (cc)
]
after-sound d (Some one) inside left (heads.Tag n) bytes front body rest t is w are e =
    let b = bind-ok (one body) (λ x. read (Tag n x.0) x.1) (t, rest) e in
    let s = inside.2.each body b.value.1 b.value.0 are b.before in
    finished d bytes (front ++ s.front) b.value.1 rest (Tag n b.value.0) t
    (record { front = front; rest = s.front; first = is; second = s.spelled; whole = refl })
    (let l = s.nesting in let q = inside.1 in omega arith) (joined bytes front body s.front b.value.1 w s.whole) b.after

head-then : (d : ℕ) (room : Option (Reader Tree)) → Inside d room → (left : ℕ) (bytes rest : List ℕ) (t : Tree) → AreBytes bytes → (r : Result (Head × List ℕ) CborKind) → head_at bytes ≡ r → behind_head room left r ≡ read t rest → ReadAs d bytes t rest
head-then d room inside left bytes rest t are (Ok x) at e =
    let h = head-sound bytes x.1 x.0 are at in
    after-sound d room inside left x.0 bytes h.front x.1 rest t h.head_of h.whole (bytes-after bytes h.front x.1 h.whole are) e
head-then d room inside left bytes rest t are (Err kind) at e = absurd (cc)

pub item-sound : (d : ℕ) → IsSound d (item_at d)
unfolding item_at Inside
item-sound zero = record { each = λ bytes rest t are e. head-then 0 None tt (length bytes) bytes rest t are (head_at bytes) refl e }
item-sound (suc d) = record { each = λ bytes rest t are e. head-then (suc d) (Some (item_at d)) (d, refl, item-sound d) (length bytes) bytes rest t are (head_at bytes) refl e }
