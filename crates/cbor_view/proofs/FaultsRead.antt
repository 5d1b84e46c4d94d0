-- A reading stops at each fault of an item's own head, string or count, with its kind or one that counts
-- before it.
use Rattle.std.proofs.Common.{◌≡◌, ◌⊎◌, ℕ, ◌+◌, ◌*◌, ◌/◌, ◌%◌, ◌<◌, ◌≤◌, ◌^◌, ◌==◌, List, [], ◌∷◌, ◌++◌, length, true, false, nat_lt, None, Result, Ok, Err, refl, sym, ap, ◌∙◌, subst, arith, inl, inr}
use Rattle.std.specs.Prelude.{IsUtf8}
use Rattle.std.specs.Str.{is_utf8}
use Rattle.std.proofs.lemmas.Str.{IsUtf8-from_is_utf8}
use Rattle.std.proofs.lemmas.Bool.Decides.{nat_tests}
use Rattle.std.proofs.lemmas.List.{length-append}
use Rattle.std.proofs.Math.Seq.{take-append_seam}
use Rattle.cbor_view.specs.declared.cbor_kind.CborKind.{CborKind}
use Rattle.cbor_view.specs.declared.cbor_kind.CborKind.TheVariants.{Truncated, Reserved, Chunked, Indefinite, Length, Deep, BadText, Trailing}
use Rattle.cbor_view.specs.declared.heads.Head.{Head}
use Rattle.cbor_view.specs.declared.heads.Head.TheVariants as heads
use Rattle.cbor_view.specs.Spelling.{Form, Within, One, Two, Four, Eight, limit, information, argument, head, IsHead}
use Rattle.cbor_view.specs.Reading.{argument_at, endless, head_with, head_at, item_at, inner, behind, behind_head, stop, string_at, text_at}
use Rattle.cbor_view.specs.FirstFault.{IsString, StartsWith, first_byte, EndsInHead, EndsInString, IsReserved, unassigned, endless as no_end, simple, IsTooLong, IsTooDeep, IsBadText, IsWrong, rank}
use Rattle.cbor_view.proofs.HeadReading.{HeadOf, head-again, typed-again}
use Rattle.cbor_view.proofs.ItemReading.{started}
use Rattle.cbor_view.proofs.PartialFaults.{item-flat}
use Rattle.cbor_view.proofs.Steps.{item-inner}

-- ---- heads

pub headed-with : (major info : ℕ) (rest : List ℕ) → info < 32 → head_at ((32 * major + info) ∷ rest) ≡ head_with major info rest
unfolding head_at
headed-with major info rest h =
    let q : (32 * major + info) / 32 ≡ major = omega arith in
    let r : (32 * major + info) % 32 ≡ info = omega arith in
    rw (q, r) refl

started-with : (major info : ℕ) (bytes : List ℕ) → info < 32 → (s : StartsWith (first_byte major info) bytes) → head_at bytes ≡ head_with major info s.rest
started-with major info bytes h s = ap head_at (s.whole ∙ ap (λ f. f ++ s.rest) s.first) ∙ headed-with major info s.rest h

cut-length : (xs more : List ℕ) (w : ℕ) → length (xs ++ more) ≡ w → 0 < length more → length xs < w
cut-length xs more w e h = omega (arith, length-append xs more)

cut-argument : (form : Form) (n : ℕ) (xs more : List ℕ) → xs ++ more ≡ argument form n → 0 < length more → argument_at (information form n) xs ≡ Err Truncated
cut-argument Within n xs more e h = let k = cut-length xs more 0 (ap length e) h in absurd (omega arith)
cut-argument One n xs more e h = let k = cut-length xs more 1 (ap length e) h in let t : nat_lt (length xs) 1 ≡ true = grind (arith, nat_tests) in rw t refl
cut-argument Two n xs more e h = let k = cut-length xs more 2 (ap length e) h in let t : nat_lt (length xs) 2 ≡ true = grind (arith, nat_tests) in rw t refl
cut-argument Four n xs more e h = let k = cut-length xs more 4 (ap length e) h in let t : nat_lt (length xs) 4 ≡ true = grind (arith, nat_tests) in rw t refl
cut-argument Eight n xs more e h = let k = cut-length xs more 8 (ap length e) h in let t : nat_lt (length xs) 8 ≡ true = grind (arith, nat_tests) in rw t refl

info-small : (form : Form) (n : ℕ) → n < limit form → (information form n < 31)
info-small Within n h = omega arith
info-small One n h = omega arith
info-small Two n h = omega arith
info-small Four n h = omega arith
info-small Eight n h = omega arith

abbrev tail_of : List ℕ → List ℕ
tail_of [] = []
tail_of (x ∷ xs) = xs

abbrev first_of_all : List ℕ → ℕ
first_of_all [] = 0
first_of_all (x ∷ xs) = x

cut-head : (form : Form) (major n : ℕ) (bytes more : List ℕ) → bytes ++ more ≡ head form major n → 0 < length more → n < limit form → head_at bytes ≡ Err Truncated
unfolding head_at
cut-head form major n [] more e h l = refl
cut-head form major n (x ∷ xs) more e h l =
    let first : x ≡ 32 * major + information form n = ap first_of_all e in
    let others : xs ++ more ≡ argument form n = ap tail_of e in
    let small = info-small form n l in
    let t : (information form n == 31) ≡ false = grind (arith, nat_tests) in
    ap (λ y. head_at (y ∷ xs)) first ∙ headed-with major (information form n) xs (omega arith) ∙ rw t (rw (cut-argument form n xs more others h) refl)

ends-in-head : (bytes : List ℕ) → EndsInHead bytes → head_at bytes ≡ Err Truncated
ends-in-head bytes w = cut-head w.head.form w.major w.n bytes w.more w.head.spelled w.lacking w.head.holds

reserved-head : (bytes : List ℕ) → IsReserved bytes → head_at bytes ≡ Err Reserved
reserved-head bytes (unassigned major info known low high s) =
    let a : (info == 31) ≡ false = grind (arith, nat_tests) in
    let b : nat_lt info 24 ≡ false = grind (arith, nat_tests) in
    let c : (info == 24) ≡ false = grind (arith, nat_tests) in
    let d : (info == 25) ≡ false = grind (arith, nat_tests) in
    let e : (info == 26) ≡ false = grind (arith, nat_tests) in
    let f : (info == 27) ≡ false = grind (arith, nat_tests) in
    started-with major info bytes (omega arith) s ∙ rw (a, b) (rw (c, d) (rw (e, f) refl))
reserved-head bytes (no_end major (inl m) s) = started-with major 31 bytes (omega arith) s ∙ ap (λ k. Err (endless k)) m
reserved-head bytes (no_end major (inr (inl m)) s) = started-with major 31 bytes (omega arith) s ∙ ap (λ k. Err (endless k)) m
reserved-head bytes (no_end major (inr (inr (inl m))) s) = started-with major 31 bytes (omega arith) s ∙ ap (λ k. Err (endless k)) m
reserved-head bytes (no_end major (inr (inr (inr m))) s) = started-with major 31 bytes (omega arith) s ∙ ap (λ k. Err (endless k)) m
reserved-head bytes (simple n low s) =
    let t : nat_lt n 32 ≡ true = grind (arith, nat_tests) in
    ap head_at (s.whole ∙ ap (λ f. f ++ s.rest) s.first) ∙ head-again One 7 n s.rest (omega arith) ∙ rw t refl

-- ---- items

-- The head alone refuses the item, with so many levels at most: it is no head, or what it announces is no
-- item after which others are looked at.
abbrev pub IsRefused : ℕ → Result (Head × List ℕ) CborKind → Type 0
IsRefused d (Ok (heads.Array n, rest)) = (d ≡ 0) ⊎ (nat_lt n (2 ^ 32) ≡ false)
IsRefused d (Ok (heads.Map n, rest)) = (d ≡ 0) ⊎ (nat_lt n (2 ^ 32) ≡ false)
IsRefused d (Ok (heads.Tag n, rest)) = d ≡ 0
IsRefused d _ = Unit {0}

-- The reading of an item with so many levels at most stops at its own head, by that kind or one before it.
pub record StopsBy (d inside : ℕ) (bytes : List ℕ) (kind : CborKind) : Type 0 where
  pub told : CborKind
  pub stopped : item_at d bytes ≡ Err (record { kind = told; left = length bytes })
  pub counts : rank told ≤ rank kind
  pub wrong : IsWrong told inside bytes
  pub refused : IsRefused d (head_at bytes)

at-head : (d inside : ℕ) (bytes : List ℕ) (kind : CborKind) → head_at bytes ≡ Err kind → IsWrong kind inside bytes → StopsBy d inside bytes kind
at-head d inside bytes kind e w = record { told = kind; stopped = item-inner d bytes ∙ ap (behind_head (inner d) (length bytes)) e; counts = omega arith; wrong = w; refused = subst (IsRefused d) (sym e) tt }

-- of a head and what follows it
with-head : (d inside : ℕ) (h : Head) (front rest : List ℕ) (kind told : CborKind) → HeadOf h front → IsRefused d (Ok (h, rest)) → behind (inner d) (length (front ++ rest)) h rest ≡ Err (record { kind = told; left = length (front ++ rest) }) → rank told ≤ rank kind → IsWrong told inside (front ++ rest) → StopsBy d inside (front ++ rest) kind
with-head d inside h front rest kind told is r e c w = record { told = told; stopped = started d h front rest is ∙ e; counts = c; wrong = w; refused = subst (IsRefused d) (sym (typed-again h front rest is)) r }

short-string : (left n : ℕ) (rest : List ℕ) → length rest < n → string_at left n rest ≡ stop Truncated left
short-string left n rest h = let t : nat_lt (length rest) n ≡ true = grind (arith, nat_tests) in rw t refl

cut-of : (major n : ℕ) (front rest : List ℕ) → IsString major → IsHead major n front → length rest < n → EndsInString (front ++ rest)
cut-of major n front rest m is h = record { major = major; n = n; string = m; spelled = record { front = front; rest = rest; first = is; second = h; whole = refl } }

cut-bytes : (d inside n : ℕ) (front rest : List ℕ) (kind : CborKind) → length rest < n → IsHead 2 n front → StopsBy d inside (front ++ rest) kind
cut-bytes d inside n front rest kind h is = with-head d inside (heads.Bytes n) front rest kind Truncated is tt (rw (short-string (length (front ++ rest)) n rest h) refl) (omega arith) (inr (cut-of 2 n front rest (inl refl) is h))

cut-text : (d inside n : ℕ) (front rest : List ℕ) (kind : CborKind) → length rest < n → IsHead 3 n front → StopsBy d inside (front ++ rest) kind
cut-text d inside n front rest kind h is = with-head d inside (heads.Text n) front rest kind Truncated is tt (rw (short-string (length (front ++ rest)) n rest h) refl) (omega arith) (inr (cut-of 3 n front rest (inr refl) is h))

-- a head by the major type that it has
of-major : (major m n : ℕ) (front : List ℕ) → IsHead major n front → major ≡ m → IsHead m n front
of-major major m n front is e = subst (λ k. IsHead k n front) e is

ends-in-string : (d inside : ℕ) (bytes : List ℕ) → EndsInString bytes → StopsBy d inside bytes Truncated
ends-in-string d inside bytes w =
    let s = w.spelled in
    subst (λ x. StopsBy d inside x Truncated) (sym s.whole) (elim w.string [
      | inl e ↦ cut-bytes d inside w.n s.front s.rest Truncated s.second (of-major w.major 2 w.n s.front s.first e)
      | inr e ↦ cut-text d inside w.n s.front s.rest Truncated s.second (of-major w.major 3 w.n s.front s.first e)
    ])

-- a string of that length that is there
long-string : (left n : ℕ) (rest : List ℕ) → 2 ^ 32 ≤ n → n ≤ length rest → string_at left n rest ≡ stop Length left
long-string left n rest h l =
    let t : nat_lt (length rest) n ≡ false = grind (arith, nat_tests) in
    let k : nat_lt n (2 ^ 32) ≡ false = grind (arith, nat_tests) in
    rw t (rw k refl)

long-of : (major n : ℕ) (front rest : List ℕ) → IsString major ⊎ (major ≡ 4) ⊎ (major ≡ 5) → IsHead major n front → 2 ^ 32 ≤ n → IsTooLong (front ++ rest)
long-of major n front rest m is h = record { major = major; n = n; counts = m; large = h; spelled = record { front = front; rest = rest; first = is; second = tt; whole = refl } }

abbrev Passes : ℕ → List ℕ → Type 0
Passes n rest = (length rest < n) ⊎ (n ≤ length rest)

passes : (n : ℕ) (rest : List ℕ) → Passes n rest
passes n rest = elim (nat_lt (length rest) n) as (λ b. nat_lt (length rest) n ≡ b → Passes n rest) [ true ↦ λ t. inl (grind (arith, nat_tests)) | false ↦ λ t. inr (grind (arith, nat_tests)) ] refl

long-bytes : (d inside n : ℕ) (front rest : List ℕ) → 2 ^ 32 ≤ n → IsHead 2 n front → StopsBy d inside (front ++ rest) Length
long-bytes d inside n front rest h is = elim (passes n rest) [
  | inl l ↦ cut-bytes d inside n front rest Length l is
  | inr l ↦ with-head d inside (heads.Bytes n) front rest Length Length is tt (rw (long-string (length (front ++ rest)) n rest h l) refl) (omega arith) (long-of 2 n front rest (inl (inl refl)) is h)
]

long-text : (d inside n : ℕ) (front rest : List ℕ) (kind : CborKind) → rank Length ≤ rank kind → 2 ^ 32 ≤ n → IsHead 3 n front → StopsBy d inside (front ++ rest) kind
long-text d inside n front rest kind c h is = elim (passes n rest) [
  | inl l ↦ cut-text d inside n front rest kind l is
  | inr l ↦ with-head d inside (heads.Text n) front rest kind Length is tt (rw (long-string (length (front ++ rest)) n rest h l) refl) c (long-of 3 n front rest (inl (inr refl)) is h)
]

long-array : (d inside n : ℕ) (front rest : List ℕ) (kind : CborKind) → rank Length ≤ rank kind → 2 ^ 32 ≤ n → IsHead 4 n front → StopsBy d inside (front ++ rest) kind
long-array d inside n front rest kind c h is =
    let k : nat_lt n (2 ^ 32) ≡ false = grind (arith, nat_tests) in
    with-head d inside (heads.Array n) front rest kind Length is (inr k) (rw k refl) c (long-of 4 n front rest (inr (inl refl)) is h)

long-map : (d inside n : ℕ) (front rest : List ℕ) (kind : CborKind) → rank Length ≤ rank kind → 2 ^ 32 ≤ n → IsHead 5 n front → StopsBy d inside (front ++ rest) kind
long-map d inside n front rest kind c h is =
    let k : nat_lt n (2 ^ 32) ≡ false = grind (arith, nat_tests) in
    with-head d inside (heads.Map n) front rest kind Length is (inr k) (rw k refl) c (long-of 5 n front rest (inr (inr refl)) is h)

too-long : (d inside : ℕ) (bytes : List ℕ) → IsTooLong bytes → StopsBy d inside bytes Length
too-long d inside bytes w =
    let s = w.spelled in
    subst (λ x. StopsBy d inside x Length) (sym s.whole) (elim w.counts [
      | inl (inl e) ↦ long-bytes d inside w.n s.front s.rest w.large (of-major w.major 2 w.n s.front s.first e)
      | inl (inr e) ↦ long-text d inside w.n s.front s.rest Length (omega arith) w.large (of-major w.major 3 w.n s.front s.first e)
      | inr (inl e) ↦ long-array d inside w.n s.front s.rest Length (omega arith) w.large (of-major w.major 4 w.n s.front s.first e)
      | inr (inr e) ↦ long-map d inside w.n s.front s.rest Length (omega arith) w.large (of-major w.major 5 w.n s.front s.first e)
    ])

-- with no level left
deep-of : (major inside n : ℕ) (front rest : List ℕ) → inside ≡ 32 → (major ≡ 4) ⊎ (major ≡ 5) ⊎ (major ≡ 6) → IsHead major n front → IsTooDeep inside (front ++ rest)
deep-of major inside n front rest full m is = record { major = major; n = n; nests = m; full = full; spelled = record { front = front; rest = rest; first = is; second = tt; whole = refl } }

with-flat-head : (inside : ℕ) (h : Head) (front rest : List ℕ) → HeadOf h front → IsRefused 0 (Ok (h, rest)) → behind None (length (front ++ rest)) h rest ≡ stop Deep (length (front ++ rest)) → IsTooDeep inside (front ++ rest) → StopsBy 0 inside (front ++ rest) Deep
with-flat-head inside h front rest is r e w = record {
  told = Deep;
  stopped = item-flat (front ++ rest) ∙ ap (behind_head None (length (front ++ rest))) (typed-again h front rest is) ∙ e;
  counts = omega arith;
  wrong = w;
  refused = subst (IsRefused 0) (sym (typed-again h front rest is)) r;
}

deep-array : (inside n : ℕ) (front rest : List ℕ) → inside ≡ 32 → IsHead 4 n front → StopsBy 0 inside (front ++ rest) Deep
deep-array inside n front rest full is = elim (nat_lt n (2 ^ 32)) as (λ b. nat_lt n (2 ^ 32) ≡ b → StopsBy 0 inside (front ++ rest) Deep) [
  | true ↦ λ t. with-flat-head inside (heads.Array n) front rest is (inl refl) (rw t refl) (deep-of 4 inside n front rest full (inl refl) is)
  | false ↦ λ t. long-array 0 inside n front rest Deep (omega arith) (grind (arith, nat_tests)) is
] refl

deep-map : (inside n : ℕ) (front rest : List ℕ) → inside ≡ 32 → IsHead 5 n front → StopsBy 0 inside (front ++ rest) Deep
deep-map inside n front rest full is = elim (nat_lt n (2 ^ 32)) as (λ b. nat_lt n (2 ^ 32) ≡ b → StopsBy 0 inside (front ++ rest) Deep) [
  | true ↦ λ t. with-flat-head inside (heads.Map n) front rest is (inl refl) (rw t refl) (deep-of 5 inside n front rest full (inr (inl refl)) is)
  | false ↦ λ t. long-map 0 inside n front rest Deep (omega arith) (grind (arith, nat_tests)) is
] refl

too-deep : (bytes : List ℕ) (inside : ℕ) → IsTooDeep inside bytes → StopsBy 0 inside bytes Deep
too-deep bytes inside w =
    let s = w.spelled in
    subst (λ x. StopsBy 0 inside x Deep) (sym s.whole) (elim w.nests [
      | inl e ↦ deep-array inside w.n s.front s.rest w.full (of-major w.major 4 w.n s.front s.first e)
      | inr (inl e) ↦ deep-map inside w.n s.front s.rest w.full (of-major w.major 5 w.n s.front s.first e)
      | inr (inr e) ↦
          let is : IsHead 6 w.n s.front = of-major w.major 6 w.n s.front s.first e in
          with-flat-head inside (heads.Tag w.n) s.front s.rest is refl refl (deep-of 6 inside w.n s.front s.rest w.full (inr (inr refl)) is)
    ])

not-utf8 : (b : List ℕ) → (IsUtf8 b → ⊥) → is_utf8 b ≡ false
not-utf8 b bad = elim (is_utf8 b) as (λ t. is_utf8 b ≡ t → t ≡ false) [ true ↦ λ e. absurd (bad (IsUtf8-from_is_utf8 b e)) | false ↦ λ e. refl ] refl

bad-text-at : (left : ℕ) (b rest : List ℕ) → (IsUtf8 b → ⊥) → length b < 2 ^ 32 → text_at left (length b) (b ++ rest) ≡ stop BadText left
bad-text-at left b rest bad l =
    let len : length (b ++ rest) ≡ length b + length rest = length-append b rest in
    let fits : nat_lt (length (b ++ rest)) (length b) ≡ false = grind (arith, nat_tests) in
    let t : nat_lt (length b) (2 ^ 32) ≡ true = grind (arith, nat_tests) in
    rw fits (rw t (rw (take-append_seam b rest) (rw (not-utf8 b bad) refl)))

bad-text-front : (d inside : ℕ) (front b rest : List ℕ) → IsHead 3 (length b) front → (IsUtf8 b → ⊥) → StopsBy d inside (front ++ (b ++ rest)) BadText
bad-text-front d inside front b rest is bad = elim (nat_lt (length b) (2 ^ 32)) as (λ t. nat_lt (length b) (2 ^ 32) ≡ t → StopsBy d inside (front ++ (b ++ rest)) BadText) [
  | true ↦ λ t.
      let l : length b < 2 ^ 32 = grind (arith, nat_tests) in
      let w : IsBadText (front ++ (b ++ rest)) = record { text = b; spelled = record { front = front; rest = b ++ rest; first = is; second = record { front = b; rest = rest; first = refl; second = tt; whole = refl }; whole = refl }; bad = bad } in
      with-head d inside (heads.Text (length b)) front (b ++ rest) BadText BadText is tt (rw (bad-text-at (length (front ++ (b ++ rest))) b rest bad l) refl) (omega arith) w
  | false ↦ λ t. long-text d inside (length b) front (b ++ rest) BadText (omega arith) (grind (arith, nat_tests)) is
] refl

bad-text : (d inside : ℕ) (bytes : List ℕ) → IsBadText bytes → StopsBy d inside bytes BadText
bad-text d inside bytes w =
    let s = w.spelled in
    let whole : bytes ≡ s.front ++ (w.text ++ s.second.rest) = s.whole ∙ ap (λ x. s.front ++ x) (s.second.whole ∙ ap (λ x. x ++ s.second.rest) s.second.first) in
    subst (λ x. StopsBy d inside x BadText) (sym whole) (bad-text-front d inside s.front w.text s.second.rest s.first w.bad)

pub wrong-stops : (kind : CborKind) (inside d : ℕ) (bytes : List ℕ) → inside + d ≡ 32 → IsWrong kind inside bytes → StopsBy d inside bytes kind
wrong-stops Truncated inside d bytes l (inl w) = at-head d inside bytes Truncated (ends-in-head bytes w) (inl w)
wrong-stops Truncated inside d bytes l (inr w) = ends-in-string d inside bytes w
wrong-stops Reserved inside d bytes l w = at-head d inside bytes Reserved (reserved-head bytes w) w
wrong-stops Chunked inside d bytes l (inl w) = at-head d inside bytes Chunked (started-with 2 31 bytes (omega arith) w) (inl w)
wrong-stops Chunked inside d bytes l (inr w) = at-head d inside bytes Chunked (started-with 3 31 bytes (omega arith) w) (inr w)
wrong-stops Indefinite inside d bytes l (inl w) = at-head d inside bytes Indefinite (started-with 4 31 bytes (omega arith) w) (inl w)
wrong-stops Indefinite inside d bytes l (inr w) = at-head d inside bytes Indefinite (started-with 5 31 bytes (omega arith) w) (inr w)
wrong-stops Length inside d bytes l w = too-long d inside bytes w
wrong-stops Deep inside d bytes l w = let q : inside ≡ 32 = w.full in let z : 0 ≡ d = omega arith in subst (λ k. StopsBy k inside bytes Deep) z (too-deep bytes inside w)
wrong-stops BadText inside d bytes l w = bad-text d inside bytes w
wrong-stops Trailing inside d bytes l w = absurd w
