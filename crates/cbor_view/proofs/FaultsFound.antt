-- Where a reading stops, what stands there is wrong in the way that it tells.
use Rattle.std.proofs.Common.{◌≡◌, ◌⊎◌, ℕ, zero, suc, ◌+◌, ◌-◌, ◌*◌, ◌/◌, ◌%◌, ◌<◌, ◌≤◌, ◌^◌, ◌==◌, if◌then◌else◌, List, [], ◌∷◌, ◌++◌, length, take, drop, get_or, false, nat_lt, Some, None, Result, Ok, Err, refl, sym, ap, ◌∙◌, subst, arith, inl, inr}
use Rattle.std.specs.Int.{Width, byte_len, w8, w16, w32, w64, from_be_bytes}
use Rattle.std.specs.Str.{is_utf8}
use Rattle.std.proofs.lemmas.Str.{is_utf8-from_IsUtf8}
use Rattle.std.proofs.lemmas.Bool.{ltb-true, ltb-false, eqb-true}
use Rattle.std.proofs.lemmas.Bool.Decides.{nat_tests}
use Rattle.std.proofs.lemmas.List.{length-append}
use Rattle.std.proofs.lemmas.Nat.{be_bytes_2, be_bytes_4, be_bytes_8}
use Rattle.std.proofs.Math.Nat.{max-le}
use Rattle.cbor_view.specs.declared.cbor_kind.CborKind.{CborKind}
use Rattle.cbor_view.specs.declared.cbor_kind.CborKind.TheVariants.{Truncated, Reserved, Length, Deep, BadText}
use Rattle.cbor_view.specs.declared.stop.Stop.{Stop}
use Rattle.cbor_view.specs.declared.heads.Head.{Head}
use Rattle.cbor_view.specs.declared.heads.Head.TheVariants as heads
use Rattle.cbor_view.specs.Tree.{Tree, Bytes, Text, Array, Map, Tag, Trees, none, more, Pairs, pair, count, levels_of_all}
use Rattle.cbor_view.specs.Spelling.{Form, Within, One, Two, Four, Eight, limit, information, argument, head, IsHead, AllSpelled}
use Rattle.cbor_view.specs.Reading.{◌>>=◌, number_at, argument_at, endless, simple_or_float, typed, kind_of, head_at, items_at, pairs_at, item_at, behind, behind_head, stop, string_at, text_at}
use Rattle.cbor_view.specs.FirstFault.{Announces, items, pairs, tagged, Begun, Due, StartsWith, first_byte, IsString, unassigned, endless as no_end, simple, IsWrong}
use Rattle.cbor_view.proofs.HeadReading.{AreBytes, HeadOf, if-cases, number-sound_1, bound_1, bound_2, bound_4, bound_8, one_byte, from_24, from_25, from_26, from_27, AreBytes-after, head-sound}
use Rattle.cbor_view.proofs.ItemReading.{string-sound, item-sound, bytes-after, joined}
use Rattle.cbor_view.proofs.PartialFaults.{bind-err, item-flat, item-deep}

-- ---- an argument that passes the end

zeros : ℕ → List ℕ
zeros zero = []
zeros (suc n) = 0 ∷ zeros n

zeros-length : (n : ℕ) → length (zeros n) ≡ n
unfolding zeros
zeros-length zero = refl
zeros-length (suc n) = ap suc (zeros-length n)

zeros-each : (n i : ℕ) → get_or (zeros n) i 0 < 256
unfolding zeros
zeros-each zero i = omega arith
zeros-each (suc n) zero = omega arith
zeros-each (suc n) (suc i) = zeros-each n i

padded-each : (bytes : List ℕ) (n : ℕ) → AreBytes bytes → (i : ℕ) → get_or (bytes ++ zeros n) i 0 < 256
padded-each [] n are i = zeros-each n i
padded-each (x ∷ xs) n are zero = are.each 0
padded-each (x ∷ xs) n are (suc i) = padded-each xs n (record { each = λ k. are.each (suc k) }) i

padded-length : (bytes : List ℕ) (w : ℕ) → length bytes < w → length (bytes ++ zeros (w - length bytes)) ≡ w
padded-length bytes w h = omega (arith, length-append bytes (zeros (w - length bytes)), zeros-length (w - length bytes))

-- the argument by that additional information goes on after the bytes
record Cut (info : ℕ) (bytes : List ℕ) : Type 0 where
  form : Form
  n : ℕ
  more : List ℕ
  holds : n < limit form
  told : information form n ≡ info
  spelled : bytes ++ more ≡ argument form n
  lacking : 0 < length more

lacks : (bytes : List ℕ) (w : ℕ) → length bytes < w → 0 < length (zeros (w - length bytes))
lacks bytes w h = omega (arith, zeros-length (w - length bytes))

cut_1 : (bytes : List ℕ) → AreBytes bytes → length bytes < 1 → Cut 24 bytes
cut_1 bytes are h =
    let all : List ℕ = bytes ++ zeros (1 - length bytes) in
    let each : (i : ℕ) → get_or all i 0 < 256 = padded-each bytes (1 - length bytes) are in
    record { form = One; n = from_be_bytes w8 all; more = zeros (1 - length bytes); holds = bound_1 all each; told = refl; spelled = sym (one_byte all (from_be_bytes w8 all) (padded-length bytes 1 h) each refl); lacking = lacks bytes 1 h }

cut_2 : (bytes : List ℕ) → AreBytes bytes → length bytes < 2 → Cut 25 bytes
cut_2 bytes are h =
    let all : List ℕ = bytes ++ zeros (2 - length bytes) in
    let each : (i : ℕ) → get_or all i 0 < 256 = padded-each bytes (2 - length bytes) are in
    record { form = Two; n = from_be_bytes w16 all; more = zeros (2 - length bytes); holds = bound_2 all each; told = refl; spelled = sym (be_bytes_2 all (from_be_bytes w16 all) (padded-length bytes 2 h) each refl); lacking = lacks bytes 2 h }

cut_4 : (bytes : List ℕ) → AreBytes bytes → length bytes < 4 → Cut 26 bytes
cut_4 bytes are h =
    let all : List ℕ = bytes ++ zeros (4 - length bytes) in
    let each : (i : ℕ) → get_or all i 0 < 256 = padded-each bytes (4 - length bytes) are in
    record { form = Four; n = from_be_bytes w32 all; more = zeros (4 - length bytes); holds = bound_4 all each; told = refl; spelled = sym (be_bytes_4 all (from_be_bytes w32 all) (padded-length bytes 4 h) each refl); lacking = lacks bytes 4 h }

cut_8 : (bytes : List ℕ) → AreBytes bytes → length bytes < 8 → Cut 27 bytes
cut_8 bytes are h =
    let all : List ℕ = bytes ++ zeros (8 - length bytes) in
    let each : (i : ℕ) → get_or all i 0 < 256 = padded-each bytes (8 - length bytes) are in
    record { form = Eight; n = from_be_bytes w64 all; more = zeros (8 - length bytes); holds = bound_8 all each; told = refl; spelled = sym (be_bytes_8 all (from_be_bytes w64 all) (padded-length bytes 8 h) each refl); lacking = lacks bytes 8 h }

abbrev Number : Type 0
Number = Result (ℕ × List ℕ) CborKind

abbrev failed : CborKind → Number
failed kind = Err kind

kind-same : {A : Type 0} (a b : CborKind) → ◌≡◌ {A = Result A CborKind} (Err a) (Err b) → b ≡ a
kind-same a b e = cc

number-fails : (w : Width) (bytes : List ℕ) (kind : CborKind) → number_at w bytes ≡ failed kind → (length bytes < byte_len w) × (kind ≡ Truncated)
number-fails w bytes kind e = elim (if-cases (nat_lt (length bytes) (byte_len w)) (failed Truncated) (Ok (from_be_bytes w (take (byte_len w) bytes), drop (byte_len w) bytes)) (failed kind) e) [
  | inl d ↦ (ltb-true (length bytes) (byte_len w) d.0, kind-same Truncated kind d.1)
  | inr d ↦ absurd (cc)
]

-- why an argument is refused
abbrev Refused : ℕ → List ℕ → CborKind → Type 0
Refused info bytes kind = ((kind ≡ Truncated) × Cut info bytes) ⊎ ((kind ≡ Reserved) × (28 ≤ info))

refused_27 : (info : ℕ) (bytes : List ℕ) (kind : CborKind) → AreBytes bytes → 27 ≤ info → from_27 info bytes ≡ failed kind → Refused info bytes kind
refused_27 info bytes kind are low e = elim (if-cases (info == 27) (number_at w64 bytes) (failed Reserved) (failed kind) e) [
  | inl d ↦ let f = number-fails w64 bytes kind d.1 in inl (f.1, subst (λ i. Cut i bytes) (sym (eqb-true info 27 d.0)) (cut_8 bytes are f.0))
  | inr d ↦ inr (kind-same Reserved kind d.1, let t : (info == 27) ≡ false = d.0 in grind (arith, nat_tests))
]

refused_26 : (info : ℕ) (bytes : List ℕ) (kind : CborKind) → AreBytes bytes → 26 ≤ info → from_26 info bytes ≡ failed kind → Refused info bytes kind
refused_26 info bytes kind are low e = elim (if-cases (info == 26) (number_at w32 bytes) (from_27 info bytes) (failed kind) e) [
  | inl d ↦ let f = number-fails w32 bytes kind d.1 in inl (f.1, subst (λ i. Cut i bytes) (sym (eqb-true info 26 d.0)) (cut_4 bytes are f.0))
  | inr d ↦ refused_27 info bytes kind are (let t : (info == 26) ≡ false = d.0 in grind (arith, nat_tests)) d.1
]

refused_25 : (info : ℕ) (bytes : List ℕ) (kind : CborKind) → AreBytes bytes → 25 ≤ info → from_25 info bytes ≡ failed kind → Refused info bytes kind
refused_25 info bytes kind are low e = elim (if-cases (info == 25) (number_at w16 bytes) (from_26 info bytes) (failed kind) e) [
  | inl d ↦ let f = number-fails w16 bytes kind d.1 in inl (f.1, subst (λ i. Cut i bytes) (sym (eqb-true info 25 d.0)) (cut_2 bytes are f.0))
  | inr d ↦ refused_26 info bytes kind are (let t : (info == 25) ≡ false = d.0 in grind (arith, nat_tests)) d.1
]

refused_24 : (info : ℕ) (bytes : List ℕ) (kind : CborKind) → AreBytes bytes → 24 ≤ info → from_24 info bytes ≡ failed kind → Refused info bytes kind
refused_24 info bytes kind are low e = elim (if-cases (info == 24) (number_at w8 bytes) (from_25 info bytes) (failed kind) e) [
  | inl d ↦ let f = number-fails w8 bytes kind d.1 in inl (f.1, subst (λ i. Cut i bytes) (sym (eqb-true info 24 d.0)) (cut_1 bytes are f.0))
  | inr d ↦ refused_25 info bytes kind are (let t : (info == 24) ≡ false = d.0 in grind (arith, nat_tests)) d.1
]

argument-refused : (info : ℕ) (bytes : List ℕ) (kind : CborKind) → AreBytes bytes → argument_at info bytes ≡ failed kind → Refused info bytes kind
argument-refused info bytes kind are e = elim (if-cases (nat_lt info 24) (Ok (info, bytes)) (from_24 info bytes) (failed kind) e) [
  | inl d ↦ absurd (cc)
  | inr d ↦ refused_24 info bytes kind are (ltb-false info 24 d.0) d.1
]

-- ---- heads

-- a step that fails: what came before it failed, or it does
pub record Went {A B E : Type 0} (r : Result A E) (f : A → Result B E) (y : E) : Type 0 where
  pub value : A
  pub before : r ≡ Ok value
  pub after : f value ≡ Err y

pub bind-fails : {A B E : Type 0} (r : Result A E) (f : A → Result B E) (y : E) → (r >>= f) ≡ Err y → (r ≡ Err y) ⊎ Went r f y
bind-fails (Ok x) f y e = inr (record { value = x; before = refl; after = e })
bind-fails (Err d) f y e = inl (cc)

abbrev with_rest : List ℕ → Head → Result (Head × List ℕ) CborKind
with_rest rest h = Ok (h, rest)

head-made : (r : Result Head CborKind) (rest : List ℕ) (kind : CborKind) → (r >>= with_rest rest) ≡ Err kind → r ≡ Err kind
head-made (Ok h) rest kind e = absurd (cc)
head-made (Err d) rest kind e = cc

-- the one refusal by the kind: a simple value below 32 in two bytes
record IsLow (major info n : ℕ) (kind : CborKind) : Type 0 where
  seven : major ≡ 7
  two : info ≡ 24
  low : n < 32
  kind_is : kind ≡ Reserved

abbrev simple_low : ℕ → Result Head CborKind
simple_low n = if nat_lt n 32 then Err Reserved else Ok (heads.Simple n)

abbrev floats : ℕ → ℕ → Result Head CborKind
floats info n = if info == 25 then Ok (heads.Float 2 n) else (if info == 26 then Ok (heads.Float 4 n) else Ok (heads.Float 8 n))

floats-ok : (info n : ℕ) (kind : CborKind) → floats info n ≡ Err kind → ⊥
floats-ok info n kind e = elim (if-cases (info == 25) (Ok (heads.Float 2 n)) (if info == 26 then Ok (heads.Float 4 n) else Ok (heads.Float 8 n)) (Err kind) e) [
  | inl d ↦ absurd (cc)
  | inr d ↦ elim (if-cases (info == 26) (Ok (heads.Float 4 n)) (Ok (heads.Float 8 n)) (Err kind) d.1) [ inl k ↦ absurd (cc) | inr k ↦ absurd (cc) ]
]

low-seven : (major info n : ℕ) (kind : CborKind) → major ≡ 7 → simple_or_float info n ≡ Err kind → IsLow major info n kind
low-seven major info n kind m e = elim (if-cases (nat_lt info 24) (Ok (heads.Simple n)) (if info == 24 then simple_low n else floats info n) (Err kind) e) [
  | inl d ↦ absurd (cc)
  | inr d ↦ elim (if-cases (info == 24) (simple_low n) (floats info n) (Err kind) d.1) [
    | inl k ↦ elim (if-cases (nat_lt n 32) (Err Reserved) (Ok (heads.Simple n)) (Err kind) k.1) [
      | inl j ↦ record { seven = m; two = eqb-true info 24 k.0; low = ltb-true n 32 j.0; kind_is = kind-same {A = Head} Reserved kind j.1 }
      | inr j ↦ absurd (cc)
    ]
    | inr k ↦ absurd (floats-ok info n kind k.1)
  ]
]

kind-low : (major info n : ℕ) (kind : CborKind) → kind_of major info n ≡ Err kind → IsLow major info n kind
kind-low major info n kind e = elim (if-cases (major == 7) (simple_or_float info n) (Ok (typed major n)) (Err kind) e) [
  | inl d ↦ low-seven major info n kind (eqb-true major 7 d.0) d.1
  | inr d ↦ absurd (cc)
]

starts : (major info : ℕ) (rest : List ℕ) → StartsWith (first_byte major info) ((32 * major + info) ∷ rest)
starts major info rest = record { front = first_byte major info; rest = rest; first = refl; second = tt; whole = refl }

endless-wrong : (inside major : ℕ) (rest : List ℕ) → major < 8 → IsWrong (endless major) inside ((32 * major + 31) ∷ rest)
endless-wrong inside zero rest h = no_end 0 (inl refl) (starts 0 31 rest)
endless-wrong inside (suc zero) rest h = no_end 1 (inr (inl refl)) (starts 1 31 rest)
endless-wrong inside (suc (suc zero)) rest h = inl (starts 2 31 rest)
endless-wrong inside (suc (suc (suc zero))) rest h = inr (starts 3 31 rest)
endless-wrong inside (suc (suc (suc (suc zero)))) rest h = inl (starts 4 31 rest)
endless-wrong inside (suc (suc (suc (suc (suc zero))))) rest h = inr (starts 5 31 rest)
endless-wrong inside (suc (suc (suc (suc (suc (suc zero)))))) rest h = no_end 6 (inr (inr (inl refl))) (starts 6 31 rest)
endless-wrong inside (suc (suc (suc (suc (suc (suc (suc zero))))))) rest h = no_end 7 (inr (inr (inr refl))) (starts 7 31 rest)
endless-wrong inside (suc (suc (suc (suc (suc (suc (suc (suc m)))))))) rest h = absurd (omega arith)

argument-wrong : (inside major info : ℕ) (rest : List ℕ) (kind : CborKind) → major < 8 → info < 31 → Refused info rest kind → IsWrong kind inside ((32 * major + info) ∷ rest)
argument-wrong inside major info rest kind known small (inl r) =
    let c = r.1 in
    subst (λ k. IsWrong k inside ((32 * major + info) ∷ rest)) (sym r.0) (inl (record {
      major = major;
      n = c.n;
      more = c.more;
      known = known;
      head = record { form = c.form; holds = c.holds; spelled = ap (λ i. (32 * major + i) ∷ (rest ++ c.more)) (sym c.told) ∙ ap (λ a. (32 * major + information c.form c.n) ∷ a) c.spelled };
      lacking = c.lacking;
    }))
argument-wrong inside major info rest kind known small (inr r) = subst (λ k. IsWrong k inside ((32 * major + info) ∷ rest)) (sym r.0) (unassigned major info known r.1 (omega arith) (starts major info rest))

low-wrong : (inside major info n : ℕ) (rest after : List ℕ) (kind : CborKind) → AreBytes rest → IsLow major info n kind → argument_at info rest ≡ Ok (n, after) → IsWrong kind inside ((32 * major + info) ∷ rest)
low-wrong inside major info n rest after kind are l e =
    let f : argument_at 24 rest ≡ Ok (n, after) = subst (λ i. argument_at i rest ≡ Ok (n, after)) l.two e in
    let s = number-sound_1 rest after n are f in
    let whole : (32 * major + info) ∷ rest ≡ head One 7 n ++ after = ap (λ m. (32 * m + info) ∷ rest) l.seven ∙ (ap (λ i. (32 * 7 + i) ∷ rest) l.two ∙ ap (λ r. (32 * 7 + 24) ∷ r) s.1) in
    subst (λ k. IsWrong k inside ((32 * major + info) ∷ rest)) (sym l.kind_is) (simple n l.low (record { front = head One 7 n; rest = after; first = refl; second = tt; whole = whole }))

abbrev step : ℕ → ℕ → ℕ × List ℕ → Result (Head × List ℕ) CborKind
step major info x = kind_of major info x.0 >>= with_rest x.1

split-wrong : (inside major info : ℕ) (rest : List ℕ) (kind : CborKind) → AreBytes rest → major < 8 → info < 32 → (if info == 31 then Err (endless major) else (argument_at info rest >>= step major info)) ≡ Err kind → IsWrong kind inside ((32 * major + info) ∷ rest)
split-wrong inside major info rest kind are known small e = elim (if-cases (info == 31) (Err (endless major)) (argument_at info rest >>= step major info) (Err kind) e) [
  | inl d ↦
      let i : 31 ≡ info = sym (eqb-true info 31 d.0) in
      let k : endless major ≡ kind = sym (kind-same {A = Head × List ℕ} (endless major) kind d.1) in
      subst (λ j. IsWrong kind inside ((32 * major + j) ∷ rest)) i (subst (λ y. IsWrong y inside ((32 * major + 31) ∷ rest)) k (endless-wrong inside major rest known))
  | inr d ↦
      let t : (info == 31) ≡ false = d.0 in
      let less : info < 31 = grind (arith, nat_tests) in
      elim (bind-fails (argument_at info rest) (step major info) kind d.1) [
        | inl a ↦ argument-wrong inside major info rest kind known less (argument-refused info rest kind are a)
        | inr w ↦ low-wrong inside major info w.value.0 rest w.value.1 kind are (kind-low major info w.value.0 kind (head-made (kind_of major info w.value.0) w.value.1 kind w.after)) w.before
      ]
]

no-head : (inside : ℕ) (kind : CborKind) → kind ≡ Truncated → IsWrong kind inside []
no-head inside kind e = subst (λ k. IsWrong k inside []) (sym e) (inl (record { major = 0; n = 0; more = 0 ∷ []; known = omega arith; head = record { form = Within; holds = omega arith; spelled = refl }; lacking = omega arith }))

pub head-wrong : (inside : ℕ) (bytes : List ℕ) (kind : CborKind) → AreBytes bytes → head_at bytes ≡ Err kind → IsWrong kind inside bytes
unfolding head_at
head-wrong inside [] kind are e = no-head inside kind (kind-same {A = Head × List ℕ} Truncated kind e)
head-wrong inside (first ∷ rest) kind are e =
    let low : first < 256 = are.each 0 in
    let is : 32 * (first / 32) + first % 32 ≡ first = omega arith in
    subst (λ x. IsWrong kind inside (x ∷ rest)) is (split-wrong inside (first / 32) (first % 32) rest kind (AreBytes-after (first ∷ []) rest are) (omega arith) (omega arith) e)

-- ---- items

abbrev read : {A : Type 0} → A → List ℕ → Result (A × List ℕ) Stop
read x rest = Ok (x, rest)

-- The bytes go well up to the place of the fault, and what stands there is wrong in that way.
pub record Found (all : List ℕ) (s : Stop) : Type 0 where
  pub before : List ℕ
  pub rest : List ℕ
  pub whole : all ≡ before ++ rest
  pub left : s.left ≡ length rest
  pub inside : ℕ
  pub due : Due inside before
  pub wrong : IsWrong s.kind inside rest

abbrev kind_in : Stop → CborKind
kind_in s = s.kind

abbrev left_in : Stop → ℕ
left_in s = s.left

-- a fault of the item's own head, string or count
pub record IsOwn (inside : ℕ) (bytes : List ℕ) (s : Stop) : Type 0 where
  pub left : s.left ≡ length bytes
  pub wrong : IsWrong s.kind inside bytes

own : {A : Type 0} (inside : ℕ) (kind : CborKind) (bytes : List ℕ) (s : Stop) → ◌≡◌ {A = Result A Stop} (stop kind (length bytes)) (Err s) → IsWrong kind inside bytes → IsOwn inside bytes s
own inside kind bytes s e w =
    let q : s ≡ record { kind = kind; left = length bytes } = cc in
    record { left = ap left_in q; wrong = subst (λ k. IsWrong k inside bytes) (sym (ap kind_in q)) w }

-- of the item that is due after some bytes
placed : (inside : ℕ) (before bytes : List ℕ) (s : Stop) → Due inside before → IsOwn inside bytes s → Found (before ++ bytes) s
placed inside before bytes s due o = record { before = before; rest = bytes; whole = refl; left = o.left; inside = inside; due = due; wrong = o.wrong }

abbrev Pieces : Type 0
Pieces = List ℕ × List ℕ

string-wrong : (major inside n : ℕ) (bytes front body : List ℕ) (s : Stop) → bytes ≡ front ++ body → IsHead major n front → IsString major → string_at (length bytes) n body ≡ Err s → IsOwn inside bytes s
string-wrong major inside n bytes front body s w is string e = elim (if-cases (nat_lt (length body) n) (stop {A = Pieces} Truncated (length bytes)) (if nat_lt n (2 ^ 32) then Ok (take n body, drop n body) else stop Length (length bytes)) (Err s) e) [
  | inl k ↦ own {A = Pieces} inside Truncated bytes s k.1 (inr (record { major = major; n = n; string = string; spelled = record { front = front; rest = body; first = is; second = ltb-true (length body) n k.0; whole = w } }))
  | inr k ↦ elim (if-cases (nat_lt n (2 ^ 32)) (Ok (take n body, drop n body)) (stop {A = Pieces} Length (length bytes)) (Err s) k.1) [
    | inl j ↦ absurd (cc)
    | inr j ↦ own {A = Pieces} inside Length bytes s j.1 (record { major = major; n = n; counts = inl string; large = ltb-false n (2 ^ 32) j.0; spelled = record { front = front; rest = body; first = is; second = tt; whole = w } })
  ]
]

pub bytes-wrong : (inside n : ℕ) (bytes front body : List ℕ) (s : Stop) → bytes ≡ front ++ body → IsHead 2 n front → (string_at (length bytes) n body >>= λ x. read (Bytes x.0) x.1) ≡ Err s → IsOwn inside bytes s
bytes-wrong inside n bytes front body s w is e = string-wrong 2 inside n bytes front body s w is (inl refl) (bind-err (string_at (length bytes) n body) (λ b. Bytes b) s e)

text-bad : (inside n : ℕ) (bytes front body b after : List ℕ) (s : Stop) → bytes ≡ front ++ body → IsHead 3 n front → string_at (length bytes) n body ≡ read b after → (if is_utf8 b then read b after else stop BadText (length bytes)) ≡ Err s → IsOwn inside bytes s
text-bad inside n bytes front body b after s w is r e = elim (if-cases (is_utf8 b) (read b after) (stop BadText (length bytes)) (Err s) e) [
  | inl k ↦ absurd (cc)
  | inr k ↦
      let t = string-sound (length bytes) n body b after r in
      let no : is_utf8 b ≡ false = k.0 in
      own {A = Pieces} inside BadText bytes s k.1 (record {
        text = b;
        spelled = record { front = front; rest = body; first = subst (λ m. IsHead 3 m front) (sym t.len) is; second = record { front = b; rest = after; first = refl; second = tt; whole = t.whole }; whole = w };
        bad = λ good. let yes = is_utf8-from_IsUtf8 b good in cc;
      })
]

abbrev checked : ℕ → Pieces → Result Pieces Stop
checked left x = if is_utf8 x.0 then Ok x else stop BadText left

pub text-wrong : (inside n : ℕ) (bytes front body : List ℕ) (s : Stop) → bytes ≡ front ++ body → IsHead 3 n front → (text_at (length bytes) n body >>= λ x. read (Text x.0) x.1) ≡ Err s → IsOwn inside bytes s
text-wrong inside n bytes front body s w is e = elim (bind-fails (string_at (length bytes) n body) (checked (length bytes)) s (bind-err (text_at (length bytes) n body) (λ b. Text b) s e)) [
  | inl k ↦ string-wrong 3 inside n bytes front body s w is (inr refl) k
  | inr k ↦ text-bad inside n bytes front body k.value.0 k.value.1 s w is k.before k.after
]

pub count-wrong : (major inside n : ℕ) (bytes front body : List ℕ) (s : Stop) → bytes ≡ front ++ body → IsHead major n front → (major ≡ 4) ⊎ (major ≡ 5) → nat_lt n (2 ^ 32) ≡ false → ◌≡◌ {A = Result (Tree × List ℕ) Stop} (stop Length (length bytes)) (Err s) → IsOwn inside bytes s
count-wrong major inside n bytes front body s w is counts f e = own {A = Tree × List ℕ} inside Length bytes s e (record { major = major; n = n; counts = inr counts; large = ltb-false n (2 ^ 32) f; spelled = record { front = front; rest = body; first = is; second = tt; whole = w } })

level-wrong : (major inside n : ℕ) (bytes front body : List ℕ) (s : Stop) → inside ≡ 32 → bytes ≡ front ++ body → IsHead major n front → (major ≡ 4) ⊎ (major ≡ 5) ⊎ (major ≡ 6) → ◌≡◌ {A = Result (Tree × List ℕ) Stop} (stop Deep (length bytes)) (Err s) → IsOwn inside bytes s
level-wrong major inside n bytes front body s full w is nests e = own {A = Tree × List ℕ} inside Deep bytes s e (record { major = major; n = n; nests = nests; full = full; spelled = record { front = front; rest = body; first = is; second = tt; whole = w } })

pub kind-wrong : (inside : ℕ) (bytes : List ℕ) (kind : CborKind) (s : Stop) → AreBytes bytes → head_at bytes ≡ Err kind → ◌≡◌ {A = Result (Tree × List ℕ) Stop} (stop kind (length bytes)) (Err s) → IsOwn inside bytes s
kind-wrong inside bytes kind s are h e = own {A = Tree × List ℕ} inside kind bytes s e (head-wrong inside bytes kind are h)

-- with no level left each fault is an own one
flat-wrong : (inside : ℕ) (bytes front body : List ℕ) (h : Head) (s : Stop) → inside ≡ 32 → bytes ≡ front ++ body → HeadOf h front → behind None (length bytes) h body ≡ Err s → IsOwn inside bytes s
flat-wrong inside bytes front body (heads.Unsigned n) s full w is e = absurd (cc)
flat-wrong inside bytes front body (heads.Negative n) s full w is e = absurd (cc)
flat-wrong inside bytes front body (heads.Bytes n) s full w is e = bytes-wrong inside n bytes front body s w is e
flat-wrong inside bytes front body (heads.Text n) s full w is e = text-wrong inside n bytes front body s w is e
flat-wrong inside bytes front body (heads.Array n) s full w is e = elim (if-cases (nat_lt n (2 ^ 32)) (stop Deep (length bytes)) (stop Length (length bytes)) (Err s) e) [
  | inl k ↦ level-wrong 4 inside n bytes front body s full w is (inl refl) k.1
  | inr k ↦ count-wrong 4 inside n bytes front body s w is (inl refl) k.0 k.1
]
flat-wrong inside bytes front body (heads.Map n) s full w is e = elim (if-cases (nat_lt n (2 ^ 32)) (stop Deep (length bytes)) (stop Length (length bytes)) (Err s) e) [
  | inl k ↦ level-wrong 5 inside n bytes front body s full w is (inr (inl refl)) k.1
  | inr k ↦ count-wrong 5 inside n bytes front body s w is (inr refl) k.0 k.1
]
flat-wrong inside bytes front body (heads.Tag n) s full w is e = level-wrong 6 inside n bytes front body s full w is (inr (inr refl)) e
flat-wrong inside bytes front body (heads.Simple n) s full w is e = absurd (cc)
flat-wrong inside bytes front body (heads.Float width n) s full w is e = absurd (cc)

flat-head : (inside : ℕ) (bytes : List ℕ) (s : Stop) (r : Result (Head × List ℕ) CborKind) → inside ≡ 32 → AreBytes bytes → head_at bytes ≡ r → behind_head None (length bytes) r ≡ Err s → IsOwn inside bytes s
flat-head inside bytes s (Ok x) full are r e = let h = head-sound bytes x.1 x.0 are r in flat-wrong inside bytes h.front x.1 x.0 s full h.whole h.head_of e
flat-head inside bytes s (Err kind) full are r e = kind-wrong inside bytes kind s are r e

pub flat-own : (inside : ℕ) (bytes : List ℕ) (s : Stop) → inside ≡ 32 → AreBytes bytes → item_at 0 bytes ≡ Err s → IsOwn inside bytes s
flat-own inside bytes s full are e = flat-head inside bytes s (head_at bytes) full are refl (sym (item-flat bytes) ∙ e)

-- ---- parts that run into a fault

-- whole items, fewer than that, and then one that isn't
record Fails (d : ℕ) (bytes : List ℕ) (s : Stop) (bound : ℕ) : Type 0 where
  there : Trees
  front : List ℕ
  rest : List ℕ
  spelled : AllSpelled there front
  nesting : levels_of_all there ≤ d
  fewer : count there < bound
  whole : bytes ≡ front ++ rest
  are : AreBytes rest
  fault : item_at d rest ≡ Err s

fails-first : (d bound : ℕ) (bytes : List ℕ) (s : Stop) → AreBytes bytes → item_at d bytes ≡ Err s → 0 < bound → Fails d bytes s bound
fails-first d bound bytes s are e h = record { there = none; front = []; rest = bytes; spelled = refl; nesting = omega arith; fewer = h; whole = refl; are = are; fault = e }

fails-later : (d bound : ℕ) (bytes mid : List ℕ) (t : Tree) (s : Stop) → AreBytes bytes → item_at d bytes ≡ read t mid → Fails d mid s bound → Fails d bytes s (suc bound)
fails-later d bound bytes mid t s are i f =
    let r = (item-sound d).each bytes mid t are i in
    record {
      there = more t f.there;
      front = r.front ++ f.front;
      rest = f.rest;
      spelled = record { front = r.front; rest = f.front; first = r.spelled; second = f.spelled; whole = refl };
      nesting = max-le r.nesting f.nesting;
      fewer = let l = f.fewer in omega arith;
      whole = joined bytes r.front mid f.front f.rest r.whole f.whole;
      are = f.are;
      fault = f.fault;
    }

fails-widened : (d a b : ℕ) (bytes : List ℕ) (s : Stop) → a ≤ b → Fails d bytes s a → Fails d bytes s b
fails-widened d a b bytes s h f = record { there = f.there; front = f.front; rest = f.rest; spelled = f.spelled; nesting = f.nesting; fewer = let l = f.fewer in omega arith; whole = f.whole; are = f.are; fault = f.fault }

pub mid-bytes : (d : ℕ) (bytes mid : List ℕ) (t : Tree) → AreBytes bytes → item_at d bytes ≡ read t mid → AreBytes mid
mid-bytes d bytes mid t are i = let r = (item-sound d).each bytes mid t are i in bytes-after bytes r.front mid r.whole are

abbrev pub then_items : ℕ → ℕ → Tree × List ℕ → Result (Trees × List ℕ) Stop
then_items d n t = items_at (item_at d) n t.1 >>= λ ts. read (more t.0 ts.0) ts.1

items-fail : (d n : ℕ) (bytes : List ℕ) (s : Stop) → AreBytes bytes → items_at (item_at d) n bytes ≡ Err s → Fails d bytes s n
unfolding items_at
items-fail d zero bytes s are e = absurd (cc)
items-fail d (suc n) bytes s are e = elim (bind-fails (item_at d bytes) (then_items d n) s e) [
  | inl k ↦ fails-first d (suc n) bytes s are k (omega arith)
  | inr k ↦ fails-later d n bytes k.value.1 k.value.0 s are k.before (items-fail d n k.value.1 s (mid-bytes d bytes k.value.1 k.value.0 are k.before) (bind-err (items_at (item_at d) n k.value.1) (λ ts. more k.value.0 ts) s k.after))
]

abbrev pub then_value : ℕ → ℕ → Tree → Tree × List ℕ → Result (Pairs × List ℕ) Stop
then_value d n k v = pairs_at (item_at d) n v.1 >>= λ ps. read (pair k v.0 ps.0) ps.1

abbrev pub then_pairs : ℕ → ℕ → Tree × List ℕ → Result (Pairs × List ℕ) Stop
then_pairs d n k = item_at d k.1 >>= then_value d n k.0

pairs-fail : (d n : ℕ) (bytes : List ℕ) (s : Stop) → AreBytes bytes → pairs_at (item_at d) n bytes ≡ Err s → Fails d bytes s (2 * n)
unfolding pairs_at
pairs-fail d zero bytes s are e = absurd (cc)
pairs-fail d (suc n) bytes s are e = elim (bind-fails (item_at d bytes) (then_pairs d n) s e) [
  | inl k ↦ fails-first d (2 * suc n) bytes s are k (omega arith)
  | inr k ↦
      let mid = mid-bytes d bytes k.value.1 k.value.0 are k.before in
      elim (bind-fails (item_at d k.value.1) (then_value d n k.value.0) s k.after) [
        | inl v ↦ fails-widened d 2 (2 * suc n) bytes s (omega arith) (fails-later d 1 bytes k.value.1 k.value.0 s are k.before (fails-first d 1 k.value.1 s mid v (omega arith)))
        | inr v ↦
            let after = mid-bytes d k.value.1 v.value.1 v.value.0 mid v.before in
            let f = pairs-fail d n v.value.1 s after (bind-err (pairs_at (item_at d) n v.value.1) (λ ps. pair k.value.0 v.value.0 ps) s v.after) in
            fails-widened d (suc (suc (2 * n))) (2 * suc n) bytes s (omega arith) (fails-later d (suc (2 * n)) bytes k.value.1 k.value.0 s are k.before (fails-later d (2 * n) k.value.1 v.value.1 v.value.0 s mid v.before f))
      ]
]

-- ---- all levels

record Finds (d : ℕ) : Type 0 where
  each : (inside : ℕ) (before bytes : List ℕ) (s : Stop) → inside + d ≡ 32 → Due inside before → AreBytes bytes → item_at d bytes ≡ Err s → Found (before ++ bytes) s

nested : (d : ℕ) → Finds d → (inside n : ℕ) (before bytes front body : List ℕ) (s : Stop) → inside + suc d ≡ 32 → Due inside before → bytes ≡ front ++ body → Announces n front → Fails d body s n → Found (before ++ bytes) s
nested d finds inside n before bytes front body s k due w a f =
    let whole : bytes ≡ (front ++ f.front) ++ f.rest = joined bytes front body f.front f.rest w f.whole in
    let all : before ++ bytes ≡ (before ++ (front ++ f.front)) ++ f.rest = joined (before ++ bytes) before bytes (front ++ f.front) f.rest refl whole in
    let begun : Begun inside (front ++ f.front) = record {
      announced = n;
      there = f.there;
      spelled = record { front = front; rest = f.front; first = a; second = f.spelled; whole = refl };
      fewer = f.fewer;
      nesting = let l = f.nesting in omega arith;
    } in
    let deeper : Due (suc inside) (before ++ (front ++ f.front)) = record { front = before; rest = front ++ f.front; first = due; second = begun; whole = refl } in
    subst (λ x. Found x s) (sym all) (finds.each (suc inside) (before ++ (front ++ f.front)) f.rest s (omega arith) deeper f.are f.fault)

deep-found : (d : ℕ) → Finds d → (inside : ℕ) (before bytes front body : List ℕ) (h : Head) (s : Stop) → inside + suc d ≡ 32 → Due inside before → AreBytes body → bytes ≡ front ++ body → HeadOf h front → behind (Some (item_at d)) (length bytes) h body ≡ Err s → Found (before ++ bytes) s
deep-found d finds inside before bytes front body (heads.Unsigned n) s room due are w is e = absurd (cc)
deep-found d finds inside before bytes front body (heads.Negative n) s room due are w is e = absurd (cc)
deep-found d finds inside before bytes front body (heads.Bytes n) s room due are w is e = placed inside before bytes s due (bytes-wrong inside n bytes front body s w is e)
deep-found d finds inside before bytes front body (heads.Text n) s room due are w is e = placed inside before bytes s due (text-wrong inside n bytes front body s w is e)
deep-found d finds inside before bytes front body (heads.Array n) s room due are w is e = elim (if-cases (nat_lt n (2 ^ 32)) (items_at (item_at d) n body >>= λ ts. read (Array ts.0) ts.1) (stop Length (length bytes)) (Err s) e) [
  | inl k ↦ nested d finds inside n before bytes front body s room due w (items (ltb-true n (2 ^ 32) k.0) is) (items-fail d n body s are (bind-err (items_at (item_at d) n body) (λ ts. Array ts) s k.1))
  | inr k ↦ placed inside before bytes s due (count-wrong 4 inside n bytes front body s w is (inl refl) k.0 k.1)
]
deep-found d finds inside before bytes front body (heads.Map n) s room due are w is e = elim (if-cases (nat_lt n (2 ^ 32)) (pairs_at (item_at d) n body >>= λ ps. read (Map ps.0) ps.1) (stop Length (length bytes)) (Err s) e) [
  | inl k ↦ nested d finds inside (2 * n) before bytes front body s room due w (pairs n (ltb-true n (2 ^ 32) k.0) refl is) (pairs-fail d n body s are (bind-err (pairs_at (item_at d) n body) (λ ps. Map ps) s k.1))
  | inr k ↦ placed inside before bytes s due (count-wrong 5 inside n bytes front body s w is (inr refl) k.0 k.1)
]
deep-found d finds inside before bytes front body (heads.Tag n) s room due are w is e = nested d finds inside 1 before bytes front body s room due w (tagged n refl is) (fails-first d 1 body s are (bind-err (item_at d body) (λ t. Tag n t) s e) (omega arith))
deep-found d finds inside before bytes front body (heads.Simple n) s room due are w is e = absurd (cc)
deep-found d finds inside before bytes front body (heads.Float width n) s room due are w is e = absurd (cc)

deep-head : (d : ℕ) → Finds d → (inside : ℕ) (before bytes : List ℕ) (s : Stop) (r : Result (Head × List ℕ) CborKind) → inside + suc d ≡ 32 → Due inside before → AreBytes bytes → head_at bytes ≡ r → behind_head (Some (item_at d)) (length bytes) r ≡ Err s → Found (before ++ bytes) s
deep-head d finds inside before bytes s (Ok x) room due are r e = let h = head-sound bytes x.1 x.0 are r in deep-found d finds inside before bytes h.front x.1 x.0 s room due (bytes-after bytes h.front x.1 h.whole are) h.whole h.head_of e
deep-head d finds inside before bytes s (Err kind) room due are r e = placed inside before bytes s due (kind-wrong inside bytes kind s are r e)

finds : (d : ℕ) → Finds d
finds zero = record { each = λ inside before bytes s room due are e. placed inside before bytes s due (flat-own inside bytes s (omega arith) are e) }
finds (suc d) = record { each = λ inside before bytes s room due are e. deep-head d (finds d) inside before bytes s (head_at bytes) room due are refl (sym (item-deep d bytes) ∙ e) }

pub item-found : (bytes : List ℕ) (s : Stop) → AreBytes bytes → item_at 32 bytes ≡ Err s → Found bytes s
item-found bytes s are e = (finds 32).each 0 [] bytes s refl refl are e
