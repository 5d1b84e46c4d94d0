-- The 32 bytes that are read of a number are those that give it.
use Rattle.std.proofs.Common.{◌≡◌, ℕ, zero, suc, ◌+◌, ◌*◌, ◌-◌, ◌^◌, ◌<◌, ◌≤◌, ◌==◌, refl, sym, ap, ◌∙◌, subst, arith, inl, inr, Bool, true, false, if◌then◌else◌, List, [], ◌∷◌, ◌++◌, length, replicate, Option, Some, None, nat_lt, nat_le, mul-le-mul_right, pow-suc, get_or}
use Rattle.std.proofs.lemmas.Bool.{eqb-true, eqb-false, ltb-true, ltb-false, cases_order}
use Rattle.std.proofs.lemmas.Bool.Decides.{nat_tests}
use Rattle.std.proofs.Math.Nat.{pow-le-pow_right}
use Rattle.der_view.proofs.Lengths.{AreBytes, bytes-behind}
use Rattle.cert_view.specs.Integers.{after_zero, digits, in_32, number_of, worth}
use Rattle.cert_view.proofs.NumberWorth.{number-worth, number-length}
use Rattle.certificate_laws.specs.Numbers.{IsShortest, IsNumber}
use Rattle.certificate_laws.proofs.Steps.{chosen}

abbrev present : List ℕ → Option (List ℕ)
present x = Some x

same-value : (x y : List ℕ) → present x ≡ present y → x ≡ y
same-value x y e = cc

-- ---- bytes in a row

byte-first : (b : ℕ) (bytes : List ℕ) → AreBytes (b ∷ bytes) → b < 256
byte-first b bytes are = are.each 0

bytes-rest : (b : ℕ) (bytes : List ℕ) → AreBytes (b ∷ bytes) → AreBytes bytes
bytes-rest b bytes are = bytes-behind (b ∷ []) bytes are

bytes-more : (b : ℕ) (bytes : List ℕ) → b < 256 → AreBytes bytes → AreBytes (b ∷ bytes)
bytes-more b bytes low are = record { each = go } where
  go : (i : ℕ) → get_or (b ∷ bytes) i 0 < 256
  go zero = low
  go (suc i) = are.each i

padded-bytes : (count : ℕ) (bytes : List ℕ) → AreBytes bytes → AreBytes (replicate count 0 ++ bytes)
padded-bytes zero bytes are = are
padded-bytes (suc count) bytes are = bytes-more 0 (replicate count 0 ++ bytes) (omega arith) (padded-bytes count bytes are)

-- ---- what digits are worth

below : (b w size : ℕ) → b < 256 → w < size → b * size + w < size * 256
below b w size low less =
    let most : b * size ≤ 255 * size = mul-le-mul_right size (omega arith) in
    omega (arith, most)

worth-below : (bytes : List ℕ) → AreBytes bytes → worth bytes < 256 ^ length bytes
worth-below [] are = omega arith
worth-below (b ∷ bytes) are =
    subst (λ (n : ℕ). worth (b ∷ bytes) < n) (sym (pow-suc 256 (length bytes)))
    (below b (worth bytes) (256 ^ length bytes) (byte-first b bytes are) (worth-below bytes (bytes-rest b bytes are)))

not-less : (x y a b size : ℕ) → a < size → x < y → x * size + a ≡ y * size + b → ⊥
not-less x y a b size less lower same =
    let most : (x + 1) * size ≤ y * size = mul-le-mul_right size (omega arith) in
    absurd (omega (arith, most, same))

same-digit : (x y a b size : ℕ) → a < size → b < size → x * size + a ≡ y * size + b → x ≡ y
same-digit x y a b size less other same = elim (cases_order x y) [
  | inl e ↦ e
  | inr (inl lower) ↦ absurd (not-less x y a b size less lower same)
  | inr (inr higher) ↦ absurd (not-less y x b a size other higher (sym same))
]

same-rest : (x y a b size : ℕ) → x ≡ y → x * size + a ≡ y * size + b → a ≡ b
same-rest x y a b size e same = let own : x * size ≡ y * size = ap (λ (n : ℕ). n * size) e in omega (arith, own, same)

-- bytes of one length that are worth the same are the same
same-worth : (xs ys : List ℕ) → AreBytes xs → AreBytes ys → length xs ≡ length ys → worth xs ≡ worth ys → xs ≡ ys
same-worth [] [] are own size same = refl
same-worth [] (y ∷ ys) are own size same = absurd (omega arith)
same-worth (x ∷ xs) [] are own size same = absurd (omega arith)
same-worth (x ∷ xs) (y ∷ ys) are own size same =
    let rests : length xs ≡ length ys = omega (arith, size) in
    let scale = 256 ^ length ys in
    let first_less = worth-below xs (bytes-rest x xs are) in
    let less : worth xs < scale = subst (λ (n : ℕ). worth xs < 256 ^ n) rests first_less in
    let other = worth-below ys (bytes-rest y ys own) in
    let scaled : x * scale + worth xs ≡ y * scale + worth ys = ap (λ (n : ℕ). x * 256 ^ n + worth xs) (sym rests) ∙ same in
    let heads = same-digit x y (worth xs) (worth ys) scale less other scaled in
    let tails = same-worth xs ys (bytes-rest x xs are) (bytes-rest y ys own) rests (same-rest x y (worth xs) (worth ys) scale heads scaled) in
    ap (λ (n : ℕ). n ∷ xs) heads ∙ ap (λ (bs : List ℕ). y ∷ bs) tails

-- ---- the digits of a body

-- digits without a 0 in front
abbrev IsLead : List ℕ → Type 0
IsLead [] = Unit {0}
IsLead (b ∷ bytes) = 1 ≤ b

record IsDigits (body found : List ℕ) : Type 0 where
  read : digits body ≡ Some found
  lead : IsLead found
  are : AreBytes found
  same : worth found ≡ worth body

shortest-digits : (body : List ℕ) → AreBytes body → IsShortest body → (found : List ℕ) × IsDigits body found
shortest-digits [] are is = absurd is
shortest-digits (b ∷ []) are is = go (b == 0) refl where
  go : (none : Bool) → (b == 0) ≡ none → (found : List ℕ) × IsDigits (b ∷ []) found
  go true none =
      let no : b ≡ 0 = eqb-true b 0 none in
      ([], record { read = rw none refl; lead = tt; are = bytes-rest b [] are; same = ap (λ (n : ℕ). worth (n ∷ [])) (sym no) })
  go false some_one =
      let low : nat_lt b 0x80 ≡ true = grind (arith, nat_tests) in
      let not_zero = eqb-false b 0 some_one in
      (b ∷ [], record { read = rw (some_one, low) refl; lead = omega (arith, not_zero); are = are; same = refl })
shortest-digits (b ∷ (c ∷ bytes)) are is = go (b == 0) refl where
  go : (none : Bool) → (b == 0) ≡ none → (found : List ℕ) × IsDigits (b ∷ (c ∷ bytes)) found
  go true none =
      let no : b ≡ 0 = eqb-true b 0 none in
      let high : 0x80 ≤ c = is.1 no in
      let test : nat_lt c 0x80 ≡ false = grind (arith, nat_tests) in
      let zero_worth : worth (b ∷ (c ∷ bytes)) ≡ worth (c ∷ bytes) = ap (λ (n : ℕ). worth (n ∷ (c ∷ bytes))) no ∙ omega arith in
      (c ∷ bytes, record { read = rw (none, test) refl; lead = omega arith; are = bytes-rest b (c ∷ bytes) are; same = sym zero_worth })
  go false some_one =
      let first : b < 0x80 = is.0 in
      let low : nat_lt b 0x80 ≡ true = grind (arith, nat_tests) in
      let not_zero = eqb-false b 0 some_one in
      (b ∷ (c ∷ bytes), record { read = rw (some_one, low) refl; lead = omega (arith, not_zero); are = are; same = refl })

digits-shortest : (body found : List ℕ) → digits body ≡ Some found → IsShortest body
digits-shortest [] found e = absurd (cc)
digits-shortest (b ∷ []) found e = go (b == 0) refl (nat_lt b 0x80) refl e where
  go : (none : Bool) → (b == 0) ≡ none → (low : Bool) → nat_lt b 0x80 ≡ low → (if none then Some [] else if low then Some (b ∷ []) else None) ≡ Some found → b < 0x80
  go true none low is same = (let no : b ≡ 0 = eqb-true b 0 none in omega arith)
  go false none true is same = ltb-true b 0x80 is
  go false none false is same = absurd (cc)
digits-shortest (b ∷ (c ∷ bytes)) found e = go (b == 0) refl (nat_lt b 0x80) refl (nat_lt c 0x80) refl e where
  go : (none : Bool) → (b == 0) ≡ none → (low : Bool) → nat_lt b 0x80 ≡ low → (next : Bool) → nat_lt c 0x80 ≡ next →
      (if none then (if next then None else Some (c ∷ bytes)) else if low then Some (b ∷ (c ∷ bytes)) else None) ≡ Some found → (b < 0x80) × (b ≡ 0 → 0x80 ≤ c)
  go true none low is true next same = absurd (cc)
  go true none low is false next same = (let no : b ≡ 0 = eqb-true b 0 none in (omega arith, λ zero_one. ltb-false c 0x80 next))
  go false none true is next after same = (ltb-true b 0x80 is, λ zero_one. absurd (eqb-false b 0 none zero_one))
  go false none false is next after same = absurd (cc)

digits-bytes : (body found : List ℕ) → AreBytes body → digits body ≡ Some found → AreBytes found
digits-bytes [] found are e = absurd (cc)
digits-bytes (b ∷ bytes) found are e = go (b == 0) (nat_lt b 0x80) e where
  behind : (rest : List ℕ) → AreBytes rest → after_zero rest ≡ Some found → AreBytes found
  behind [] own same = subst AreBytes (same-value [] found same) own
  behind (c ∷ rest) own same = by (nat_lt c 0x80) same where
    by : (next : Bool) → (if next then None else Some (c ∷ rest)) ≡ Some found → AreBytes found
    by true is = absurd (cc)
    by false is = subst AreBytes (same-value (c ∷ rest) found is) own

  go : (none low : Bool) → (if none then after_zero bytes else if low then Some (b ∷ bytes) else None) ≡ Some found → AreBytes found
  go true low same = behind bytes (bytes-rest b bytes are) same
  go false true same = subst AreBytes (same-value (b ∷ bytes) found same) are
  go false false same = absurd (cc)

-- ---- 32 bytes

abbrev padded : List ℕ → List ℕ
padded bytes = replicate (32 - length bytes) 0 ++ bytes

in-32-is : (found bytes : List ℕ) → in_32 found ≡ Some bytes → padded found ≡ bytes
in-32-is found bytes e = go (nat_le (length found) 32) e where
  go : (few : Bool) → (if few then Some (padded found) else None) ≡ Some bytes → padded found ≡ bytes
  go true same = same-value (padded found) bytes same
  go false same = absurd (cc)

pub number-sound : (body bytes : List ℕ) → AreBytes body → number_of body ≡ Some bytes → IsNumber body bytes
unfolding number_of
number-sound body bytes are e =
    let a = chosen (digits body) in_32 bytes e in
    let own : AreBytes bytes = subst AreBytes (in-32-is a.value bytes a.after) (padded-bytes (32 - length a.value) a.value (digits-bytes body a.value are a.before)) in
    record {
      shortest = digits-shortest body a.value a.before;
      size = number-length body bytes e;
      are = own.each;
      same = number-worth body bytes e;
    }

-- digits of a number below 256 ^ 32 are 32 at most
lead-short : (found : List ℕ) → IsLead found → worth found < 256 ^ 32 → length found ≤ 32
lead-short [] lead less = omega arith
lead-short (b ∷ bytes) lead less = go (nat_lt (length bytes) 32) refl where
  go : (few : Bool) → nat_lt (length bytes) 32 ≡ few → suc (length bytes) ≤ 32
  go true is = (let l = ltb-true (length bytes) 32 is in omega arith)
  go false is =
      let many : 32 ≤ length bytes = ltb-false (length bytes) 32 is in
      let grown : 256 ^ 32 ≤ 256 ^ length bytes = pow-le-pow_right {n = 256} (omega arith) many in
      let one : 1 * 256 ^ length bytes ≤ b * 256 ^ length bytes = mul-le-mul_right (256 ^ length bytes) lead in
      absurd (omega (arith, grown, one, less))

pub number-complete : (body bytes : List ℕ) → AreBytes body → IsNumber body bytes → number_of body ≡ Some bytes
unfolding number_of
number-complete body bytes are is =
    let d = shortest-digits body are is.shortest in
    let own : AreBytes bytes = record { each = is.are } in
    let below_all : worth bytes < 256 ^ 32 = subst (λ (n : ℕ). worth bytes < 256 ^ n) is.size (worth-below bytes own) in
    let short : length d.0 ≤ 32 = lead-short d.0 d.1.lead (subst (λ (n : ℕ). n < 256 ^ 32) (is.same ∙ sym d.1.same) below_all) in
    let few : nat_le (length d.0) 32 ≡ true = grind (arith, nat_tests) in
    let read : in_32 d.0 ≡ Some (padded d.0) = rw few refl in
    let whole : number_of body ≡ Some (padded d.0) = rw d.1.read read in
    let n = number-sound body (padded d.0) are whole in
    let same : padded d.0 ≡ bytes = same-worth (padded d.0) bytes (record { each = n.are }) own (n.size ∙ sym is.size) (n.same ∙ sym is.same) in
    whole ∙ ap (λ (x : List ℕ). Some x) same
