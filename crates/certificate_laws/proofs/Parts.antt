-- The version, algorithms, times, the key and the signature, as they are read and as they are.
use Rattle.std.proofs.Common.{◌≡◌, ℕ, ◌+◌, ◌==◌, ◌&&◌, refl, sym, ap, ◌∙◌, subst, arith, Bool, true, false, if◌then◌else◌, ℤ, List, [], ◌∷◌, ◌++◌, length, take, drop, length-drop, length-take-le, take-append-drop, Option, Some, Result, Ok, Err, bytes_eq, ◌<◌, ◌^◌}
use Rattle.std.specs.List.{AllByRecursion}
use Rattle.std.proofs.lemmas.Bool.{and_parts, eqb-true}
use Rattle.std.proofs.Math.Seq.{take-append_seam, drop-append_seam}
use Rattle.std.proofs.lemmas.Bool.Decides.{nat_tests}
use Rattle.std.proofs.lemmas.List.{length-append}
use Rattle.mdoc_outside.specs.ResultSteps.{◌>>=◌, or_fault}
use Rattle.mdoc_outside.specs.OptionSteps.{◌>>=◌ as ◌>>?◌}
use Rattle.der_view.specs.Element.{element, IsTag, IsElement}
use Rattle.der_view.specs.declared.der_fault.DerFault.{DerFault}
use Rattle.der_view.specs.Parts.{Part, body_part, der, parts_of}
use Rattle.der_view.specs.Reading.{body_of}
use Rattle.der_view.proofs.Lengths.{AreBytes, bytes-behind}
use Rattle.key_device.specs.declared.point.Point.{Point}
use Rattle.cert_view.specs.declared.cert_check.CertCheck.TheVariants.{Shape, VersionNot3, Algorithm, Time, KeyKind, Signature}
use Rattle.cert_view.specs.declared.cert_fault.CertFault.{CertFault}
use Rattle.cert_view.specs.Certificate as certificates
use Rattle.cert_view.specs.Faults.{fault, both}
use Rattle.cert_view.specs.Integers.{number_of}
use Rattle.cert_view.specs.Keys.{point_of}
use Rattle.cert_view.specs.Shapes.{has_tag, tagged, all_read, of_shape, one, two}
use Rattle.cert_view.specs.Signatures as pairs
use Rattle.cert_view.specs.Tbs as tbs
use Rattle.cert_view.specs.Tbs.{ecdsa_with_sha256, ec_public_key, secp256r1, one_or_two}
use Rattle.cert_view.specs.Times.{utc_time, generalized_time}
use Rattle.cert_view.specs.Written.{concatenated}
use Rattle.cert_view.proofs.WrittenParts.{place, placed, after_head, body-is, der-is, has-tag, tagged-is, parts-in}
use Rattle.certificate_laws.specs.IsCertificate.{IsEcdsaWithSha256, IsTime, utc, general, IsValidity, IsPublicKeyInfo, IsSignatureValue}
use Rattle.certificate_laws.specs.MadeOf.{IsSomeElement, IsMadeOf}
use Rattle.certificate_laws.specs.Numbers.{IsNumber}
use Rattle.certificate_laws.proofs.Counts.{one-is, two-is, one_or_two-is, is-one_or_two}
use Rattle.certificate_laws.proofs.Made.{IsRead, tag-of, body-of, with-tag, tag-sound, body-bytes, der-sound, all-sound, parts-each, shape-sound, elems, shape-complete}
use Rattle.certificate_laws.proofs.Numbers.{number-sound, number-complete}
use Rattle.certificate_laws.proofs.Steps.{stepped, chosen, or_fault-ok, both-ok, if-ok, if-some, bytes-same}

-- ---- an element with a known body

known : (bytes : List ℕ) (tag : ℕ) (body : List ℕ) → IsElement bytes tag (body_of bytes) → body_of bytes ≡ body → bytes ≡ element tag body
known bytes tag body is same = is.spelled ∙ ap (element tag) same

-- ---- the version

abbrev is_3 : Part → Result (Unit {0}) CertFault
is_3 number = if bytes_eq (body_of number.bytes) (2 ∷ []) then Ok tt else Err (fault VersionNot3 number.at)

pub version-sound : (p : Part) → IsRead p.bytes → tbs.version p ≡ Ok tt → IsMadeOf 0xa0 (element 0x02 (2 ∷ []) ∷ []) p.bytes
version-sound p read e =
    let a = stepped (of_shape one 0xa0 p) (λ (inner : Part). tagged 0x02 inner >>= is_3) tt e in
    let m = shape-sound one 0xa0 p a.value read a.before in
    let w = one-is m.at m.parts a.value m.is in
    let each = subst (AllByRecursion IsRead) w m.each in
    let b = stepped (tagged 0x02 a.value) is_3 tt a.after in
    let t = tag-sound 0x02 a.value b.value each.0.is b.before in
    let three : Result (Unit {0}) CertFault = Ok tt in
    let c = if-ok (bytes_eq (body_of b.value.bytes) (2 ∷ [])) three (fault VersionNot3 b.value.at) tt b.after in
    let body : body_of a.value.bytes ≡ 2 ∷ [] = ap (λ (q : Part). body_of q.bytes) t.same ∙ bytes-same (body_of b.value.bytes) (2 ∷ []) c.0 in
    let inner : a.value.bytes ≡ element 0x02 (2 ∷ []) = known a.value.bytes 0x02 (2 ∷ []) t.is body in
    subst (λ (parts : List (List ℕ)). IsMadeOf 0xa0 parts p.bytes) (w ∙ ap (λ (x : List ℕ). x ∷ []) inner) m.whole

integer-tag : IsTag 0x02
integer-tag = (omega arith, omega arith)

pub version-complete : (at : ℕ) (bytes : List ℕ) → IsMadeOf 0xa0 (element 0x02 (2 ∷ []) ∷ []) bytes → tbs.version (place at bytes) ≡ Ok tt
version-complete at bytes whole =
    rw (shape-complete one 0xa0 at (element 0x02 (2 ∷ []) ∷ []) bytes whole)
    (rw (tagged-is (after_head at 0xa0 (concatenated (element 0x02 (2 ∷ []) ∷ []))) 0x02 (2 ∷ []) integer-tag)
    (rw (body-is 0x02 (2 ∷ []) integer-tag) refl))

-- ---- an algorithm

abbrev is_ecdsa : ℕ → Part → Result (Unit {0}) CertFault
is_ecdsa at name = if bytes_eq (body_of name.bytes) ecdsa_with_sha256 then Ok tt else Err (fault Algorithm at)

pub algorithm-sound : (p : Part) → IsRead p.bytes → tbs.algorithm p ≡ Ok tt → IsEcdsaWithSha256 p.bytes
algorithm-sound p read e =
    let a = stepped (of_shape one_or_two 0x30 p) (λ (first : Part). tagged 0x06 first >>= is_ecdsa p.at) tt e in
    let m = shape-sound one_or_two 0x30 p a.value read a.before in
    let w = one_or_two-is m.at m.parts a.value m.is in
    let each = subst (AllByRecursion IsRead) w.are m.each in
    let b = stepped (tagged 0x06 a.value) (is_ecdsa p.at) tt a.after in
    let t = tag-sound 0x06 a.value b.value each.0.is b.before in
    let known_one : Result (Unit {0}) CertFault = Ok tt in
    let c = if-ok (bytes_eq (body_of b.value.bytes) ecdsa_with_sha256) known_one (fault Algorithm p.at) tt b.after in
    let body : body_of a.value.bytes ≡ ecdsa_with_sha256 = ap (λ (q : Part). body_of q.bytes) t.same ∙ bytes-same (body_of b.value.bytes) ecdsa_with_sha256 c.0 in
    let first : a.value.bytes ≡ element 0x06 ecdsa_with_sha256 = known a.value.bytes 0x06 ecdsa_with_sha256 t.is body in
    record {
      parameters = w.others;
      optional = w.optional;
      whole = subst (λ (parts : List (List ℕ)). IsMadeOf 0x30 parts p.bytes) (w.are ∙ ap (λ (x : List ℕ). x ∷ w.others) first) m.whole;
    }

identifier-tag : IsTag 0x06
identifier-tag = (omega arith, omega arith)

pub algorithm-complete : (at : ℕ) (bytes : List ℕ) → IsEcdsaWithSha256 bytes → tbs.algorithm (place at bytes) ≡ Ok tt
algorithm-complete at bytes is =
    let parts : List (List ℕ) = element 0x06 ecdsa_with_sha256 ∷ is.parameters in
    rw (shape-complete one_or_two 0x30 at parts bytes is.whole)
    (rw (is-one_or_two (after_head at 0x30 (concatenated parts)) (element 0x06 ecdsa_with_sha256) is.parameters is.optional)
    (rw (tagged-is (after_head at 0x30 (concatenated parts)) 0x06 ecdsa_with_sha256 identifier-tag)
    (rw (body-is 0x06 ecdsa_with_sha256 identifier-tag) refl)))

-- ---- times

time-sound : (p : Part) (moment : ℤ) → IsSomeElement p.bytes → tbs.time p ≡ Ok moment → IsTime p.bytes moment
time-sound p moment is e = go (has_tag 0x17 p) (has_tag 0x18 p) refl refl e where
  go : (a b : Bool) → has_tag 0x17 p ≡ a → has_tag 0x18 p ≡ b →
      (if a then or_fault (fault Time p.at) (utc_time (body_of p.bytes)) else if b then or_fault (fault Time p.at) (generalized_time (body_of p.bytes)) else Err (fault Shape p.at)) ≡ Ok moment → IsTime p.bytes moment
  go true b first second same = utc (body_of p.bytes) (with-tag 0x17 p.bytes is first) (or_fault-ok (fault Time p.at) (utc_time (body_of p.bytes)) moment same)
  go false true first second same = general (body_of p.bytes) (with-tag 0x18 p.bytes is second) (or_fault-ok (fault Time p.at) (generalized_time (body_of p.bytes)) moment same)
  go false false first second same = absurd (cc)

time-complete : (at : ℕ) (bytes : List ℕ) (moment : ℤ) → IsTime bytes moment → tbs.time (place at bytes) ≡ Ok moment
time-complete at bytes moment (utc text is says) = rw (tag-of bytes 0x17 text is) (rw (body-of bytes 0x17 text is) (rw says refl))
time-complete at bytes moment (general text is says) = rw (tag-of bytes 0x18 text is) (rw (body-of bytes 0x18 text is) (rw says refl))

pub validity-sound : (p : Part) (times : ℤ × ℤ) → IsRead p.bytes → tbs.validity p ≡ Ok times → IsValidity p.bytes times.0 times.1
validity-sound p times read e =
    let a = stepped (of_shape two 0x30 p) (λ (x : Part × Part). both (tbs.time x.0) (tbs.time x.1)) times e in
    let m = shape-sound two 0x30 p a.value read a.before in
    let w = two-is m.at m.parts a.value m.is in
    let each = subst (AllByRecursion IsRead) w m.each in
    let b = both-ok (tbs.time a.value.0) (tbs.time a.value.1) times a.after in
    record {
      first = a.value.0.bytes;
      last = a.value.1.bytes;
      whole = subst (λ (parts : List (List ℕ)). IsMadeOf 0x30 parts p.bytes) w m.whole;
      begins = time-sound a.value.0 times.0 each.0.is b.first;
      ends = time-sound a.value.1 times.1 each.1.0.is b.second;
    }

pub validity-complete : (at : ℕ) (bytes : List ℕ) (begin end : ℤ) → IsValidity bytes begin end → tbs.validity (place at bytes) ≡ Ok (begin, end)
validity-complete at bytes begin end is =
    rw (shape-complete two 0x30 at (is.first ∷ is.last ∷ []) bytes is.whole)
    (rw (time-complete _ is.first begin is.begins, time-complete _ is.last end is.ends) refl)

-- ---- the key

record IsPoint (body : List ℕ) (key : Point) : Type 0 where
  spelled : body ≡ 0x00 ∷ (0x04 ∷ (key.x ++ key.y))
  x_size : length key.x ≡ 32
  y_size : length key.y ≡ 32

point-sound : (body : List ℕ) (key : Point) → point_of body ≡ Some key → IsPoint body key
point-sound [] key e = absurd (cc)
point-sound (unused ∷ []) key e = absurd (cc)
point-sound (unused ∷ (form ∷ rest)) key e =
    let split : Point = record { x = take 32 rest; y = drop 32 rest } in
    let c = if-some (unused == 0 && form == 4 && length rest == 64) (Some split) key e in
    let b = and_parts (unused == 0 && form == 4) (length rest == 64) c.0 in
    let a = and_parts (unused == 0) (form == 4) b.0 in
    let none = eqb-true unused 0 a.0 in
    let uncompressed = eqb-true form 4 a.1 in
    let size = eqb-true (length rest) 64 b.1 in
    let same : split ≡ key = (let s : Some split ≡ Some key = c.1 in cc) in
    let own : IsPoint (unused ∷ (form ∷ rest)) split = record {
      spelled = ap (λ (n : ℕ). n ∷ (form ∷ rest)) none ∙ ap (λ (n : ℕ). 0x00 ∷ (n ∷ rest)) uncompressed ∙ ap (λ (bytes : List ℕ). 0x00 ∷ (0x04 ∷ bytes)) (sym (take-append-drop 32 rest));
      x_size = length-take-le 32 rest (omega (arith, size));
      y_size = omega (arith, size, length-drop 32 rest);
    } in
    subst (IsPoint (unused ∷ (form ∷ rest))) same own

point-complete : (body : List ℕ) (key : Point) → IsPoint body key → point_of body ≡ Some key
point-complete body key is =
    let all : (length (key.x ++ key.y) == 64) ≡ true = (let x = is.x_size in let y = is.y_size in grind (arith, nat_tests, length-append key.x key.y)) in
    let front : take 32 (key.x ++ key.y) ≡ key.x = ap (λ (n : ℕ). take n (key.x ++ key.y)) (sym is.x_size) ∙ take-append_seam key.x key.y in
    let back : drop 32 (key.x ++ key.y) ≡ key.y = ap (λ (n : ℕ). drop n (key.x ++ key.y)) (sym is.x_size) ∙ drop-append_seam key.x key.y in
    rw is.spelled (rw all (rw (front, back) refl))

abbrev named : Part × Part → Part → Result (Part × Part) CertFault
named x name = Ok (name, x.1)

record IsAlgorithm (p : Part) (y : Part × Part) : Type 0 where
  whole : IsMadeOf 0x30 (y.0.bytes ∷ y.1.bytes ∷ []) p.bytes
  name : IsElement y.0.bytes 0x06 (body_of y.0.bytes)

key_algorithm-sound : (p : Part) (y : Part × Part) → IsRead p.bytes → tbs.key_algorithm p ≡ Ok y → IsAlgorithm p y
key_algorithm-sound p y read e =
    let a = stepped (of_shape two 0x30 p) (λ (x : Part × Part). tagged 0x06 x.0 >>= named x) y e in
    let m = shape-sound two 0x30 p a.value read a.before in
    let w = two-is m.at m.parts a.value m.is in
    let each = subst (AllByRecursion IsRead) w m.each in
    let b = stepped (tagged 0x06 a.value.0) (named a.value) y a.after in
    let t = tag-sound 0x06 a.value.0 b.value each.0.is b.before in
    let pair : (b.value, a.value.1) ≡ y = (let s : Ok (b.value, a.value.1) ≡ Ok y = b.after in cc) in
    let own : IsAlgorithm p (a.value.0, a.value.1) = record {
      whole = subst (λ (parts : List (List ℕ)). IsMadeOf 0x30 parts p.bytes) w m.whole;
      name = t.is;
    } in
    let same : (a.value.0, a.value.1) ≡ y = ◌∙◌ {b = (b.value, a.value.1)} (ap (λ (q : Part). (q, a.value.1)) t.same) pair in
    subst (IsAlgorithm p) same own

pub key-sound : (p : Part) (key : Point) → IsRead p.bytes → tbs.public_key p ≡ Ok key → IsPublicKeyInfo p.bytes key
key-sound p key read e =
    let a = stepped (of_shape two 0x30 p) (λ (x : Part × Part). both (tbs.key_algorithm x.0) (tagged 0x03 x.1) >>= λ (y : (Part × Part) × Part). or_fault (fault KeyKind p.at) (tbs.point_under y.0 y.1)) key e in
    let m = shape-sound two 0x30 p a.value read a.before in
    let w = two-is m.at m.parts a.value m.is in
    let each = subst (AllByRecursion IsRead) w m.each in
    let b = stepped (both (tbs.key_algorithm a.value.0) (tagged 0x03 a.value.1)) (λ (y : (Part × Part) × Part). or_fault (fault KeyKind p.at) (tbs.point_under y.0 y.1)) key a.after in
    let c = both-ok (tbs.key_algorithm a.value.0) (tagged 0x03 a.value.1) b.value b.before in
    let g = key_algorithm-sound a.value.0 b.value.0 each.0 c.first in
    let t = tag-sound 0x03 a.value.1 b.value.1 each.1.0.is c.second in
    let o = or_fault-ok (fault KeyKind p.at) (tbs.point_under b.value.0 b.value.1) key b.after in
    let names : Bool = bytes_eq (body_of b.value.0.0.bytes) ec_public_key && bytes_eq b.value.0.1.bytes secp256r1 in
    let d = if-some names (point_of (body_of b.value.1.bytes)) key o in
    let n = and_parts (bytes_eq (body_of b.value.0.0.bytes) ec_public_key) (bytes_eq b.value.0.1.bytes secp256r1) d.0 in
    let identifier : b.value.0.0.bytes ≡ element 0x06 ec_public_key = known b.value.0.0.bytes 0x06 ec_public_key g.name (bytes-same (body_of b.value.0.0.bytes) ec_public_key n.0) in
    let curve : b.value.0.1.bytes ≡ secp256r1 = bytes-same b.value.0.1.bytes secp256r1 n.1 in
    let point = point-sound (body_of b.value.1.bytes) key d.1 in
    let body : body_of a.value.1.bytes ≡ 0x00 ∷ (0x04 ∷ (key.x ++ key.y)) = ap (λ (q : Part). body_of q.bytes) t.same ∙ point.spelled in
    let bits : a.value.1.bytes ≡ element 0x03 (0x00 ∷ (0x04 ∷ (key.x ++ key.y))) = known a.value.1.bytes 0x03 (0x00 ∷ (0x04 ∷ (key.x ++ key.y))) t.is body in
    record {
      algorithm = a.value.0.bytes;
      whole = subst (λ (parts : List (List ℕ)). IsMadeOf 0x30 parts p.bytes) (w ∙ ap (λ (x : List ℕ). a.value.0.bytes ∷ x ∷ []) bits) m.whole;
      on_curve = subst (λ (parts : List (List ℕ)). IsMadeOf 0x30 parts a.value.0.bytes) (ap (λ (x : List ℕ). x ∷ b.value.0.1.bytes ∷ []) identifier ∙ ap (λ (x : List ℕ). element 0x06 ec_public_key ∷ x ∷ []) curve) g.whole;
      x_size = point.x_size;
      y_size = point.y_size;
    }

key_algorithm-complete : (at : ℕ) (bytes : List ℕ) → IsMadeOf 0x30 (element 0x06 ec_public_key ∷ secp256r1 ∷ []) bytes → (a b : ℕ) × (tbs.key_algorithm (place at bytes) ≡ Ok (place a (element 0x06 ec_public_key), place b secp256r1))
key_algorithm-complete at bytes whole =
    let parts : List (List ℕ) = element 0x06 ec_public_key ∷ secp256r1 ∷ [] in
    let first = after_head at 0x30 (concatenated parts) in (
      first,
      first + length (element 0x06 ec_public_key),
      rw (shape-complete two 0x30 at parts bytes whole) (rw (tagged-is first 0x06 ec_public_key identifier-tag) refl),
    )

bits-tag : IsTag 0x03
bits-tag = (omega arith, omega arith)

point-under : (a b c : ℕ) (body : List ℕ) → tbs.point_under (place a (element 0x06 ec_public_key), place b secp256r1) (place c (element 0x03 body)) ≡ point_of body
point-under a b c body = rw (body-is 0x06 ec_public_key identifier-tag) (rw (body-is 0x03 body bits-tag) refl)

pub key-complete : (at : ℕ) (bytes : List ℕ) (key : Point) → IsPublicKeyInfo bytes key → tbs.public_key (place at bytes) ≡ Ok key
key-complete at bytes key is =
    let body : List ℕ = 0x00 ∷ (0x04 ∷ (key.x ++ key.y)) in
    let parts : List (List ℕ) = is.algorithm ∷ element 0x03 body ∷ [] in
    let first = after_head at 0x30 (concatenated parts) in
    let g = key_algorithm-complete first is.algorithm is.on_curve in
    let point : point_of body ≡ Some key = point-complete body key (record { spelled = refl; x_size = is.x_size; y_size = is.y_size }) in
    rw (shape-complete two 0x30 at parts bytes is.whole)
    (rw (g.2, tagged-is (first + length is.algorithm) 0x03 body bits-tag)
    (rw (point-under g.0 g.1 (first + length is.algorithm) body, point) refl))

-- ---- elements in bytes of their own

pub record InnerSound (tag : ℕ) (bytes : List ℕ) (ps : List (Result Part DerFault)) : Type 0 where
  pub at : ℕ
  pub parts : List (List ℕ)
  pub whole : IsMadeOf tag parts bytes
  pub each : AllByRecursion IsRead parts
  pub is : ps ≡ placed at parts

pub inner-sound : (tag : ℕ) (bytes : List ℕ) (ps : List (Result Part DerFault)) → AreBytes bytes → pairs.inner_parts tag bytes ≡ Some ps → all_read ps ≡ Ok tt → InnerSound tag bytes ps
inner-sound tag bytes ps are e ok = go (der bytes) refl e where
  go : (r : Result Part DerFault) → der bytes ≡ r → pairs.parts_where tag r ≡ Some ps → InnerSound tag bytes ps
  go (Err f) is same = absurd (cc)
  go (Ok p) is same =
      let d = der-sound bytes p are is in
      let c = if-some (has_tag tag p) (Some (parts_of p)) ps same in
      let all : parts_of p ≡ ps = (let s : Some (parts_of p) ≡ Some ps = c.1 in cc) in
      let own : p.bytes ≡ bytes = ap (λ (q : Part). q.bytes) d.same in
      let read : IsRead p.bytes = subst IsRead (sym own) (record { is = d.is; are = are }) in
      let m = all-sound tag p read c.0 (ap all_read all ∙ ok) in
      let whole : IsMadeOf tag m.parts bytes = subst (IsMadeOf tag m.parts) own m.whole in
      record {
        at = (body_part p).at;
        parts = m.parts;
        whole = whole;
        each = parts-each tag m.parts bytes whole are;
        is = sym all ∙ m.is;
      }

pub inner-complete : (tag : ℕ) (parts : List (List ℕ)) (bytes : List ℕ) → IsMadeOf tag parts bytes → pairs.inner_parts tag bytes ≡ Some (placed (after_head 0 tag (concatenated parts)) parts)
inner-complete tag parts bytes whole =
    let is = whole.is.is_tag in
    ap (pairs.inner_parts tag) whole.is.spelled
    ∙ rw (der-is tag (concatenated parts) is) (rw (has-tag 0 tag (concatenated parts) is) (ap (λ (ps : List (Result Part DerFault)). Some ps) (parts-in 0 tag parts is (elems parts whole.each))))

-- ---- the signature

two-read : (ps : List (Result Part DerFault)) (x : Part × Part) → two ps ≡ Some x → all_read ps ≡ Ok tt
two-read [] x e = absurd (cc)
two-read ((Err f) ∷ ps) x e = absurd (cc)
two-read ((Ok p) ∷ []) x e = absurd (cc)
two-read ((Ok p) ∷ ((Err f) ∷ ps)) x e = absurd (cc)
two-read ((Ok p) ∷ ((Ok q) ∷ [])) x e = refl
two-read ((Ok p) ∷ ((Ok q) ∷ (r ∷ ps))) x e = absurd (cc)

record ReadNumber (p : Part) (digits : List ℕ) : Type 0 where
  spelled : p.bytes ≡ element 0x02 (body_of p.bytes)
  number : IsNumber (body_of p.bytes) digits

number-read : (p : Part) (digits : List ℕ) → IsRead p.bytes → pairs.integer p ≡ Some digits → ReadNumber p digits
number-read p digits read e =
    let c = if-some (has_tag 0x02 p) (number_of (body_of p.bytes)) digits e in
    let is = with-tag 0x02 p.bytes read.is c.0 in
    let are = body-bytes p.bytes 0x02 (body_of p.bytes) is read.are in
    record { spelled = is.spelled; number = number-sound (body_of p.bytes) digits are c.1 }

read-number : (at : ℕ) (body digits : List ℕ) → AreBytes (element 0x02 body) → IsElement (element 0x02 body) 0x02 body → IsNumber body digits → pairs.integer (place at (element 0x02 body)) ≡ Some digits
read-number at body digits are is number =
    let e = number-complete body digits (body-bytes (element 0x02 body) 0x02 body is are) number in
    rw (has-tag at 0x02 body integer-tag) (rw (body-is 0x02 body integer-tag) e)

abbrev second_number : List ℕ → Part → Option (List ℕ)
second_number r q = pairs.integer q >>? λ (s : List ℕ). Some (r ++ s)

abbrev both_numbers : Part × Part → Option (List ℕ)
both_numbers x = pairs.integer x.0 >>? λ (r : List ℕ). second_number r x.1

record IsPair (bytes signature : List ℕ) : Type 0 where
  r : List ℕ
  s : List ℕ
  r_bytes : List ℕ
  s_bytes : List ℕ
  whole : IsMadeOf 0x30 (element 0x02 r ∷ element 0x02 s ∷ []) bytes
  r_number : IsNumber r r_bytes
  s_number : IsNumber s s_bytes
  both : signature ≡ r_bytes ++ s_bytes

pair-sound : (bytes signature : List ℕ) → AreBytes bytes → pairs.pair_of bytes ≡ Some signature → IsPair bytes signature
pair-sound bytes signature are e =
    let a = chosen (pairs.inner_parts 0x30 bytes) (λ (ps : List (Result Part DerFault)). two ps >>? both_numbers) signature e in
    let b = chosen (two a.value) both_numbers signature a.after in
    let m = inner-sound 0x30 bytes a.value are a.before (two-read a.value b.value b.before) in
    let w = two-is m.at m.parts b.value (ap two (sym m.is) ∙ b.before) in
    let each = subst (AllByRecursion IsRead) w m.each in
    let c = chosen (pairs.integer b.value.0) (λ (r : List ℕ). second_number r b.value.1) signature b.after in
    let d = chosen (pairs.integer b.value.1) (λ (s : List ℕ). Some (c.value ++ s)) signature c.after in
    let f = number-read b.value.0 c.value each.0 c.before in
    let g = number-read b.value.1 d.value each.1.0 d.before in
    let joined : c.value ++ d.value ≡ signature = (let s : Some (c.value ++ d.value) ≡ Some signature = d.after in cc) in
    record {
      r = body_of b.value.0.bytes;
      s = body_of b.value.1.bytes;
      r_bytes = c.value;
      s_bytes = d.value;
      whole = subst (λ (parts : List (List ℕ)). IsMadeOf 0x30 parts bytes) (w ∙ ap (λ (x : List ℕ). x ∷ b.value.1.bytes ∷ []) f.spelled ∙ ap (λ (x : List ℕ). element 0x02 (body_of b.value.0.bytes) ∷ x ∷ []) g.spelled) m.whole;
      r_number = f.number;
      s_number = g.number;
      both = sym joined;
    }

-- an element of a known body is that element
known-is : (tag : ℕ) (body : List ℕ) → IsSomeElement (element tag body) → IsTag tag → IsElement (element tag body) tag body
known-is tag body e is =
    let size : body ≡ e.body = sym (body-is tag body is) ∙ body-of (element tag body) e.tag e.body e.is in
    record { is_tag = is; fits = subst (λ (b : List ℕ). length b < 2 ^ 32) (sym size) e.is.fits; spelled = refl }

pair-complete : (bytes signature : List ℕ) → AreBytes bytes → IsPair bytes signature → pairs.pair_of bytes ≡ Some signature
pair-complete bytes signature are is =
    let parts : List (List ℕ) = element 0x02 is.r ∷ element 0x02 is.s ∷ [] in
    let first = after_head 0 0x30 (concatenated parts) in
    let each = parts-each 0x30 parts bytes is.whole are in
    let r = read-number first is.r is.r_bytes each.0.are (known-is 0x02 is.r each.0.is integer-tag) is.r_number in
    let s = read-number (first + length (element 0x02 is.r)) is.s is.s_bytes each.1.0.are (known-is 0x02 is.s each.1.0.is integer-tag) is.s_number in
    rw (inner-complete 0x30 parts bytes is.whole) (rw (r, s) (ap (λ (x : List ℕ). Some x) (sym is.both)))

record IsBits (body signature : List ℕ) : Type 0 where
  pair : List ℕ
  spelled : body ≡ 0x00 ∷ pair
  holds : pairs.pair_of pair ≡ Some signature

bits-sound : (body signature : List ℕ) → pairs.signature_of body ≡ Some signature → IsBits body signature
bits-sound [] signature e = absurd (cc)
bits-sound (unused ∷ pair) signature e =
    let c = if-some (unused == 0) (pairs.pair_of pair) signature e in
    record { pair = pair; spelled = ap (λ (n : ℕ). n ∷ pair) (eqb-true unused 0 c.0); holds = c.1 }

pub signature-sound : (p : Part) (signature : List ℕ) → IsRead p.bytes → certificates.signature p ≡ Ok signature → IsSignatureValue p.bytes signature
signature-sound p signature read e =
    let a = stepped (tagged 0x03 p) (λ (bits : Part). or_fault (fault Signature bits.at) (pairs.signature_of (body_of bits.bytes))) signature e in
    let t = tag-sound 0x03 p a.value read.is a.before in
    let b = bits-sound (body_of a.value.bytes) signature (or_fault-ok (fault Signature a.value.at) (pairs.signature_of (body_of a.value.bytes)) signature a.after) in
    let body : body_of p.bytes ≡ 0x00 ∷ b.pair = ap (λ (q : Part). body_of q.bytes) t.same ∙ b.spelled in
    let bits : IsElement p.bytes 0x03 (0x00 ∷ b.pair) = subst (λ (x : List ℕ). IsElement p.bytes 0x03 x) body t.is in
    let are : AreBytes b.pair = bytes-behind (0x00 ∷ []) b.pair (body-bytes p.bytes 0x03 (0x00 ∷ b.pair) bits read.are) in
    let n = pair-sound b.pair signature are b.holds in
    record {
      pair = b.pair;
      r = n.r;
      s = n.s;
      r_bytes = n.r_bytes;
      s_bytes = n.s_bytes;
      bits = bits;
      whole = n.whole;
      r_number = n.r_number;
      s_number = n.s_number;
      both = n.both;
    }

pub signature-complete : (at : ℕ) (bytes signature : List ℕ) → AreBytes bytes → IsSignatureValue bytes signature → certificates.signature (place at bytes) ≡ Ok signature
signature-complete at bytes signature are is =
    let own : AreBytes is.pair = bytes-behind (0x00 ∷ []) is.pair (body-bytes bytes 0x03 (0x00 ∷ is.pair) is.bits are) in
    let pair : pairs.pair_of is.pair ≡ Some signature = pair-complete is.pair signature own (record { r = is.r; s = is.s; r_bytes = is.r_bytes; s_bytes = is.s_bytes; whole = is.whole; r_number = is.r_number; s_number = is.s_number; both = is.both }) in
    rw (tag-of bytes 0x03 (0x00 ∷ is.pair) is.bits) (rw (body-of bytes 0x03 (0x00 ∷ is.pair) is.bits) (rw pair refl))
