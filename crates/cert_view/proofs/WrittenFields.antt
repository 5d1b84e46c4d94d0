-- Of a certificate that is written each part is read.
use Rattle.std.proofs.Common.{◌≡◌, ℕ, ◌+◌, ◌==◌, refl, sym, ap, ◌∙◌, arith, Bool, true, false, ℤ, pos, List, [], ◌∷◌, ◌++◌, length, take, drop, Some, Ok, length-append, length-drop}
use Rattle.std.specs.Prelude.{if◌then◌else◌, int_lt}
use Rattle.std.proofs.Math.Seq.{take-append_seam, drop-append_seam}
use Rattle.std.proofs.lemmas.Bool.Decides.{nat_tests}
use Rattle.std.proofs.lemmas.List.{length-take-le, take-append-drop}
use Rattle.der_view.specs.Element.{IsTag, element}
use Rattle.der_view.specs.Parts.{Part, parts_at, parts_up_to}
use Rattle.der_view.specs.Reading.{first_at, reads, tag_of, body_of}
use Rattle.key_device.specs.declared.point.Point.{Point}
use Rattle.cert_view.specs.Keys.{point_of}
use Rattle.cert_view.specs.Shapes.{two}
use Rattle.cert_view.specs.Times.{generalized_time, utc_time}
use Rattle.cert_view.specs.Signatures as pairs
use Rattle.cert_view.specs.Tbs as tbs
use Rattle.cert_view.specs.Certificate as certificates
use Rattle.cert_view.specs.Written.{IsTime, concatenated, sequence, identifier, without_zeros, sign, integer, version, algorithm, time_text, time, validity, key_kind, public_key, extensions, signature}
use Rattle.cert_view.proofs.WrittenNumbers.{number-read}
use Rattle.cert_view.proofs.WrittenParts.{place, tag-is, body-is, der-is, has-tag, tagged-is, IsElem, elem, parts-in, of_shape-is}
use Rattle.cert_view.proofs.WrittenTimes.{generalized-read, lt_passed, utc-read}

-- ---- parts that are the same in each certificate

pub version-read : (at : ℕ) → tbs.version (place at version) ≡ Ok tt
unfolding first_at reads tag_of body_of parts_up_to parts_at
version-read at = refl

pub algorithm-read : (at : ℕ) → tbs.algorithm (place at algorithm) ≡ Ok tt
unfolding first_at reads tag_of body_of parts_up_to parts_at
algorithm-read at = refl

pub extensions-last : (at : ℕ) → tbs.none_or_one (tbs.after_unique_identifiers (Ok (place at (extensions true)) ∷ [])) ≡ Some (Some (place at (extensions true)))
unfolding first_at reads tag_of body_of parts_up_to parts_at
extensions-last at = refl

pub extensions-read : (at : ℕ) → tbs.extensions (Some (place at (extensions true))) ≡ Ok (Some true)
unfolding first_at reads tag_of body_of parts_up_to parts_at
extensions-read at = refl

-- ---- tags

pub sequence-tag : IsTag 0x30
sequence-tag = (omega arith, omega arith)

pub integer-tag : IsTag 0x02
integer-tag = (omega arith, omega arith)

pub bits-tag : IsTag 0x03
bits-tag = (omega arith, omega arith)

utc-tag : IsTag 0x17
utc-tag = (omega arith, omega arith)

generalized-tag : IsTag 0x18
generalized-tag = (omega arith, omega arith)

pub version-tag : IsTag 0xa0
version-tag = (omega arith, omega arith)

pub extensions-tag : IsTag 0xa3
extensions-tag = (omega arith, omega arith)

-- ---- times

utc-element : (at : ℕ) (text : List ℕ) (moment : ℤ) → utc_time text ≡ Some moment → tbs.time (place at (element 0x17 text)) ≡ Ok moment
utc-element at text moment e = rw (tag-is 0x17 text utc-tag) (rw (body-is 0x17 text utc-tag) (rw e refl))

generalized-element : (at : ℕ) (text : List ℕ) (moment : ℤ) → generalized_time text ≡ Some moment → tbs.time (place at (element 0x18 text)) ≡ Ok moment
generalized-element at text moment e = rw (tag-is 0x18 text generalized-tag) (rw (body-is 0x18 text generalized-tag) (rw e refl))

pub time-read : (at : ℕ) (moment : ℤ) → IsTime moment → tbs.time (place at (time moment)) ≡ Ok moment
time-read at moment is = go (int_lt moment (pos 2_524_608_000)) refl where
  go : (before : Bool) → int_lt moment (pos 2_524_608_000) ≡ before → tbs.time (place at (if before then element 0x17 (drop 2 (time_text moment)) else element 0x18 (time_text moment))) ≡ Ok moment
  go true lt = utc-element at (drop 2 (time_text moment)) moment (utc-read moment is (lt_passed moment (pos 2_524_608_000) lt))
  go false ge = generalized-element at (time_text moment) moment (generalized-read moment is)

time-elem : (moment : ℤ) → IsElem (time moment)
time-elem moment = go (int_lt moment (pos 2_524_608_000)) where
  go : (before : Bool) → IsElem (if before then element 0x17 (drop 2 (time_text moment)) else element 0x18 (time_text moment))
  go true = elem 0x17 (drop 2 (time_text moment)) utc-tag
  go false = elem 0x18 (time_text moment) generalized-tag

pub validity-read : (at : ℕ) (from until : ℤ) → IsTime from → IsTime until → tbs.validity (place at (validity from until)) ≡ Ok (from, until)
validity-read at from until begins ends =
    rw (of_shape-is two at 0x30 (time from ∷ time until ∷ []) sequence-tag (time-elem from, (time-elem until, tt)))
    (rw (time-read _ from begins, time-read _ until ends) refl)

-- ---- the key

point-read : (key : Point) → length key.x ≡ 32 → length key.y ≡ 32 → point_of (0x00 ∷ (0x04 ∷ (key.x ++ key.y))) ≡ Some key
point-read key x y =
    let all : (length (key.x ++ key.y) == 64) ≡ true = grind (arith, nat_tests, length-append key.x key.y) in
    let front : take 32 (key.x ++ key.y) ≡ key.x = ap (λ (n : ℕ). take n (key.x ++ key.y)) (sym x) ∙ take-append_seam key.x key.y in
    let back : drop 32 (key.x ++ key.y) ≡ key.y = ap (λ (n : ℕ). drop n (key.x ++ key.y)) (sym x) ∙ drop-append_seam key.x key.y in
    rw all (rw (front, back) refl)

key_kind-read : (at : ℕ) → tbs.key_algorithm (place at key_kind) ≡ Ok (place (at + 2) (identifier tbs.ec_public_key), place (at + 2 + 9) tbs.secp256r1)
unfolding first_at reads tag_of body_of parts_up_to parts_at
key_kind-read at = refl

point-under : (a b c : ℕ) (body : List ℕ) → tbs.point_under (place a (identifier tbs.ec_public_key), place b tbs.secp256r1) (place c (element 0x03 body)) ≡ point_of body
point-under a b c body =
    rw (body-is 0x06 tbs.ec_public_key (omega arith, omega arith)) (rw (body-is 0x03 body bits-tag) refl)

pub public_key-read : (at : ℕ) (key : Point) → length key.x ≡ 32 → length key.y ≡ 32 → tbs.public_key (place at (public_key key)) ≡ Ok key
public_key-read at key x y =
    let bits : List ℕ = 0x00 ∷ (0x04 ∷ (key.x ++ key.y)) in
    rw (of_shape-is two at 0x30 (key_kind ∷ element 0x03 bits ∷ []) sequence-tag (elem 0x30 (concatenated (identifier tbs.ec_public_key ∷ tbs.secp256r1 ∷ [])) sequence-tag, (elem 0x03 bits bits-tag, tt)))
    (rw (key_kind-read _, tagged-is _ 0x03 bits bits-tag)
    (rw (point-under _ _ _ bits, point-read key x y) refl))

-- ---- the signature

integer-read : (at : ℕ) (bytes : List ℕ) → length bytes ≡ 32 → pairs.integer (place at (integer bytes)) ≡ Some bytes
integer-read at bytes is =
    let body : List ℕ = sign (without_zeros bytes) ++ without_zeros bytes in
    rw (has-tag at 0x02 body integer-tag) (rw (body-is 0x02 body integer-tag) (number-read bytes is))

pub integer-elem : (bytes : List ℕ) → IsElem (integer bytes)
integer-elem bytes = elem 0x02 (sign (without_zeros bytes) ++ without_zeros bytes) integer-tag

pair-read : (r s : List ℕ) → length r ≡ 32 → length s ≡ 32 → pairs.pair_of (sequence (integer r ∷ integer s ∷ [])) ≡ Some (r ++ s)
pair-read r s rs ss =
    let parts : List (List ℕ) = integer r ∷ integer s ∷ [] in
    rw (der-is 0x30 (concatenated parts) sequence-tag)
    (rw (has-tag 0 0x30 (concatenated parts) sequence-tag)
    (rw (parts-in 0 0x30 parts sequence-tag (integer-elem r, (integer-elem s, tt)))
    (rw (integer-read _ r rs, integer-read _ s ss) refl)))

pub signature-read : (at : ℕ) (pair : List ℕ) → length pair ≡ 64 → certificates.signature (place at (signature pair)) ≡ Ok pair
signature-read at pair is =
    let r : length (take 32 pair) ≡ 32 = omega (arith, length-take-le 32 pair) in
    let s : length (drop 32 pair) ≡ 32 = omega (arith, length-drop 32 pair) in
    let numbers : List ℕ = sequence (integer (take 32 pair) ∷ integer (drop 32 pair) ∷ []) in
    rw (tagged-is at 0x03 (0x00 ∷ numbers) bits-tag)
    (rw (body-is 0x03 (0x00 ∷ numbers) bits-tag)
    (rw (pair-read (take 32 pair) (drop 32 pair) r s) (ap (λ (b : List ℕ). Ok b) (take-append-drop 32 pair))))
