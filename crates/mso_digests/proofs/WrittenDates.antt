-- The text of a moment is a short text, and is read as the moment.
use Rattle.std.proofs.Common.{◌≡◌, ℕ, ◌<◌, ◌^◌, ◌==◌, ◌&&◌, if◌then◌else◌, Bool, true, false, ℤ, List, [], ◌∷◌, length, Some, None, refl, ap, arith, ltb-true, lt-ltb, eqb-true, to_z, of_z, w64}
use Rattle.std.specs.Prelude.{codes, IsUtf8, option_map, pos, negsuc, unsigned_abs}
use Rattle.std.specs.Char.{is_ascii_digit}
use Rattle.std.specs.Int.{int_div_euclid, int_rem_euclid}
use Rattle.std.specs.List.{zip, list_all}
use Rattle.cbor_view.specs.Shortest.{tag_bytes, text_bytes}
use Rattle.cbor_view.specs.Tree.{Tag, Text}
use Rattle.cbor_view.proofs.WrittenParts.{IsPiece, piece-shortest, tree-shortest, tag-written}
use Rattle.cbor_maps.proofs.WrittenMaps.{is_ascii, utf8-ascii}
use Rattle.jiff_core.proofs.SignedLemmas.{signed_arith}
use Rattle.mdl_table.specs.Calendar.{day_at_front, second_number, moment_at, moment_of}
use Rattle.mdl_table.specs.Form.{has_form, stands_for, two_at}
use Rattle.mdl_table.specs.MomentText.{text_of, text_at, IsInYears}
use Rattle.mdl_table.proofs.CivilDays.{le_true}
use Rattle.mdl_table.proofs.MomentLaws.{moment_of-Says, text_of-Says}
use Rattle.mso_digests.specs.Object.{date_text}
use Rattle.mso_digests.specs.Written.{date_bytes}

and_parts : (a b : Bool) → (a && b) ≡ true → (a ≡ true) × (b ≡ true)
and_parts true b h = (refl, h)
and_parts false b h = absurd (cc)

digit-ascii : (byte : ℕ) → is_ascii_digit byte ≡ true → byte < 128
digit-ascii byte e = grind (arith)

form-ascii : (wanted byte : ℕ) → wanted < 128 → stands_for wanted byte ≡ true → byte < 128
form-ascii wanted byte low e = go (wanted == 48) refl e where
  go : (b : Bool) → (wanted == 48) ≡ b → (if b then is_ascii_digit byte else byte == wanted) ≡ true → byte < 128
  go true is e = digit-ascii byte e
  go false is e = let equal : byte ≡ wanted = eqb-true byte wanted e in omega arith

each-ascii : (form text : List ℕ) → is_ascii form ≡ true → length form ≡ length text → list_all (λ both. stands_for both.0 both.1) (zip form text) ≡ true → is_ascii text ≡ true
each-ascii form [] low same e = refl
each-ascii [] (t ∷ ts) low same e = absurd (omega (arith, same))
each-ascii (f ∷ fs) (t ∷ ts) low same e =
    let first = and_parts _ _ low in
    let stands = and_parts _ _ e in
    rw (lt-ltb t 128 (form-ascii f t (ltb-true f 128 first.0) stands.0)) (each-ascii fs ts first.1 (omega (arith, same)) stands.1)

abbrev form : List ℕ
form = codes "0000-00-00T00:00:00Z"

-- what the text of a moment is
pub record IsDate (moment : ℤ) (text : List ℕ) : Type 0 where
  pub moment_is : moment_of text ≡ Some moment
  pub short : length text < 2 ^ 32
  pub is_text : IsUtf8 text

formed : (text : List ℕ) (moment : ℤ) → moment_of text ≡ Some moment → has_form form text ≡ true
unfolding moment_of
formed text moment e = go (has_form form text) refl e where
  go : (b : Bool) → has_form form text ≡ b → (if b then moment_at (day_at_front text) (second_number (two_at text 11) (two_at text 14) (two_at text 17)) else None) ≡ Some moment → b ≡ true
  go true is e = refl
  go false is e = absurd (cc)

parted : (text : List ℕ) → has_form form text ≡ true → (length form ≡ length text) × (is_ascii text ≡ true)
unfolding has_form
parted text e =
    let parts = and_parts (length form == length text) _ e in
    let same = eqb-true (length form) (length text) parts.0 in
    (same, each-ascii form text refl same parts.1)

pub date-is : (moment : ℤ) (text : List ℕ) → text_of moment ≡ Some text → IsDate moment text
date-is moment text e =
    let is = moment_of-Says text moment (text_of-Says moment text e) in
    let parts = parted text (formed text moment is) in
    let same = parts.0 in
    record { moment_is = is; short = omega (arith, same); is_text = utf8-ascii text parts.1 }

pub date_utf8 : (moment : ℤ) (text : List ℕ) → text_of moment ≡ Some text → IsUtf8 text
date_utf8 moment text e = let d = date-is moment text e in d.is_text

-- a date as it is written
abbrev pub dated : List ℕ → List ℕ
dated text = tag_bytes 0 (text_bytes text)

pub date-piece : (moment : ℤ) (text : List ℕ) → IsDate moment text → IsPiece 1 (dated text)
date-piece moment text is = piece-shortest 1 (Tag 0 (Text text)) (omega arith, (is.short, is.is_text)) (omega arith)

pub date-read : (at : ℕ) (moment : ℤ) (text : List ℕ) → IsDate moment text → date_text (record { at = at; bytes = dated text }) ≡ Some text
date-read at moment text is =
    rw (tag-written 0 at (text_bytes text) (omega arith))
    (rw (tree-shortest (Text text) (is.short, is.is_text) (omega arith)) refl)

pub in-years-kept : (moment : ℤ) → IsInYears moment → to_z w64 (of_z w64 moment) ≡ moment
in-years-kept moment is = omega (arith, signed_arith, is.0, is.1)

text-there : (moment : ℤ) → IsInYears moment → (text : List ℕ) × (text_of moment ≡ Some text)
unfolding text_of
text-there moment is = (text_at (int_div_euclid moment (pos 86_400)) (unsigned_abs (int_rem_euclid moment (pos 86_400))), rw (le_true (negsuc 62_167_219_199) moment is.0, le_true moment (pos 253_402_300_799) is.1) refl)

-- the date of a moment in the years 0 to 9999
pub record HasDate (moment : ℤ) : Type 0 where
  pub text : List ℕ
  pub bytes : date_bytes moment ≡ Some (dated text)
  pub is : IsDate moment text

pub has-date : (moment : ℤ) → IsInYears moment → HasDate moment
has-date moment years =
    let there = text-there moment years in
    record { text = there.0; bytes = ap (option_map dated) there.1; is = date-is moment there.0 there.1 }
