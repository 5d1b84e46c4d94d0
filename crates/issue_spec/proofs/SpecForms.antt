-- Words of a form, and names, are text.
use Rattle.std.proofs.Common.{◌≡◌, ℕ, zero, suc, ◌==◌, ◌<◌, ◌≤◌, refl, arith, Bool, true, false, ◌&&◌, List, [], ◌∷◌, length, None}
use Rattle.std.specs.Prelude.{codes, not, nat_lt, nat_le}
use Rattle.std.specs.Char.{is_ascii_graphic}
use Rattle.std.specs.List.{zip, list_all}
use Rattle.std.specs.Str.{IsUtf8, IsAscii, is_utf8}
use Rattle.std.proofs.lemmas.Bool.{eqb-true, leb-true}
use Rattle.std.proofs.lemmas.Bool.Decides.{nat_tests}
use Rattle.std.proofs.lemmas.Str.{IsUtf8-from_ascii, IsUtf8-from_is_utf8, is_utf8-from_IsUtf8}
use Rattle.std.proofs.lemmas.Str.Ascii.{IsAscii-nil, IsAscii-cons}
use Rattle.cert_view.proofs.TimeTexts.{moment-utf8}
use Rattle.mdl_table.specs.Calendar.{moment_of}
use Rattle.mdl_table.specs.Form.{stands_for, has_form}
use Rattle.mdoc_outside.specs.WordForm.{is_word, is_name}

both : (a b : Bool) → (a && b) ≡ true → (a ≡ true) × (b ≡ true)
both true b h = (refl, h)
both false b h = absurd cc

-- ---- forms

stands_ascii : (wanted byte : ℕ) → nat_lt wanted 128 ≡ true → stands_for wanted byte ≡ true → byte < 128
stands_ascii wanted byte low is = grind (arith, nat_tests)

all_ascii : (form text : List ℕ) → list_all (λ b. nat_lt b 128) form ≡ true → length form ≡ length text → list_all (λ both. stands_for both.0 both.1) (zip form text) ≡ true → IsAscii text
all_ascii [] [] low same is i = omega arith
all_ascii [] (b ∷ text) low same is i = absurd (omega (arith, same))
all_ascii (w ∷ form) [] low same is i = omega arith
all_ascii (w ∷ form) (b ∷ text) low same is zero = stands_ascii w b (both _ _ low).0 (both _ _ is).0
all_ascii (w ∷ form) (b ∷ text) low same is (suc i) =
    all_ascii form text (both _ _ low).1 (omega (arith, same)) (both _ _ is).1 i

pub date_utf8 : (text : List ℕ) → has_form (codes "0000-00-00") text ≡ true → IsUtf8 text
unfolding has_form
date_utf8 text is =
    let parts = both _ _ is in
    IsUtf8-from_ascii text (all_ascii (codes "0000-00-00") text refl (eqb-true _ _ parts.0) parts.1)

pub moment_utf8 : (text : List ℕ) → (IsUtf8 text → ⊥) → moment_of text ≡ None
moment_utf8 text bad = moment-utf8 text bad

-- ---- names

graphic_ascii : (bytes : List ℕ) → list_all is_ascii_graphic bytes ≡ true → IsAscii bytes
graphic_ascii [] h = IsAscii-nil
graphic_ascii (b ∷ bytes) h =
    let first = both (is_ascii_graphic b) (list_all is_ascii_graphic bytes) h in
    let range = both (nat_le 33 b) (nat_le b 126) first.0 in
    let low : b ≤ 126 = leb-true b 126 range.1 in
    IsAscii-cons b bytes (omega arith) (graphic_ascii bytes first.1)

pub name_is_text : (word : List ℕ) → is_name word ≡ true → IsUtf8 word
name_is_text word h =
    let parts = both (is_word word) (nat_le (length word) 128) h in
    let graphic = both (not (length word == 0)) (list_all is_ascii_graphic word) parts.0 in
    IsUtf8-from_ascii word (graphic_ascii word graphic.1)

-- ---- text

pub text_passes : (bytes : List ℕ) → IsUtf8 bytes → is_utf8 bytes ≡ true
text_passes bytes is = is_utf8-from_IsUtf8 bytes is

pub other_fails : (bytes : List ℕ) → (IsUtf8 bytes → ⊥) → is_utf8 bytes ≡ false
other_fails bytes bad = go (is_utf8 bytes) refl where
  go : (b : Bool) → is_utf8 bytes ≡ b → b ≡ false
  go true e = absurd (bad (IsUtf8-from_is_utf8 bytes e))
  go false e = refl
