-- A name of a root is text.
use Rattle.std.proofs.Common.{◌≡◌, ℕ, ◌≤◌, Bool, true, false, ◌&&◌, List, [], ◌∷◌, length, refl, arith}
use Rattle.std.specs.Prelude.{nat_le, ◌==◌, not, codes}
use Rattle.std.specs.Char.{is_ascii_graphic}
use Rattle.std.specs.List.{list_all}
use Rattle.std.specs.Str.{IsAscii, IsUtf8, bytes_eq}
use Rattle.std.proofs.lemmas.Bool.{leb-true}
use Rattle.std.proofs.lemmas.Str.{IsUtf8-from_ascii}
use Rattle.std.proofs.lemmas.Str.Ascii.{IsAscii-nil, IsAscii-cons}
use Rattle.mdoc_outside.specs.WordForm.{is_word, is_name}
use Rattle.cert_view.specs.RootLine.{names_root}

both : (a b : Bool) → (a && b) ≡ true → (a ≡ true) × (b ≡ true)
both true b h = (refl, h)
both false b h = absurd cc

graphic_ascii : (bytes : List ℕ) → list_all is_ascii_graphic bytes ≡ true → IsAscii bytes
graphic_ascii [] h = IsAscii-nil
graphic_ascii (b ∷ bytes) h =
    let first = both (is_ascii_graphic b) (list_all is_ascii_graphic bytes) h in
    let range = both (nat_le 33 b) (nat_le b 126) first.0 in
    let low : b ≤ 126 = leb-true b 126 range.1 in
    IsAscii-cons b bytes (omega arith) (graphic_ascii bytes first.1)

pub name_utf8 : (word : List ℕ) → names_root word ≡ true → IsUtf8 word
name_utf8 word h =
    let name = both (is_name word) (not (bytes_eq word (codes "*")) && not (bytes_eq word (codes "+"))) h in
    let parts = both (is_word word) (nat_le (length word) 128) name.0 in
    let graphic = both (not (length word == 0)) (list_all is_ascii_graphic word) parts.0 in
    IsUtf8-from_ascii word (graphic_ascii word graphic.1)
