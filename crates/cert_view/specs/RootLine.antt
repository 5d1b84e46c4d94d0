-- A line of a roots file: `root NAME HEX`.
use Rattle.std.specs.Prelude.{ℕ, Bool, ◌&&◌, not, nat_le, if◌then◌else◌, List, [], ◌∷◌, length, codes, Option, None, is_ok}
use Rattle.std.specs.Str.{bytes_eq}
use Rattle.std.specs.Result.{result_ok}
use Rattle.hex.specs.Hex.{decode_of}
use Rattle.mdoc_outside.specs.OptionSteps.{◌>>=◌, where_true}
use Rattle.mdoc_outside.specs.WordForm.{is_name}
use Rattle.cert_view.specs.Certificate.{certificate}

-- a trusted certificate as its line lists it: a name, and the certificate's bytes
pub record Listed : Type 0 where
  pub name : List ℕ
  pub bytes : List ℕ

-- The words for any reader, `*`, and for any known one, `+`, name no root.
abbrev pub names_root : List ℕ → Bool
names_root word = is_name word && (not (bytes_eq word (codes "*")) && not (bytes_eq word (codes "+")))

abbrev pub name_of : List ℕ → Option (List ℕ)
name_of word = where_true (names_root word) word

-- the bytes of hexadecimal digits of either case, two for each, where they are at most 8,192
abbrev pub bytes_of : List ℕ → Option (List ℕ)
bytes_of digits = result_ok (decode_of digits) >>= λ bytes. where_true (nat_le (length bytes) 8192) bytes

-- a name for the bytes of a certificate
abbrev pub listed_as : List ℕ → List ℕ → Option Listed
listed_as name bytes = where_true (is_ok (certificate bytes)) (record { name = name; bytes = bytes })

abbrev pub named : List ℕ → List ℕ → Option Listed
named word digits = do
  name ← name_of word
  bytes ← bytes_of digits
  listed_as name bytes

-- what the words of a line say
abbrev pub root_line : List (List ℕ) → Option Listed
root_line (keyword ∷ (word ∷ (digits ∷ []))) =
    if bytes_eq keyword (codes "root") then named word digits else None
root_line words = None
