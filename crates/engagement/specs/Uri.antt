-- The text of a QR code for device engagement (ISO/IEC 18013-5, 8.2.2.3; RFC 4648, section 5).
use Rattle.std.specs.Prelude.{◌≡◌, ◌⊎◌, List, ℕ, ◌++◌, codes, Result, Ok, Err}
use Rattle.base64.specs.Engines.{url_safe_no_pad}
use Rattle.base64.specs.GeneralPurpose.{IsBytes, encode_of}
use Rattle.engagement.specs.declared.uri_fault.UriFault.{UriFault}
use Rattle.engagement.specs.declared.uri_fault.UriFault.TheVariants.{Prefix, Base64, Memory}

abbrev pub prefix : List ℕ
prefix = codes "mdoc:"

-- `mdoc:` and the base64url text of the bytes, without padding
abbrev pub uri_of : List ℕ → List ℕ
uri_of bytes = prefix ++ encode_of url_safe_no_pad bytes

-- The text begins with the prefix.
abbrev pub BeginsWithPrefix : List ℕ → Type 0
BeginsWithPrefix text = (rest : List ℕ) × (text ≡ prefix ++ rest)

-- What a text is read as: the bytes whose text it is; no bytes where it doesn't begin with the prefix,
-- and where it does and is the text of none.
abbrev pub ReadsUri : List ℕ → Result (List ℕ) UriFault → Type 0
ReadsUri text (Ok bytes) = IsBytes bytes × (text ≡ uri_of bytes)
ReadsUri text (Err Prefix) = ¬ BeginsWithPrefix text
ReadsUri text (Err Base64) = BeginsWithPrefix text × ((bytes : List ℕ) → IsBytes bytes → ¬ (text ≡ uri_of bytes))
ReadsUri text (Err Memory) = Unit {0}

-- A text is that of one engagement's bytes alone.
abbrev pub OneUri : Type 0
OneUri = (one two : List ℕ) → IsBytes one → IsBytes two → uri_of one ≡ uri_of two → one ≡ two

-- The text of bytes is read as these bytes, where memory isn't wanting.
abbrev pub ReadsBack : Type 0
ReadsBack = (bytes : List ℕ) (result : Result (List ℕ) UriFault) → IsBytes bytes → ReadsUri (uri_of bytes) result → (result ≡ Ok bytes) ⊎ (result ≡ Err Memory)
