-- The bytes of a certificate that is written (RFC 5280, 4.1), each element in its one spelling (X.690, 10).
use Rattle.std.specs.Prelude.{ℕ, ◌≤◌, ◌==◌, nat_lt, nat_le, ◌&&◌, Bool, true, false, if◌then◌else◌, ℤ, pos, negsuc, ◌≤ℤ◌, int_lt, List, [], ◌∷◌, ◌++◌, length, take, drop, unwrap_or, IsTrue}
use Rattle.std.specs.Int.{w64, to_be_bytes}
use Rattle.std.specs.List.{list_all}
use Rattle.der_view.specs.Element.{element}
use Rattle.key_device.specs.declared.point.Point.{Point}
use Rattle.mdl_table.specs.MomentText.{text_of}
use Rattle.cert_view.specs.Extensions.{extended_key_usage, document_signer}
use Rattle.cert_view.specs.Tbs.{ecdsa_with_sha256, ec_public_key, secp256r1}
use Rattle.cert_view.specs.declared.cert_draft.CertDraft.{CertDraft}

-- ---- what a draft holds

-- a printable character of ASCII
abbrev pub is_printable : ℕ → Bool
is_printable byte = nat_le 32 byte && nat_le byte 126

-- 1 to 64 of them
pub record IsName (name : List ℕ) : Type 0 where
  pub some : 1 ≤ length name
  pub short : length name ≤ 64
  pub printable : IsTrue (list_all is_printable name)

-- a moment from 1950-01-01T00:00:00Z to 9999-12-31T23:59:59Z, in seconds since 1970
pub record IsTime (moment : ℤ) : Type 0 where
  pub first : negsuc 631_151_999 ≤ℤ moment
  pub last : moment ≤ℤ pos 253_402_300_799

-- what the writer wants of a draft
pub record IsWritable (draft : CertDraft) : Type 0 where
  pub issuer : IsName draft.issuer
  pub subject : IsName draft.subject
  pub from : IsTime draft.from
  pub until : IsTime draft.until

-- ---- elements of elements

-- bytes one after another
abbrev pub concatenated : List (List ℕ) → List ℕ
concatenated [] = []
concatenated (part ∷ parts) = part ++ concatenated parts

abbrev pub sequence : List (List ℕ) → List ℕ
sequence parts = element 0x30 (concatenated parts)

abbrev pub identifier : List ℕ → List ℕ
identifier name = element 0x06 name

-- ---- numbers

abbrev pub without_zeros : List ℕ → List ℕ
without_zeros [] = []
without_zeros (byte ∷ bytes) = if byte == 0 then without_zeros bytes else byte ∷ bytes

-- a byte 0 before digits, where there is none or the first has its highest bit set (X.690, 8.3)
abbrev pub sign : List ℕ → List ℕ
sign [] = 0 ∷ []
sign (digit ∷ digits) = if nat_lt digit 0x80 then [] else 0 ∷ []

-- the INTEGER of a number that is given by bytes, the highest first
abbrev pub integer : List ℕ → List ℕ
integer bytes = element 0x02 (sign (without_zeros bytes) ++ without_zeros bytes)

-- ---- the parts (RFC 5280, 4.1.2)

-- [0] with the version 3, whose number is 2
abbrev pub version : List ℕ
version = element 0xa0 (element 0x02 (2 ∷ []))

abbrev pub algorithm : List ℕ
algorithm = sequence (identifier ecdsa_with_sha256 ∷ [])

-- id-at-commonName, 2.5.4.3
abbrev pub common_name : List ℕ
common_name = 0x55 ∷ 0x04 ∷ 0x03 ∷ []

-- a name of one part, the common name as a UTF8String (4.1.2.4)
abbrev pub name : List ℕ → List ℕ
name text = sequence (element 0x31 (sequence (identifier common_name ∷ element 0x0c text ∷ [])) ∷ [])

-- YYYYMMDDHHMMSSZ, of YYYY-MM-DDTHH:MM:SSZ
abbrev pub without_signs : List ℕ → List ℕ
without_signs text =
    take 4 text ++ take 2 (drop 5 text) ++ take 2 (drop 8 text)
    ++ take 2 (drop 11 text) ++ take 2 (drop 14 text) ++ drop 17 text

abbrev pub time_text : ℤ → List ℕ
time_text moment = without_signs (unwrap_or (text_of moment) [])

-- before 2050-01-01T00:00:00Z a UTCTime, which leaves out the century, and from then on a GeneralizedTime
-- (4.1.2.5)
abbrev pub time : ℤ → List ℕ
time moment =
    if int_lt moment (pos 2_524_608_000) then element 0x17 (drop 2 (time_text moment))
    else element 0x18 (time_text moment)

abbrev pub validity : ℤ → ℤ → List ℕ
validity from until = sequence (time from ∷ time until ∷ [])

-- that a key is one on the curve P-256 (RFC 5480, 2.1.1)
abbrev pub key_kind : List ℕ
key_kind = sequence (identifier ec_public_key ∷ secp256r1 ∷ [])

-- its point, uncompressed (2.2)
abbrev pub public_key : Point → List ℕ
public_key key = sequence (key_kind ∷ element 0x03 (0x00 ∷ (0x04 ∷ (key.x ++ key.y))) ∷ [])

-- the extended key usage of a document signer, which is not marked critical (4.2.1.12; ISO/IEC 18013-5,
-- annex B)
abbrev pub signer_usage : List ℕ
signer_usage = sequence (
    identifier extended_key_usage ∷ element 0x04 (sequence (identifier document_signer ∷ [])) ∷ [])

-- [3] with this extension, and nothing for others
abbrev pub extensions : Bool → List ℕ
extensions true = element 0xa3 (sequence (signer_usage ∷ []))
extensions false = []

-- ---- the whole

unfoldable pub to_be_signed : CertDraft → List ℕ
to_be_signed draft = sequence (
    version
    ∷ integer (to_be_bytes w64 draft.serial)
    ∷ algorithm
    ∷ name draft.issuer
    ∷ validity draft.from draft.until
    ∷ name draft.subject
    ∷ public_key draft.key
    ∷ extensions draft.signer ∷ [])

-- the pair of numbers r and s (RFC 3279, 2.2.3)
abbrev pub signature : List ℕ → List ℕ
signature pair = element 0x03 (0x00 ∷ sequence (integer (take 32 pair) ∷ integer (drop 32 pair) ∷ []))

-- the certificate of a to-be-signed part and a signature
abbrev pub certificate_of : List ℕ → List ℕ → List ℕ
certificate_of message pair = sequence (message ∷ algorithm ∷ signature pair ∷ [])

-- the certificate of a draft, with that signature
unfoldable pub written : CertDraft → List ℕ → List ℕ
written draft pair = certificate_of (to_be_signed draft) pair
