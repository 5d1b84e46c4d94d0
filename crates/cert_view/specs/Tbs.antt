-- The to-be-signed part of a certificate (RFC 5280, 4.1.2).
use Rattle.std.specs.Prelude.{ℕ, ℤ, Bool, false, ◌&&◌, if◌then◌else◌, List, [], ◌∷◌, Option, Some, None, Result, Ok, Err, unwrap_or}
use Rattle.std.specs.Str.{bytes_eq}
use Rattle.mdoc_outside.specs.ResultSteps.{◌>>=◌, or_fault}
use Rattle.mdoc_outside.specs.OptionSteps.{◌>>=◌ as ◌>>?◌}
use Rattle.der_view.specs.declared.der_fault.DerFault.{DerFault}
use Rattle.der_view.specs.Parts.{Part}
use Rattle.der_view.specs.Reading.{body_of}
use Rattle.key_device.specs.declared.point.Point.{Point}
use Rattle.cert_view.specs.declared.cert_check.CertCheck.TheVariants.{Shape, VersionNot3, Algorithm, Time, KeyKind}
use Rattle.cert_view.specs.declared.cert_fault.CertFault.{CertFault}
use Rattle.cert_view.specs.Faults.{fault, both}
use Rattle.cert_view.specs.Shapes.{has_tag, tagged, parts_in, front, is_empty, at_end, one, two, of_shape}
use Rattle.cert_view.specs.Times.{utc_time, generalized_time}
use Rattle.cert_view.specs.Keys.{point_of}
use Rattle.cert_view.specs.Extensions.{after_optional, with_extensions}

-- ecdsa-with-SHA256, 1.2.840.10045.4.3.2 (RFC 5758, 3.2)
abbrev pub ecdsa_with_sha256 : List ℕ
ecdsa_with_sha256 = 0x2a ∷ 0x86 ∷ 0x48 ∷ 0xce ∷ 0x3d ∷ 0x04 ∷ 0x03 ∷ 0x02 ∷ []

-- id-ecPublicKey, 1.2.840.10045.2.1 (RFC 5480, 2.1.1), and the element of secp256r1, 1.2.840.10045.3.1.7
-- (2.1.1.1)
abbrev pub ec_public_key : List ℕ
ec_public_key = 0x2a ∷ 0x86 ∷ 0x48 ∷ 0xce ∷ 0x3d ∷ 0x02 ∷ 0x01 ∷ []

abbrev pub secp256r1 : List ℕ
secp256r1 = 0x06 ∷ 0x08 ∷ 0x2a ∷ 0x86 ∷ 0x48 ∷ 0xce ∷ 0x3d ∷ 0x03 ∷ 0x01 ∷ 0x07 ∷ []

-- [0] with the INTEGER 2
abbrev pub version : Part → Result (Unit {0}) CertFault
version p = do
  inner ← of_shape one 0xa0 p
  number ← tagged 0x02 inner
  if bytes_eq (body_of number.bytes) (2 ∷ []) then Ok tt else Err (fault VersionNot3 number.at)

-- an identifier, and parameters of any kind or none
abbrev pub one_or_two : List (Result Part DerFault) → Option Part
one_or_two parts = front parts >>? λ a.
    if is_empty a.1 then Some a.0 else (front a.1 >>? λ b. at_end a.0 b.1)

-- ECDSA with SHA-256, whatever the parameters
abbrev pub algorithm : Part → Result (Unit {0}) CertFault
algorithm p = do
  first ← of_shape one_or_two 0x30 p
  name ← tagged 0x06 first
  if bytes_eq (body_of name.bytes) ecdsa_with_sha256 then Ok tt else Err (fault Algorithm p.at)

-- a UTCTime or a GeneralizedTime
abbrev pub time : Part → Result ℤ CertFault
time p =
    if has_tag 0x17 p then or_fault (fault Time p.at) (utc_time (body_of p.bytes))
    else if has_tag 0x18 p then or_fault (fault Time p.at) (generalized_time (body_of p.bytes))
    else Err (fault Shape p.at)

abbrev pub validity : Part → Result (ℤ × ℤ) CertFault
validity p = do
  times ← of_shape two 0x30 p
  both (time times.0) (time times.1)

-- an identifier, and parameters of any kind
abbrev pub key_algorithm : Part → Result (Part × Part) CertFault
key_algorithm p = do
  x ← of_shape two 0x30 p
  name ← tagged 0x06 x.0
  Ok (name, x.1)

-- the point of a key on the curve P-256
abbrev pub point_under : Part × Part → Part → Option Point
point_under x bits =
    if bytes_eq (body_of x.0.bytes) ec_public_key && bytes_eq x.1.bytes secp256r1
    then point_of (body_of bits.bytes) else None

abbrev pub public_key : Part → Result Point CertFault
public_key p = do
  x ← of_shape two 0x30 p
  y ← both (key_algorithm x.0) (tagged 0x03 x.1)
  or_fault (fault KeyKind p.at) (point_under y.0 y.1)

-- [1] and [2], the unique identifiers in their primitive form, are ignored
abbrev pub after_unique_identifiers : List (Result Part DerFault) → List (Result Part DerFault)
after_unique_identifiers parts = after_optional 0x82 (after_optional 0x81 parts)

-- no part, or one
abbrev pub none_or_one : List (Result Part DerFault) → Option (Option Part)
none_or_one parts = if is_empty parts then Some None else (one parts >>? λ p. Some (Some p))

-- the seven parts that each certificate has, and the extensions, where they are there
pub record Layout : Type 0 where
  pub version : Part
  pub serial : Part
  pub algorithm : Part
  pub issuer : Part
  pub validity : Part
  pub subject : Part
  pub key : Part
  pub extensions : Option Part

-- all of the parts: too few and too many are no layout
abbrev pub layout : List (Result Part DerFault) → Option Layout
layout parts =
    front parts >>? λ a. front a.1 >>? λ b. front b.1 >>? λ c. front c.1 >>? λ d.
    front d.1 >>? λ e. front e.1 >>? λ f. front f.1 >>? λ g.
    none_or_one (after_unique_identifiers g.1) >>? λ last.
    Some (record {
      version = a.0;
      serial = b.0;
      algorithm = c.0;
      issuer = d.0;
      validity = e.0;
      subject = f.0;
      key = g.0;
      extensions = last;
    })

-- nothing, or [3] with the extensions
abbrev pub extensions : Option Part → Result (Option Bool) CertFault
extensions None = Ok None
extensions (Some last) = do
  list ← of_shape one 0xa3 last
  inner ← parts_in 0x30 list
  with_extensions (Ok None) inner

-- what is read of the to-be-signed part
pub record Tbs : Type 0 where
  pub issuer : List ℕ
  pub subject : List ℕ
  pub not_before : ℤ
  pub not_after : ℤ
  pub key : Point
  pub signs_documents : Bool

-- the version and the serial number, which is ignored
abbrev pub numbering : Layout → Result (Unit {0}) CertFault
numbering l = do
  checked ← both (version l.version) (tagged 0x02 l.serial)
  Ok tt

abbrev pub heading : Layout → Result (Unit {0} × Unit {0}) CertFault
heading l = both (numbering l) (algorithm l.algorithm)

abbrev pub names : Layout → Result (Part × Part) CertFault
names l = both (tagged 0x30 l.issuer) (tagged 0x30 l.subject)

abbrev pub values : Layout → Result ((ℤ × ℤ) × (Point × Option Bool)) CertFault
values l = both (validity l.validity) (both (public_key l.key) (extensions l.extensions))

abbrev pub tbs_of : (Part × Part) → (ℤ × ℤ) → Point → Option Bool → Tbs
tbs_of n times key purposes = record {
  issuer = n.0.bytes;
  subject = n.1.bytes;
  not_before = times.0;
  not_after = times.1;
  key = key;
  signs_documents = unwrap_or purposes false;
}

abbrev pub contents : Layout → Result Tbs CertFault
contents l = do
  x ← both (names l) (both (heading l) (values l))
  Ok (tbs_of x.0 x.1.1.0 x.1.1.1.0 x.1.1.1.1)

abbrev pub to_be_signed : Part → Result Tbs CertFault
to_be_signed p = do
  l ← of_shape layout 0x30 p
  contents l
