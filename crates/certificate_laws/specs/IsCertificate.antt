-- Certificates (RFC 5280, 4.1), in the profile of the mobile driving licence: signed with ECDSA and SHA-256, of
-- a key on the curve P-256. Which bytes are a certificate with which fields, as a relation over elements and
-- the lists of their parts, in the standard's order.
use Rattle.std.specs.Prelude.{◌≡◌, ℕ, ◌≤◌, ℤ, List, [], ◌∷◌, ◌++◌, length, Some}
use Rattle.der_view.specs.Element.{element, IsElement}
use Rattle.key_device.specs.declared.point.Point.{Point}
use Rattle.cert_view.specs.Certificate.{Fields}
use Rattle.cert_view.specs.Tbs.{Tbs, ecdsa_with_sha256, ec_public_key, secp256r1}
use Rattle.cert_view.specs.Times.{utc_time, generalized_time}
use Rattle.certificate_laws.specs.Extensions.{MayHaveExtensions}
use Rattle.certificate_laws.specs.MadeOf.{HasTag, IsMadeOf, IsOptional}
use Rattle.certificate_laws.specs.Numbers.{IsNumber}

-- AlgorithmIdentifier ::= SEQUENCE { algorithm OBJECT IDENTIFIER, parameters ANY OPTIONAL }, with the algorithm
-- ECDSA with SHA-256, whatever the parameters (4.1.1.2; RFC 5758, 3.2)
pub record IsEcdsaWithSha256 (bytes : List ℕ) : Type 0 where
  pub parameters : List (List ℕ)
  pub optional : length parameters ≤ 1
  pub whole : IsMadeOf 0x30 (element 0x06 ecdsa_with_sha256 ∷ parameters) bytes

-- Time ::= CHOICE { utcTime UTCTime, generalTime GeneralizedTime } (4.1.2.5), in seconds since 1970
pub data IsTime (bytes : List ℕ) (moment : ℤ) : Type 0 where
  utc : (text : List ℕ) → IsElement bytes 0x17 text → utc_time text ≡ Some moment → IsTime bytes moment
  general : (text : List ℕ) → IsElement bytes 0x18 text → generalized_time text ≡ Some moment → IsTime bytes moment

-- Validity ::= SEQUENCE { notBefore Time, notAfter Time }
pub record IsValidity (bytes : List ℕ) (not_before not_after : ℤ) : Type 0 where
  pub first : List ℕ
  pub last : List ℕ
  pub whole : IsMadeOf 0x30 (first ∷ last ∷ []) bytes
  pub begins : IsTime first not_before
  pub ends : IsTime last not_after

-- SubjectPublicKeyInfo ::= SEQUENCE { algorithm AlgorithmIdentifier, subjectPublicKey BIT STRING }: a key on the
-- curve P-256 (RFC 5480, 2.1.1), its point uncompressed, with no unused bits (2.2)
pub record IsPublicKeyInfo (bytes : List ℕ) (key : Point) : Type 0 where
  pub algorithm : List ℕ
  pub whole : IsMadeOf 0x30 (algorithm ∷ element 0x03 (0x00 ∷ (0x04 ∷ (key.x ++ key.y))) ∷ []) bytes
  pub on_curve : IsMadeOf 0x30 (element 0x06 ec_public_key ∷ secp256r1 ∷ []) algorithm
  pub x_size : length key.x ≡ 32
  pub y_size : length key.y ≡ 32

-- TBSCertificate ::= SEQUENCE { version [0] EXPLICIT Version, serialNumber INTEGER, signature
-- AlgorithmIdentifier, issuer Name, validity Validity, subject Name, subjectPublicKeyInfo SubjectPublicKeyInfo,
-- issuerUniqueID [1] IMPLICIT UniqueIdentifier OPTIONAL, subjectUniqueID [2] IMPLICIT UniqueIdentifier OPTIONAL,
-- extensions [3] EXPLICIT Extensions OPTIONAL } (4.1.2), of the version 3, whose number is 2. A name is a
-- SEQUENCE that isn't looked into, nor are the serial number and the unique identifiers.
pub record IsTbsCertificate (bytes : List ℕ) (tbs : Tbs) : Type 0 where
  pub version : List ℕ
  pub serial_number : List ℕ
  pub signature : List ℕ
  pub validity : List ℕ
  pub subject_public_key_info : List ℕ
  pub issuer_unique_id : List (List ℕ)
  pub subject_unique_id : List (List ℕ)
  pub extensions : List (List ℕ)
  pub whole : IsMadeOf 0x30 (version ∷ serial_number ∷ signature ∷ tbs.issuer ∷ validity ∷ tbs.subject ∷ subject_public_key_info ∷ (issuer_unique_id ++ (subject_unique_id ++ extensions))) bytes
  pub version_3 : IsMadeOf 0xa0 (element 0x02 (2 ∷ []) ∷ []) version
  pub integer : HasTag 0x02 serial_number
  pub algorithm : IsEcdsaWithSha256 signature
  pub issuer_name : HasTag 0x30 tbs.issuer
  pub times : IsValidity validity tbs.not_before tbs.not_after
  pub subject_name : HasTag 0x30 tbs.subject
  pub public_key : IsPublicKeyInfo subject_public_key_info tbs.key
  pub issuer_id : IsOptional (HasTag 0x81) issuer_unique_id
  pub subject_id : IsOptional (HasTag 0x82) subject_unique_id
  pub purposes : MayHaveExtensions extensions tbs.signs_documents

-- signatureValue BIT STRING, which holds Ecdsa-Sig-Value ::= SEQUENCE { r INTEGER, s INTEGER } (RFC 3279, 2.2.3):
-- numbers that are not negative and below 2 ^ 256, each given in 32 bytes
pub record IsSignatureValue (bytes signature : List ℕ) : Type 0 where
  pub pair : List ℕ
  pub r : List ℕ
  pub s : List ℕ
  pub r_bytes : List ℕ
  pub s_bytes : List ℕ
  pub bits : IsElement bytes 0x03 (0x00 ∷ pair)
  pub whole : IsMadeOf 0x30 (element 0x02 r ∷ element 0x02 s ∷ []) pair
  pub r_number : IsNumber r r_bytes
  pub s_number : IsNumber s s_bytes
  pub both : signature ≡ r_bytes ++ s_bytes

-- Certificate ::= SEQUENCE { tbsCertificate TBSCertificate, signatureAlgorithm AlgorithmIdentifier,
-- signatureValue BIT STRING }, of which the first part is what is signed
pub record IsCertificate (bytes : List ℕ) (fields : Fields) : Type 0 where
  pub signature_algorithm : List ℕ
  pub signature_value : List ℕ
  pub whole : IsMadeOf 0x30 (fields.message ∷ signature_algorithm ∷ signature_value ∷ []) bytes
  pub tbs_certificate : IsTbsCertificate fields.message fields.tbs
  pub algorithm : IsEcdsaWithSha256 signature_algorithm
  pub signature : IsSignatureValue signature_value fields.signature

-- The bytes are a certificate.
pub record IsSomeCertificate (bytes : List ℕ) : Type 0 where
  pub fields : Fields
  pub is : IsCertificate bytes fields
