-- That what is read of a certificate is there in the bytes that it was read from.
use Rattle.std.specs.Prelude.{◌≡◌, ℕ, ◌+◌, List, ◌++◌, length, slice_get, Some, Ok}
use Rattle.der_view.specs.Parts.{Part, parts_of}
use Rattle.cert_view.specs.Certificate.{Fields}

-- The second part lies within the first: its bytes are there, after as many as its place says.
pub record LiesIn (all p : Part) : Type 0 where
  pub before : List ℕ
  pub after : List ℕ
  pub whole : all.bytes ≡ before ++ (p.bytes ++ after)
  pub place : p.at ≡ all.at + length before

-- all of the bytes
abbrev pub whole_part : List ℕ → Part
whole_part bytes = record { at = 0; bytes = bytes }

-- What the fields borrow are parts of the certificate, each at its place: what is signed is the first part, and
-- of this the issuer is the fourth and the subject the sixth (RFC 5280, 4.1).
pub record FieldsLie (bytes : List ℕ) (fields : Fields) : Type 0 where
  pub message : Part
  pub issuer : Part
  pub subject : Part
  pub first : slice_get (parts_of (whole_part bytes)) 0 ≡ Some (Ok message)
  pub fourth : slice_get (parts_of message) 3 ≡ Some (Ok issuer)
  pub sixth : slice_get (parts_of message) 5 ≡ Some (Ok subject)
  pub message_bytes : message.bytes ≡ fields.message
  pub issuer_bytes : issuer.bytes ≡ fields.tbs.issuer
  pub subject_bytes : subject.bytes ≡ fields.tbs.subject
  pub message_lies : LiesIn (whole_part bytes) message
  pub issuer_lies : LiesIn (whole_part bytes) issuer
  pub subject_lies : LiesIn (whole_part bytes) subject
