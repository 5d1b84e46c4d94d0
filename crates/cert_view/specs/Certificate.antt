-- Certificates of X.509 (RFC 5280, 4.1) in the profile of the mobile driving licence: what is read of their
-- bytes, or the first check that fails and the first place where it does. An element is looked into where it
-- has its tag and its parts all read.
use Rattle.std.specs.Prelude.{ℕ, List, Result, Ok}
use Rattle.mdoc_outside.specs.ResultSteps.{◌>>=◌, or_fault}
use Rattle.der_view.specs.Parts.{Part}
use Rattle.der_view.specs.Reading.{body_of}
use Rattle.cert_view.specs.declared.cert_check.CertCheck.TheVariants.{Signature}
use Rattle.cert_view.specs.declared.cert_fault.CertFault.{CertFault}
use Rattle.cert_view.specs.Faults.{fault, both}
use Rattle.cert_view.specs.Shapes.{element_of, tagged, three, of_shape}
use Rattle.cert_view.specs.Signatures.{signature_of}
use Rattle.cert_view.specs.Tbs.{Tbs, algorithm, to_be_signed}

pub record Fields : Type 0 where
  pub tbs : Tbs
  -- the bytes of the to-be-signed part
  pub message : List ℕ
  -- r and s, each in 32 bytes
  pub signature : List ℕ

abbrev pub signature : Part → Result (List ℕ) CertFault
signature p = do
  bits ← tagged 0x03 p
  or_fault (fault Signature bits.at) (signature_of (body_of bits.bytes))

-- of the three parts
abbrev pub fields_in : Part × Part × Part → Result Fields CertFault
fields_in x = do
  y ← both (to_be_signed x.0) (both (algorithm x.1) (signature x.2))
  Ok (record { tbs = y.0; message = x.0.bytes; signature = y.1.1 })

unfoldable pub certificate : List ℕ → Result Fields CertFault
certificate bytes = do
  p ← element_of bytes
  x ← of_shape three 0x30 p
  fields_in x
