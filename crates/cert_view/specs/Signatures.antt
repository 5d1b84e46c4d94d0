-- The signature of a certificate: the pair of numbers of ECDSA (RFC 3279, 2.2.3).
use Rattle.std.specs.Prelude.{ℕ, ◌==◌, if◌then◌else◌, List, [], ◌∷◌, ◌++◌, Option, Some, None, Result, Ok, Err}
use Rattle.mdoc_outside.specs.OptionSteps.{◌>>=◌}
use Rattle.der_view.specs.declared.der_fault.DerFault.{DerFault}
use Rattle.der_view.specs.Parts.{Part, der, parts_of}
use Rattle.der_view.specs.Reading.{body_of}
use Rattle.cert_view.specs.Integers.{number_of}
use Rattle.cert_view.specs.Shapes.{has_tag, two}

-- the parts of the one element of that tag in bytes of their own
abbrev pub parts_where : ℕ → Result Part DerFault → Option (List (Result Part DerFault))
parts_where tag (Ok p) = if has_tag tag p then Some (parts_of p) else None
parts_where tag (Err found) = None

abbrev pub inner_parts : ℕ → List ℕ → Option (List (Result Part DerFault))
inner_parts tag bytes = parts_where tag (der bytes)

-- the 32 bytes of an INTEGER
abbrev pub integer : Part → Option (List ℕ)
integer p = if has_tag 0x02 p then number_of (body_of p.bytes) else None

-- r and then s, of a SEQUENCE of two INTEGERs
abbrev pub pair_of : List ℕ → Option (List ℕ)
pair_of bytes = do
  parts ← inner_parts 0x30 bytes
  both ← two parts
  r ← integer both.0
  s ← integer both.1
  Some (r ++ s)

-- by the body of a BIT STRING, with no unused bits
abbrev pub signature_of : List ℕ → Option (List ℕ)
signature_of [] = None
signature_of (unused ∷ bytes) = if unused == 0 then pair_of bytes else None
