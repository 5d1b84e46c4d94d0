-- Extensions (RFC 5280, 4.2), of which the extended key usage (4.2.1.12) is read.
use Rattle.std.specs.Prelude.{ℕ, Bool, false, ◌&&◌, if◌then◌else◌, List, [], ◌∷◌, Option, Some, None, Result, Ok, Err}
use Rattle.std.specs.List.{list_all, list_any}
use Rattle.std.specs.Str.{bytes_eq}
use Rattle.mdoc_outside.specs.ResultSteps.{◌>>=◌, or_fault}
use Rattle.mdoc_outside.specs.OptionSteps.{◌>>=◌ as ◌>>?◌}
use Rattle.der_view.specs.declared.der_fault.DerFault.{DerFault}
use Rattle.der_view.specs.Parts.{Part, parts_of}
use Rattle.der_view.specs.Reading.{body_of}
use Rattle.cert_view.specs.declared.cert_check.CertCheck.TheVariants.{Der, Extension}
use Rattle.cert_view.specs.declared.cert_fault.CertFault.{CertFault}
use Rattle.cert_view.specs.Faults.{fault, both}
use Rattle.cert_view.specs.Shapes.{has_tag, all_read, front, at_end}
use Rattle.cert_view.specs.Signatures.{inner_parts}

-- id-ce-extKeyUsage, 2.5.29.37
abbrev pub extended_key_usage : List ℕ
extended_key_usage = 0x55 ∷ 0x1d ∷ 0x25 ∷ []

-- the key purpose of a document signer, 1.0.18013.5.1.2 (ISO/IEC 18013-5, annex B)
abbrev pub document_signer : List ℕ
document_signer = 0x28 ∷ 0x81 ∷ 0x8c ∷ 0x5d ∷ 0x05 ∷ 0x01 ∷ 0x02 ∷ []

abbrev pub is_identifier : Result Part DerFault → Bool
is_identifier (Ok p) = has_tag 0x06 p
is_identifier (Err found) = false

abbrev pub is_document_signer : Result Part DerFault → Bool
is_document_signer (Ok p) = bytes_eq (body_of p.bytes) document_signer
is_document_signer (Err found) = false

-- whether the purposes hold that of a document signer, where they are a SEQUENCE of identifiers
abbrev pub purposes : List ℕ → Option Bool
purposes value = inner_parts 0x30 value >>? λ ids.
    if list_all is_identifier ids then Some (list_any is_document_signer ids) else None

-- without the part in front, where it has that tag
abbrev pub after_optional : ℕ → List (Result Part DerFault) → List (Result Part DerFault)
after_optional tag [] = []
after_optional tag ((Ok p) ∷ ps) = if has_tag tag p then ps else (Ok p) ∷ ps
after_optional tag ((Err found) ∷ ps) = (Err found) ∷ ps

-- an identifier, a BOOLEAN or none, and an OCTET STRING
abbrev pub named_value : List (Result Part DerFault) → Option (Part × Part)
named_value parts =
    front parts >>? λ a. front (after_optional 0x01 a.1) >>? λ b. at_end (a.0, b.0) b.1 >>? λ x.
    if has_tag 0x06 x.0 && has_tag 0x04 x.1 then Some x else None

-- what an extension says of the purposes: nothing, where it is another one
abbrev pub said_purposes : Part × Part → Option (Option Bool)
said_purposes x =
    if bytes_eq (body_of x.0.bytes) extended_key_usage
    then (purposes (body_of x.1.bytes) >>? λ said. Some (Some said)) else Some None

abbrev pub said_by_parts : List (Result Part DerFault) → Option (Option Bool)
said_by_parts parts = named_value parts >>? said_purposes

abbrev pub extension : Part → Result (Option Bool) CertFault
extension p =
    if has_tag 0x30 p
    then (all_read (parts_of p) >>= λ read.
    or_fault (fault Extension p.at) (said_by_parts (parts_of p)))
    else Err (fault Extension p.at)

-- The extended key usage stands once at most.
abbrev pub said_once : Part → Option Bool → Option Bool → Result (Option Bool) CertFault
said_once p (Some before) (Some now) = Err (fault Extension p.at)
said_once p (Some before) None = Ok (Some before)
said_once p None now = Ok now

-- what an extension and those before it say
abbrev pub with_extension : Result (Option Bool) CertFault → Part → Result (Option Bool) CertFault
with_extension before p = both before (extension p) >>= λ x. said_once p x.0 x.1

abbrev pub with_extensions : Result (Option Bool) CertFault → List (Result Part DerFault) → Result (Option Bool) CertFault
with_extensions before [] = before
with_extensions before ((Ok p) ∷ ps) = with_extensions (with_extension before p) ps
with_extensions before ((Err found) ∷ ps) = Err (fault Der found.at)
