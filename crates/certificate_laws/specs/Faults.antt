-- All that is wrong with bytes that are to be a certificate (RFC 5280, 4.1), each fault by its check and its
-- place: lists, joined, with no regard to which fault is reported; and which of them is the first.
use Rattle.std.specs.Prelude.{◌≡◌, ℕ, Bool, true, false, if◌then◌else◌, List, [], ◌∷◌, ◌++◌, map, filter, flat_map, drop, Option, Some, None, is_some, Result, Ok, Err, All, Contains}
use Rattle.std.specs.Str.{bytes_eq}
use Rattle.mdoc_outside.specs.OptionSteps.{◌>>=◌}
use Rattle.mdoc_outside.specs.ListSteps.{unless}
use Rattle.der_view.specs.declared.der_fault.DerFault.{DerFault}
use Rattle.der_view.specs.Parts.{Part, der, parts_of}
use Rattle.der_view.specs.Reading.{body_of}
use Rattle.cert_view.specs.declared.cert_check.CertCheck.TheVariants as checks
use Rattle.cert_view.specs.declared.cert_fault.CertFault.{CertFault}
use Rattle.cert_view.specs.Extensions.{extended_key_usage, named_value, said_by_parts}
use Rattle.cert_view.specs.Faults.{fault, is_before}
use Rattle.cert_view.specs.Shapes.{has_tag, one, two, three}
use Rattle.cert_view.specs.Signatures.{signature_of}
use Rattle.cert_view.specs.Tbs.{ecdsa_with_sha256, one_or_two, point_under, Layout, layout}
use Rattle.cert_view.specs.Times.{utc_time, generalized_time}

-- ---- elements and their parts

-- what is looked for where nothing of this is wrong
abbrev pub then_faults : List CertFault → List CertFault → List CertFault
then_faults [] others = others
then_faults (f ∷ fs) others = f ∷ fs

abbrev pub tag_faults : ℕ → Part → List CertFault
tag_faults tag p = unless (has_tag tag p) (fault checks.Shape p.at)

-- the part that does not read, after which no part is known
abbrev pub unread : List (Result Part DerFault) → List CertFault
unread [] = []
unread ((Ok p) ∷ ps) = unread ps
unread ((Err found) ∷ ps) = fault checks.Der found.at ∷ []

-- a fault where there is no value, else what is wrong with it
abbrev pub faults_in : {A : Type 0} → CertFault → (A → List CertFault) → Option A → List CertFault
faults_in f inside None = f ∷ []
faults_in f inside (Some x) = inside x

-- An element of another tag, a part of it that does not read, or another number of parts, be they too few or
-- too many; else what is wrong with the parts.
abbrev pub shape_faults : {A : Type 0} → (List (Result Part DerFault) → Option A) → (A → List CertFault) → ℕ → Part → List CertFault
shape_faults shape inside tag p =
    then_faults (tag_faults tag p) (then_faults (unread (parts_of p)) (faults_in (fault checks.Shape p.at) inside (shape (parts_of p))))

-- ---- the parts of a certificate

abbrev pub number_faults : Part → List CertFault
number_faults p = then_faults (tag_faults 0x02 p) (unless (bytes_eq (body_of p.bytes) (2 ∷ [])) (fault checks.VersionNot3 p.at))

abbrev pub version_faults : Part → List CertFault
version_faults p = shape_faults one number_faults 0xa0 p

-- another algorithm than ECDSA with SHA-256 is a fault of the SEQUENCE
abbrev pub name_faults : ℕ → Part → List CertFault
name_faults at p = then_faults (tag_faults 0x06 p) (unless (bytes_eq (body_of p.bytes) ecdsa_with_sha256) (fault checks.Algorithm at))

abbrev pub algorithm_faults : Part → List CertFault
algorithm_faults p = shape_faults one_or_two (name_faults p.at) 0x30 p

abbrev pub time_faults : Part → List CertFault
time_faults p =
    if has_tag 0x17 p then unless (is_some (utc_time (body_of p.bytes))) (fault checks.Time p.at)
    else if has_tag 0x18 p then unless (is_some (generalized_time (body_of p.bytes))) (fault checks.Time p.at)
    else fault checks.Shape p.at ∷ []

abbrev pub both_times : Part × Part → List CertFault
both_times x = time_faults x.0 ++ time_faults x.1

abbrev pub validity_faults : Part → List CertFault
validity_faults p = shape_faults two both_times 0x30 p

abbrev pub first_name : Part × Part → List CertFault
first_name x = tag_faults 0x06 x.0

abbrev pub key_algorithm_faults : Part → List CertFault
key_algorithm_faults p = shape_faults two first_name 0x30 p

-- whether an algorithm and a BIT STRING are a point of the curve P-256
abbrev pub is_point : Part × Part → Bool
is_point x = is_some (two (parts_of x.0) >>= λ y. point_under y x.1)

abbrev pub point_faults : ℕ → Part × Part → List CertFault
point_faults at x = then_faults (key_algorithm_faults x.0 ++ tag_faults 0x03 x.1) (unless (is_point x) (fault checks.KeyKind at))

abbrev pub key_faults : Part → List CertFault
key_faults p = shape_faults two (point_faults p.at) 0x30 p

abbrev pub signature_faults : Part → List CertFault
signature_faults p = then_faults (tag_faults 0x03 p) (unless (is_some (signature_of (body_of p.bytes))) (fault checks.Signature p.at))

-- ---- extensions

-- One out of its form, or an extended key usage out of its own; a part of it that does not read.
abbrev pub extension_faults : Part → List CertFault
extension_faults p =
    then_faults (unless (has_tag 0x30 p) (fault checks.Extension p.at))
    (then_faults (unread (parts_of p)) (unless (is_some (said_by_parts (parts_of p))) (fault checks.Extension p.at)))

abbrev pub has_usage_name : Option (Part × Part) → Bool
has_usage_name None = false
has_usage_name (Some x) = bytes_eq (body_of x.0.bytes) extended_key_usage

-- whether an extension is the extended key usage, in its form or out of it
abbrev pub is_usage : Part → Bool
is_usage p = has_usage_name (named_value (parts_of p))

abbrev pub extension_at : Part → CertFault
extension_at p = fault checks.Extension p.at

-- each extended key usage after the first
abbrev pub further_usages : List Part → List CertFault
further_usages extensions = map extension_at (drop 1 (filter is_usage extensions))

abbrev pub list_faults : List Part → List CertFault
list_faults extensions = flat_map extension_faults extensions ++ further_usages extensions

-- the parts that read
abbrev pub read_parts : List (Result Part DerFault) → List Part
read_parts [] = []
read_parts ((Ok p) ∷ ps) = p ∷ read_parts ps
read_parts ((Err found) ∷ ps) = read_parts ps

abbrev pub as_list : List (Result Part DerFault) → Option (List Part)
as_list ps = Some (read_parts ps)

abbrev pub in_list : Part → List CertFault
in_list p = shape_faults as_list list_faults 0x30 p

abbrev pub tagged_faults : Part → List CertFault
tagged_faults p = shape_faults one in_list 0xa3 p

abbrev pub extensions_faults : Option Part → List CertFault
extensions_faults None = []
extensions_faults (Some last) = tagged_faults last

-- ---- the whole

abbrev pub layout_faults : Layout → List CertFault
layout_faults l =
    version_faults l.version ++ tag_faults 0x02 l.serial ++ algorithm_faults l.algorithm ++ tag_faults 0x30 l.issuer
    ++ validity_faults l.validity ++ tag_faults 0x30 l.subject ++ key_faults l.key
    ++ extensions_faults l.extensions

abbrev pub tbs_faults : Part → List CertFault
tbs_faults p = shape_faults layout layout_faults 0x30 p

abbrev pub three_faults : Part × Part × Part → List CertFault
three_faults x = tbs_faults x.0 ++ algorithm_faults x.1 ++ signature_faults x.2

abbrev pub element_faults : Result Part DerFault → List CertFault
element_faults (Ok p) = shape_faults three three_faults 0x30 p
element_faults (Err found) = fault checks.Der found.at ∷ []

unfoldable pub certificate_faults : List ℕ → List CertFault
certificate_faults bytes = element_faults (der bytes)

-- ---- the first of them

-- It is one of them, and none is before it, by the order of checks and then by place.
pub record IsFirst (f : CertFault) (fs : List CertFault) : Type 0 where
  pub among : Contains fs f
  pub least : All (λ g. is_before g f ≡ false) fs
