-- The response as it is read (DeviceResponse; ISO/IEC 18013-5, 8.3.2.1.2.2): what an item says, or the first of its
-- faults. The keys of a map may have any order, and keys that its table doesn't name are ignored.
use Rattle.std.specs.Prelude.{ℕ, ◌==◌, Bool, false, ◌&&◌, if◌then◌else◌, List, [], ◌∷◌, map, Option, Some, None, Result, Ok, Err}
use Rattle.std.specs.List.{flat_map}
use Rattle.mdoc_outside.specs.declared.key_name.KeyName.{KeyName}
use Rattle.mdoc_outside.specs.declared.key_name.KeyName.TheVariants as keys
use Rattle.mdoc_outside.specs.ResultSteps.{◌>>=◌, or_fault}
use Rattle.cbor_view.specs.Parts.{Part, cbor, uint_in, text_in, items_in}
use Rattle.cbor_maps.specs.Reading.{field, optional_field, any_in, map_in, encoded_in}
use Rattle.doc_response.specs.declared.response_fault.ResponseFault.{ResponseFault}
use Rattle.doc_response.specs.declared.response_fault.ResponseFault.TheVariants.{Field, Version}
use Rattle.doc_response.specs.Faults.{found, both}
use Rattle.doc_response.specs.ResponseParts.{namespaces_in, are_element_errors, document_errors_in, if_map}

-- A document: its type, the issuer's signature, the items with their namespaces, what the device signed, and the
-- device's authentication, which is a map.
pub record Document : Type 0 where
  pub doc_type : List ℕ
  pub issuer_auth : Part
  pub items : List (List ℕ × Part)
  pub device_namespaces : List ℕ
  pub device_auth : Part

-- A response: its status, its documents, and the errors of document types with their codes.
pub record Response : Type 0 where
  pub status : ℕ
  pub documents : List Document
  pub errors : List (List ℕ × Part)

-- each item of a namespace beside the namespace
abbrev pub spread : List ℕ × List Part → List (List ℕ × Part)
spread space = map (λ (item : Part). (space.0, item)) space.1

abbrev pub spread_all : List (List ℕ × List Part) → List (List ℕ × Part)
spread_all spaces = flat_map spread spaces

abbrev pub all_errors : List (List (List ℕ × Part)) → List (List ℕ × Part)
all_errors errors = flat_map (λ (one : List (List ℕ × Part)). one) errors

abbrev pub pair : {A B : Type 0} → A → B → A × B
pair first second = (first, second)

-- what may be under a key, as what it is to be, or of that form
abbrev pub if_there : {A : Type 0} → KeyName → (Part → Option A) → A → Option Part → Result A ResponseFault
if_there name kind missing None = Ok missing
if_there name kind missing (Some value) = or_fault (Field name) (kind value)

abbrev pub if_of_form : KeyName → (Part → Bool) → Option Part → Result (Unit {0}) ResponseFault
if_of_form name form None = Ok tt
if_of_form name form (Some value) = if form value then Ok tt else Err (Field name)

-- IssuerSigned: the items, and the issuer's signature of any form
pub record IssuerSigned : Type 0 where
  pub items : List (List ℕ × Part)
  pub auth : Part

abbrev pub namespaces : Part → Result (List (List ℕ × List Part)) ResponseFault
namespaces map = found (optional_field keys.NameSpaces any_in map) >>= if_there keys.NameSpaces namespaces_in []

abbrev pub with_auth : List (List ℕ × List Part) → Part → IssuerSigned
with_auth spaces auth = record { items = spread_all spaces; auth = auth }

abbrev pub issuer_signed : Part → Result IssuerSigned ResponseFault
issuer_signed map = both with_auth (namespaces map) (found (field keys.IssuerAuth any_in map))

-- DeviceSigned: the namespaces, and a map for the authentication
pub record DeviceSigned : Type 0 where
  pub namespaces : List ℕ
  pub auth : Part

abbrev pub with_map : List ℕ → Part → DeviceSigned
with_map namespaces auth = record { namespaces = namespaces; auth = auth }

-- the namespaces that the device signed are the bytes of one map (9.1.3.4)
abbrev pub device_namespaces : Part → Result (List ℕ) ResponseFault
device_namespaces map = found (field keys.NameSpaces encoded_in map) >>= λ bytes. or_fault (Field keys.NameSpaces) (if_map bytes (cbor bytes))

abbrev pub device_signed : Part → Result DeviceSigned ResponseFault
device_signed map = both with_map (device_namespaces map) (found (field keys.DeviceAuth map_in map))

-- the document type with what the issuer signed, and what the device signed with the errors, which have no reader
abbrev pub issuer : Part → Result IssuerSigned ResponseFault
issuer map = found (field keys.IssuerSigned map_in map) >>= issuer_signed

abbrev pub issued_document : Part → Result (List ℕ × IssuerSigned) ResponseFault
issued_document map = both pair (found (field keys.DocType text_in map)) (issuer map)

abbrev pub element_errors : Part → Result (Unit {0}) ResponseFault
element_errors map = found (optional_field keys.Errors any_in map) >>= if_of_form keys.Errors are_element_errors

abbrev pub device : Part → Result DeviceSigned ResponseFault
device map = found (field keys.DeviceSigned map_in map) >>= device_signed

abbrev pub authenticated : Part → Result DeviceSigned ResponseFault
authenticated map = both (λ device errors. device) (device map) (element_errors map)

abbrev pub whole_document : List ℕ × IssuerSigned → DeviceSigned → Document
whole_document issued device = record {
  doc_type = issued.0;
  issuer_auth = issued.1.auth;
  items = issued.1.items;
  device_namespaces = device.namespaces;
  device_auth = device.auth;
}

unfoldable pub document : Part → Result Document ResponseFault
document map = both whole_document (issued_document map) (authenticated map)

-- the documents in order
abbrev pub documents_of : List Part → Result (List Document) ResponseFault
documents_of [] = Ok []
documents_of (part ∷ parts) = both (λ document documents. document ∷ documents) (document part) (documents_of parts)

abbrev pub documents : Part → Result (List Document) ResponseFault
documents map = found (optional_field keys.Documents any_in map) >>= if_there keys.Documents items_in [] >>= documents_of

abbrev pub document_errors : Part → Result (List (List ℕ × Part)) ResponseFault
document_errors map = found (optional_field keys.DocumentErrors any_in map) >>= if_there keys.DocumentErrors document_errors_in [] >>= λ errors. Ok (all_errors errors)

-- a version is taken that begins with "1."
abbrev pub is_version : List ℕ → Bool
is_version [] = false
is_version (one ∷ []) = false
is_version (one ∷ (dot ∷ rest)) = (one == 49) && (dot == 46)

abbrev pub of_version : List ℕ × List Document → List (List ℕ × Part) × ℕ → Result Response ResponseFault
of_version first second =
    if is_version first.0 then Ok (record { status = second.1; documents = first.1; errors = second.0 }) else Err Version

-- DeviceResponse
abbrev pub versioned : Part → Result (List ℕ × List Document) ResponseFault
versioned map = both pair (found (field keys.Version text_in map)) (documents map)

abbrev pub outcome : Part → Result (List (List ℕ × Part) × ℕ) ResponseFault
outcome map = both pair (document_errors map) (found (field keys.Status uint_in map))

abbrev pub both_read : Part → Result ((List ℕ × List Document) × (List (List ℕ × Part) × ℕ)) ResponseFault
both_read map = both pair (versioned map) (outcome map)

unfoldable pub response : Part → Result Response ResponseFault
response map = both_read map >>= λ read. of_version read.0 read.1
