-- The response as it is written (ISO/IEC 18013-5, 8.3.2.1.2.2 and 8.3.2.1.2.3): every head as short as it can be, the
-- keys in the order of their tables.
use Rattle.std.specs.Prelude.{ℕ, ◌==◌, if◌then◌else◌, List, [], ◌∷◌, ◌++◌, map, filter, not, Some, None, codes}
use Rattle.mdoc_outside.specs.declared.key_name.KeyName.TheVariants as keys
use Rattle.cbor_view.specs.Shortest.{array_bytes, text_bytes, uint_bytes}
use Rattle.cbor_maps.specs.Writing.{Fields, named_map, encoded_bytes}
use Rattle.cose_msgs.specs.Written.{sign1_bytes, mac0_bytes}
use Rattle.doc_response.specs.declared.device_auth.DeviceAuth.{DeviceAuth}
use Rattle.doc_response.specs.declared.device_auth.DeviceAuth.TheVariants.{Signature, Mac}
use Rattle.doc_response.specs.Answered.{items_map, errors_map, document_error, is_empty, if_any}
use Rattle.doc_response.specs.Draft.{Document, Draft}

-- DeviceAuth: a signature or a code, either detached from its payload (9.1.3.4)
abbrev pub auth_fields : DeviceAuth → Fields
auth_fields (Signature signature) = (keys.DeviceSignature, Some (sign1_bytes None None signature)) ∷ []
auth_fields (Mac tag) = (keys.DeviceMac, Some (mac0_bytes tag)) ∷ []

-- DeviceSigned: no element is signed by the device
unfoldable pub device_signed : DeviceAuth → List ℕ
device_signed auth = named_map ((keys.NameSpaces, Some (encoded_bytes (named_map []))) ∷ (keys.DeviceAuth, Some (named_map (auth_fields auth))) ∷ [])

-- IssuerSigned: the items and the issuer's signature as they are stored
abbrev pub issuer_fields : Document → Fields
issuer_fields document = (keys.NameSpaces, Some (items_map document.answered.items)) ∷ (keys.IssuerAuth, Some document.issuer_auth) ∷ []

abbrev pub document_fields : Document → Fields
document_fields document =
    (keys.DocType, Some (text_bytes document.answered.doc_type))
    ∷ (keys.IssuerSigned, Some (named_map (issuer_fields document)))
    ∷ (keys.DeviceSigned, Some (device_signed document.auth))
    ∷ (keys.Errors, if_any document.answered.missing (errors_map document.answered.missing))
    ∷ []

unfoldable pub document_bytes : Document → List ℕ
document_bytes document = named_map (document_fields document)

-- the documents of which something is released, and the types of those of which nothing is
abbrev pub given : List Document → List Document
given documents = filter (λ (document : Document). not (is_empty document.answered)) documents

abbrev pub empty : List Document → List Document
empty documents = filter (λ (document : Document). is_empty document.answered) documents

abbrev pub types_of : List Document → List (List ℕ)
types_of documents = map (λ (document : Document). document.answered.doc_type) documents

abbrev pub not_given : Draft → List (List ℕ)
not_given draft = types_of (empty draft.documents) ++ draft.nothing

abbrev pub version : List ℕ
version = text_bytes (codes "1.0")

-- of status 0 (OK, table 8), and of another status, which has version and status alone
abbrev pub full_fields : Draft → Fields
full_fields draft =
    (keys.Version, Some version)
    ∷ (keys.Documents, if_any (given draft.documents) (array_bytes (map document_bytes (given draft.documents))))
    ∷ (keys.DocumentErrors, if_any (not_given draft) (array_bytes (map document_error (not_given draft))))
    ∷ (keys.Status, Some (uint_bytes draft.status))
    ∷ []

abbrev pub refusal_fields : ℕ → Fields
refusal_fields status = (keys.Version, Some version) ∷ (keys.Status, Some (uint_bytes status)) ∷ []

-- DeviceResponse
unfoldable pub response_bytes : Draft → List ℕ
response_bytes draft = if draft.status == 0 then named_map (full_fields draft) else named_map (refusal_fields draft.status)
