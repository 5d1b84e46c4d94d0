-- What is read of a response that was written of status 0 (ISO/IEC 18013-5, 8.3.2.1.2.2).
use Rattle.std.specs.Prelude.{ℕ, ◌≡◌, List, [], ◌∷◌, map, Some, None, Ok}
use Rattle.mdoc_outside.specs.declared.key_name.KeyName.TheVariants as keys
use Rattle.cbor_view.specs.Parts.{Part, cbor}
use Rattle.cbor_view.specs.Shortest.{uint_bytes}
use Rattle.cbor_maps.specs.Reading.{any_in, optional_field}
use Rattle.cbor_maps.specs.Writing.{named_map}
use Rattle.cose_msgs.specs.Message.{mac0, sign1}
use Rattle.cose_msgs.specs.Written.{es256, hmac256}
use Rattle.doc_response.specs.declared.device_auth.DeviceAuth.{DeviceAuth}
use Rattle.doc_response.specs.declared.device_auth.DeviceAuth.TheVariants.{Signature, Mac}
use Rattle.doc_response.specs.Draft as drafts
use Rattle.doc_response.specs.Response.{Document, Response, response}
use Rattle.doc_response.specs.Written.{given, not_given}
use Rattle.doc_response.specs.WrittenReads.{plain_part, regrouped}

-- The map has a signature alone, which is that one with ES256 of a detached payload, or a code alone.
pub record HasSignature (map : Part) (signature : List ℕ) : Type 0 where
  pub item : Part
  pub is : optional_field keys.DeviceSignature any_in map ≡ Ok (Some item)
  pub alone : optional_field keys.DeviceMac any_in map ≡ Ok None
  pub signed : sign1 item ≡ Ok (record { protected = es256; chain = None; payload = None; signature = signature })

pub record HasMac (map : Part) (tag : List ℕ) : Type 0 where
  pub item : Part
  pub is : optional_field keys.DeviceMac any_in map ≡ Ok (Some item)
  pub alone : optional_field keys.DeviceSignature any_in map ≡ Ok None
  pub authenticated : mac0 item ≡ Ok (record { protected = hmac256; payload = None; tag = tag })

abbrev pub HasAuth : Part → DeviceAuth → Type 0
HasAuth map (Signature signature) = HasSignature map signature
HasAuth map (Mac tag) = HasMac map tag

-- A document is read with the type, the issuer's signature and the authentication that were given, its items by their
-- namespaces in the order in which these appear first, and no element that the device signed.
pub record ReadsDocument (read : Document) (document : drafts.Document) : Type 0 where
  pub doc_type : read.doc_type ≡ document.answered.doc_type
  pub issuer_auth : read.issuer_auth.bytes ≡ document.issuer_auth
  pub items : map plain_part read.items ≡ regrouped document.answered.items
  pub device_namespaces : read.device_namespaces ≡ named_map []
  pub auth : HasAuth read.device_auth document.auth

-- each of them, in order
abbrev pub ReadsEach : List Document → List drafts.Document → Type 0
ReadsEach [] [] = Unit {0}
ReadsEach (read ∷ reads) (document ∷ documents) = ReadsDocument read document × ReadsEach reads documents
ReadsEach reads documents = ⊥

-- a type of which nothing is returned, with error code 0
abbrev pub not_returned : List ℕ → List ℕ × List ℕ
not_returned doc_type = (doc_type, uint_bytes 0)

-- The bytes are one item, read as a response of that status, of the documents of which something is released, and
-- of the errors of all other types, in their order.
pub record ReadsBack (bytes : List ℕ) (draft : drafts.Draft) : Type 0 where
  pub one : cbor bytes ≡ Ok (record { at = 0; bytes = bytes })
  pub read : Response
  pub is : response (record { at = 0; bytes = bytes }) ≡ Ok read
  pub status : read.status ≡ draft.status
  pub documents : ReadsEach read.documents (given draft.documents)
  pub errors : map plain_part read.errors ≡ map not_returned (not_given draft)
