-- Drafts of responses that have a spelling (ISO/IEC 18013-5, 8.3.2.1.2.2).
use Rattle.std.specs.Prelude.{ℕ, ◌≡◌, ◌<◌, ◌^◌, List, length}
use Rattle.std.specs.List.{AllByRecursion}
use Rattle.cbor_maps.specs.WrittenReads.{SpellsItem}
use Rattle.doc_response.specs.declared.device_auth.DeviceAuth.{DeviceAuth}
use Rattle.doc_response.specs.declared.device_auth.DeviceAuth.TheVariants.{Signature, Mac}
use Rattle.doc_response.specs.Draft.{Document, Draft}
use Rattle.doc_response.specs.Written.{not_given}
use Rattle.doc_response.specs.WrittenReads.{IsText, IsWritableItem}

-- an element's namespace and identifier
abbrev pub IsName : List ℕ × List ℕ → Type 0
IsName element = IsText element.0 × IsText element.1

-- a signature with ES256, and a code of HMAC 256/256
abbrev pub IsAuth : DeviceAuth → Type 0
IsAuth (Signature signature) = length signature ≡ 64
IsAuth (Mac tag) = length tag ≡ 32

-- a document of which each piece has a spelling; the issuer's signature is one item of at most 28 levels
pub record IsDocument (document : Document) : Type 0 where
  pub doc_type : IsText document.answered.doc_type
  pub items : AllByRecursion IsWritableItem document.answered.items
  pub missing : AllByRecursion IsName document.answered.missing
  pub issuer_auth : SpellsItem 28 document.issuer_auth
  pub auth : IsAuth document.auth

pub record HasSpellings (draft : Draft) : Type 0 where
  pub documents : AllByRecursion IsDocument draft.documents
  pub nothing : AllByRecursion IsText draft.nothing

-- fewer pieces of each kind than a list has a spelling of
pub record HasFew (document : Document) : Type 0 where
  pub items : length document.answered.items < 2 ^ 32
  pub missing : length document.answered.missing < 2 ^ 32

pub record IsSmall (draft : Draft) : Type 0 where
  pub each : AllByRecursion HasFew draft.documents
  pub documents : length draft.documents < 2 ^ 32
  pub errors : length (not_given draft) < 2 ^ 32
