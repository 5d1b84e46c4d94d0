-- That what the calls put together has a spelling: with what each of them asks for, and what it says of its texts.
use Rattle.std.specs.Prelude.{ℕ, ◌≤◌, List, IsOk}
use Rattle.cbor_view.specs.Reading.{reads, tree_of}
use Rattle.cbor_view.specs.Spelling.{AreBytes}
use Rattle.cbor_view.specs.Tree.{levels}
use Rattle.issuer_items.specs.Item.{item}
use Rattle.doc_response.specs.declared.device_auth.DeviceAuth.{DeviceAuth}
use Rattle.doc_response.specs.Draft.{Draft, and_item, and_missing, with_document, with_last, with_nothing}
use Rattle.doc_response.specs.WrittenReads.{IsText}
use Rattle.response_laws.specs.Writable.{HasSpellings, IsAuth}

-- bytes that are one item of at most 28 levels
pub record IsIssuerAuth (bytes : List ℕ) : Type 0 where
  pub are_bytes : AreBytes bytes
  pub item : IsOk (reads bytes)
  pub nesting : levels (tree_of bytes) ≤ 28

-- bytes that are read as an issuer-signed item
pub record IsRead (raw : List ℕ) : Type 0 where
  pub are_bytes : AreBytes raw
  pub item : IsOk (item raw)

abbrev pub DocumentKeeps : Type 0
DocumentKeeps = (draft : Draft) (doc_type issuer_auth : List ℕ) (auth : DeviceAuth) → HasSpellings draft →
    IsText doc_type → IsIssuerAuth issuer_auth → IsAuth auth → HasSpellings (with_document doc_type issuer_auth auth draft)

abbrev pub ItemKeeps : Type 0
ItemKeeps = (draft : Draft) (ns raw : List ℕ) → HasSpellings draft → IsText ns → IsRead raw → HasSpellings (with_last (and_item ns raw) draft)

abbrev pub MissingKeeps : Type 0
MissingKeeps = (draft : Draft) (ns name : List ℕ) → HasSpellings draft → IsText ns → IsText name → HasSpellings (with_last (and_missing ns name) draft)

abbrev pub NothingKeeps : Type 0
NothingKeeps = (draft : Draft) (doc_type : List ℕ) → HasSpellings draft → IsText doc_type → HasSpellings (with_nothing doc_type draft)
