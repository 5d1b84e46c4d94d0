-- A response that is put together document by document.
use Rattle.std.specs.Prelude.{◌≡◌, ◌≤◌, ◌<◌, ℕ, List, [], ◌∷◌, ◌++◌, take, length, get_or, false, IsOk}
use Rattle.std.specs.List.{AllByRecursion, list_any}
use Rattle.cbor_view.specs.Reading.{reads, tree_of}
use Rattle.cbor_view.specs.Tree.{levels}
use Rattle.doc_response.specs.Draft.{Document, Draft, is_element}
use Rattle.doc_response.specs.Written.{response_bytes}
use Rattle.doc_response.specs.declared.device_auth.DeviceAuth.{DeviceAuth}
use Rattle.issuer_items.specs.Item.{item}
use Rattle.wallet_model.specs.Answer.{document_with, within_limit}
use Rattle.wallet_model.specs.Released.{ReleasedDocument}

-- a document with these items and these missing elements
abbrev pub part_of_choice : ReleasedDocument → DeviceAuth → List (List ℕ × List ℕ) → List (List ℕ × List ℕ) → Document
part_of_choice choice auth items missing = record {
  answered = record { doc_type = choice.answered.doc_type; items = items; missing = missing };
  issuer_auth = choice.issuer_auth;
  auth = auth;
}

-- a draft with a document more, and with types more of which nothing is released
abbrev pub with_part : Document → Draft → Draft
with_part document draft = record { status = draft.status; documents = draft.documents ++ document ∷ []; nothing = draft.nothing }

abbrev pub with_documents : List Document → Draft → Draft
with_documents documents draft = record { status = draft.status; documents = draft.documents ++ documents; nothing = draft.nothing }

abbrev pub with_types : List (List ℕ) → Draft → Draft
with_types types draft = record { status = draft.status; documents = draft.documents; nothing = draft.nothing ++ types }

-- the documents of choices, by the device's authentications
abbrev pub documents_with : List ReleasedDocument → List DeviceAuth → List Document
documents_with (choice ∷ choices) (auth ∷ auths) = document_with choice auth ∷ documents_with choices auths
documents_with choices auths = []

-- the response of these, within the limit of its length
abbrev pub response_of : List ReleasedDocument → List DeviceAuth → List (List ℕ) → List ℕ
response_of choices auths nothing = within_limit (response_bytes (record { status = 0; documents = documents_with choices auths; nothing = nothing }))

-- no element is there twice: none of those before it is the same
abbrev pub AreFresh : List (List ℕ × List ℕ) → Type 0
AreFresh missing = (i : ℕ) (d : List ℕ × List ℕ) → i < length missing → list_any (is_element (get_or missing i d).0 (get_or missing i d).1) (take i missing) ≡ false

abbrev pub IsIssued : List ℕ × List ℕ → Type 0
IsIssued stored = IsOk (item stored.1)

-- What can be written of a choice: the issuer's signature is one item, nested no deeper than it may be in a response, each
-- item is an issuer-signed item, and no missing element is named twice.
pub record IsSound (choice : ReleasedDocument) : Type 0 where
  pub reads : IsOk (reads choice.issuer_auth)
  pub nesting : levels (tree_of choice.issuer_auth) ≤ 28
  pub items : AllByRecursion IsIssued choice.answered.items
  pub missing : AreFresh choice.answered.missing
