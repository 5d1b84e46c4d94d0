-- What a response is made of (ISO/IEC 18013-5, 8.3.2.1.2.2).
use Rattle.std.specs.Prelude.{ℕ, List, [], ◌∷◌, ◌++◌, Bool, false, ◌&&◌}
use Rattle.std.specs.List.{list_any}
use Rattle.std.specs.Str.{bytes_eq}
use Rattle.doc_response.specs.declared.device_auth.DeviceAuth.{DeviceAuth}
use Rattle.doc_response.specs.Answered.{Answered}

-- A document of which items are released, with the issuer's signature as it is stored and the device's
-- authentication.
pub record Document : Type 0 where
  pub answered : Answered
  pub issuer_auth : List ℕ
  pub auth : DeviceAuth

-- The status, the documents in the order asked, and the types of the documents of which nothing is returned.
pub record Draft : Type 0 where
  pub status : ℕ
  pub documents : List Document
  pub nothing : List (List ℕ)

-- nothing yet
abbrev pub empty_draft : ℕ → Draft
empty_draft status = record { status = status; documents = []; nothing = [] }

abbrev pub with_document : List ℕ → List ℕ → DeviceAuth → Draft → Draft
with_document doc_type issuer_auth auth draft = record {
  status = draft.status;
  documents = draft.documents ++ (record { answered = record { doc_type = doc_type; items = []; missing = [] }; issuer_auth = issuer_auth; auth = auth }) ∷ [];
  nothing = draft.nothing;
}

abbrev pub with_nothing : List ℕ → Draft → Draft
with_nothing doc_type draft = record { status = draft.status; documents = draft.documents; nothing = draft.nothing ++ doc_type ∷ [] }

-- an item, or an element that isn't returned, more
abbrev pub and_item : List ℕ → List ℕ → Answered → Answered
and_item ns raw document = record { doc_type = document.doc_type; items = document.items ++ (ns, raw) ∷ []; missing = document.missing }

abbrev pub and_missing : List ℕ → List ℕ → Answered → Answered
and_missing ns name document = record { doc_type = document.doc_type; items = document.items; missing = document.missing ++ (ns, name) ∷ [] }

-- the last document changed
abbrev pub last_changed : (Answered → Answered) → List Document → List Document
last_changed change [] = []
last_changed change (document ∷ []) = (record { answered = change document.answered; issuer_auth = document.issuer_auth; auth = document.auth }) ∷ []
last_changed change (document ∷ (next ∷ documents)) = document ∷ last_changed change (next ∷ documents)

abbrev pub with_last : (Answered → Answered) → Draft → Draft
with_last change draft = record { status = draft.status; documents = last_changed change draft.documents; nothing = draft.nothing }

-- whether the last document lacks that element already
abbrev pub is_element : List ℕ → List ℕ → List ℕ × List ℕ → Bool
is_element ns name element = bytes_eq element.0 ns && bytes_eq element.1 name

abbrev pub has_missing : List ℕ → List ℕ → List Document → Bool
has_missing ns name [] = false
has_missing ns name (document ∷ []) = list_any (is_element ns name) document.answered.missing
has_missing ns name (document ∷ (next ∷ documents)) = has_missing ns name (next ∷ documents)
