-- What is read of a request that was written (DeviceRequest; ISO/IEC 18013-5, 8.3.2.1.2.1).
use Rattle.std.specs.Prelude.{◌≡◌, ℕ, ◌+◌, slice_get, List, [], ◌∷◌, filter, flat_map, map, Option, option_map}
use Rattle.cbor_view.specs.Parts.{Part}
use Rattle.cbor_maps.specs.Writing.{encoded_bytes}
use Rattle.doc_request.specs.Asked.{Document, Documents, asked}
use Rattle.doc_request.specs.Written.{is_in, items_map, openers, request_bytes}
use Rattle.doc_request.specs.declared.doc_draft.DocDraft.{DocDraft}
use Rattle.doc_request.specs.declared.wish_draft.WishDraft.{WishDraft}

-- the wishes in the namespace of one of them, and all wishes by their namespaces, in the order in which these appear first
abbrev pub of_space : List WishDraft → WishDraft → List WishDraft
of_space wishes opener = filter (is_in opener.ns) wishes

abbrev pub grouped : List WishDraft → List WishDraft
grouped wishes = flat_map (of_space wishes) (openers [] wishes)

-- A document that is asked for, with its authentication wherever that is.
pub record PlainDocument : Type 0 where
  pub doc_type : List ℕ
  pub items : List ℕ
  pub reader_auth : Option (List ℕ)
  pub wishes : List WishDraft

abbrev pub part_bytes : Part → List ℕ
part_bytes p = p.bytes

abbrev pub plain : Document → PlainDocument
plain document = record { doc_type = document.doc_type; items = document.items; reader_auth = option_map part_bytes document.reader_auth; wishes = document.wishes }

-- a draft with the authentication that was given for it
abbrev pub given : DocDraft → Option (List ℕ) → PlainDocument
given draft auth = record { doc_type = draft.doc_type; items = encoded_bytes (items_map draft); reader_auth = auth; wishes = grouped draft.wishes }

abbrev pub given_from : ℕ → List DocDraft → List (List ℕ) → List PlainDocument
given_from place [] auths = []
given_from place (draft ∷ drafts) auths = given draft (slice_get auths place) ∷ given_from (place + 1) drafts auths

-- The text that is written asks for what was given.
pub record IsReadBack (drafts : List DocDraft) (auths : List (List ℕ)) : Type 0 where
  pub documents : List Document
  pub asked_is : asked (request_bytes drafts auths) ≡ Documents documents
  pub same : map plain documents ≡ given_from 0 drafts auths
