-- That the released places are exactly those of the items of a response (ISO/IEC 18013-5, 8.3.2.1.2.2): one for each item,
-- in order, and no other.
use Rattle.std.specs.Prelude.{◌≡◌, ℕ, List, [], map, Option, Some, slice_get}
use Rattle.std.specs.List.{flat_map}
use Rattle.mdoc_outside.specs.OptionSteps.{◌>>=◌}
use Rattle.doc_request.specs.Asked.{Document, Documents, asked}
use Rattle.doc_response.specs.Answered.{Answered}
use Rattle.doc_response.specs.Draft as draft
use Rattle.doc_response.specs.Written.{response_bytes}
use Rattle.doc_store.specs.Held.{item_at}
use Rattle.key_device.specs.Plan.{over}
use Rattle.key_device.specs.declared.exchange.Exchange.{Exchange}
use Rattle.session_seal.specs.Wallet.{WalletSession}
use Rattle.wallet_model.specs.Answer.{Answer, answer, status_response}
use Rattle.wallet_model.specs.Laws.{AreReaders}
use Rattle.wallet_model.specs.Released.{ReleasedDocument, choices, selections, stored_place}
use Rattle.wallet_model.specs.Setup.{Setup}
use Rattle.wallet_model.specs.declared.released_at.ReleasedAt.{ReleasedAt}

-- An item as it is returned: the type of its document, its namespace, and the item as it is stored.
pub record ReturnedItem : Type 0 where
  pub doc_type : List ℕ
  pub ns : List ℕ
  pub raw : List ℕ

abbrev pub returned_item : List ℕ → List ℕ × List ℕ → ReturnedItem
returned_item doc_type item = record { doc_type = doc_type; ns = item.0; raw = item.1 }

-- the items of documents, in order
abbrev pub items_in : Answered → List ReturnedItem
items_in document = map (returned_item document.doc_type) document.items

abbrev pub items_of : List Answered → List ReturnedItem
items_of documents = flat_map items_in documents

-- the item that the store holds at a released place
abbrev pub item_there : Setup → ReleasedAt → Option ReturnedItem
item_there W place = do
  document ← slice_get W.store place.document
  raw ← item_at W.store (stored_place W place)
  Some (returned_item document.doc_type (place.ns, raw))

-- The places are those of the items: as many, and at each place stands the item that has the same number.
abbrev pub ArePlacesOf : Setup → List ReturnedItem → List ReleasedAt → Type 0
ArePlacesOf W items places = map (item_there W) places ≡ map Some items

-- what is chosen of the store for documents that are asked for, by the readers that are known for them
abbrev pub chosen : Setup → List Document → List (Option (List ℕ)) → List Answered
chosen W documents readers = map (λ (choice : ReleasedDocument). choice.answered) (choices (selections W documents readers))

-- a response of these documents
pub record IsOf (documents : List Answered) (response : List ℕ) : Type 0 where
  pub content : draft.Draft
  pub written : response ≡ response_bytes content
  pub are : map (λ (document : draft.Document). document.answered) content.documents ≡ documents

-- What an answer gives and releases. The text asks for documents, whose readers are known, and the places are those of
-- the items that are chosen. The response is of these; or it is a general error (status 10) in their stead, where it
-- would be too long, which may depend on them, or the device failed. Or nothing is chosen and nothing is released, and
-- the response is a status alone.
pub data IsExact (W : Setup) (session : WalletSession) (text : List ℕ) (tape : List Exchange) (given : Answer) : Type 0 where
  Returned : (documents : List Document) (readers : List (Option (List ℕ)))
      → asked text ≡ Documents documents → AreReaders W session documents tape readers
      → ArePlacesOf W (items_of (chosen W documents readers)) given.places → IsOf (chosen W documents readers) given.text
      → IsExact W session text tape given
  Withheld : (documents : List Document) (readers : List (Option (List ℕ)))
      → asked text ≡ Documents documents → AreReaders W session documents tape readers
      → ArePlacesOf W (items_of (chosen W documents readers)) given.places → given.text ≡ status_response 10
      → IsExact W session text tape given
  Nothing : (status : ℕ) → given.places ≡ [] → given.text ≡ status_response status → IsExact W session text tape given

-- The law: whatever the device tells, an answer releases exactly the items that it returns, or that it withholds.
abbrev pub IsReleasedExactly : Type 0
IsReleasedExactly =
    (W : Setup) (session : WalletSession) (text : List ℕ) (tape : List Exchange) (given : Answer)
    → (over (answer W session text) tape).outcome ≡ Some given → IsExact W session text tape given
