-- What a wallet can't tell apart, and what it releases.
use Rattle.std.specs.Prelude.{◌≡◌, ℕ, List, [], map, true, Option, Some, Result, Ok, Err, slice_get}
use Rattle.std.specs.List.{AllByRecursion}
use Rattle.consent.specs.Rules.{approved}
use Rattle.doc_request.specs.Asked.{Document, Documents, asked}
use Rattle.doc_request.specs.declared.wish_draft.WishDraft.{WishDraft}
use Rattle.doc_response.specs.Draft as draft
use Rattle.doc_response.specs.Written.{response_bytes}
use Rattle.doc_store.specs.Agreement.{Agree}
use Rattle.doc_store.specs.Held.{Place, held}
use Rattle.doc_store.specs.Store.{Store}
use Rattle.key_device.specs.Plan.{over, over_all}
use Rattle.key_device.specs.declared.device_fault.DeviceFault.{DeviceFault}
use Rattle.key_device.specs.declared.exchange.Exchange.{Exchange}
use Rattle.mdoc_outside.specs.declared.fragment.Fragment.{Fragment}
use Rattle.session_seal.specs.Wallet.{WalletSession}
use Rattle.wallet_model.specs.Agreement.{AgreeAllowed}
use Rattle.wallet_model.specs.Answer.{Answer, answer, known_readers}
use Rattle.wallet_model.specs.Released.{ShownCopy, shown_copy, stored_place, wish_for}
use Rattle.wallet_model.specs.Setup.{Setup, with_store}
use Rattle.wallet_model.specs.Wallet.{Run, released_in, wallet}

-- ---- two stores

-- the places in the store of what was released, where the wallet started
abbrev pub places_released : Setup → Result Run DeviceFault → List Place
places_released W (Ok run) = map (stored_place W) (released_in run)
places_released W (Err fault) = []

-- A law: whatever fragments come, and whatever the device tells and the dice deal, two wallets whose stores agree up to
-- the places that were released ask the same questions, and announce, reply and release the same, and end alike.
abbrev pub AreStoresAlike : Type 0
AreStoresAlike =
    (W : Setup) (other : Store) (came : List Fragment) (tape : List Exchange) (words : List ℕ) (result : Result Run DeviceFault)
    → (over_all (wallet W came) tape [] words).outcome ≡ Some result → Agree W.store other (places_released W result)
    → over_all (wallet (with_store W other) came) tape [] words ≡ over_all (wallet W came) tape [] words

-- A law: the same where an element that no rule approves is held in one of the stores alone. So what is denied can't be
-- told from what is absent.
abbrev pub IsDeniedAbsent : Type 0
IsDeniedAbsent =
    (W : Setup) (other : Store) (came : List Fragment) (tape : List Exchange) (words : List ℕ) (result : Result Run DeviceFault)
    → (over_all (wallet W came) tape [] words).outcome ≡ Some result → AgreeAllowed W.store other W.rules W.readers (places_released W result)
    → over_all (wallet (with_store W other) came) tape [] words ≡ over_all (wallet W came) tape [] words

-- ---- released only

-- the readers that the plan came to over a tape
abbrev pub AreReaders : Setup → WalletSession → List Document → List Exchange → List (Option (List ℕ)) → Type 0
AreReaders W session documents tape readers = (over (known_readers W session.transcript documents) tape).outcome ≡ Some (Ok readers)

-- An item of a response is the item, held by the copy that is shown, of a wish of a document that the text asks for,
-- which the rules allow to the reader that is known for that document.
pub record IsReleased (W : Setup) (session : WalletSession) (text : List ℕ) (tape : List Exchange) (doc_type : List ℕ) (item : List ℕ × List ℕ) : Type 0 where
  pub documents : List Document
  pub asks : asked text ≡ Documents documents
  pub readers : List (Option (List ℕ))
  pub are_known : AreReaders W session documents tape readers
  pub place : ℕ
  pub document : Document
  pub is_asked : slice_get documents place ≡ Some document
  pub of_type : document.doc_type ≡ doc_type
  pub reader : Option (List ℕ)
  pub is_reader : slice_get readers place ≡ Some reader
  pub wish : WishDraft
  pub wish_place : ℕ
  pub is_wish : slice_get document.wishes wish_place ≡ Some wish
  pub is_allowed : approved W.rules reader (wish_for document.doc_type wish) ≡ true
  pub shown : ShownCopy
  pub is_shown : shown_copy W document.doc_type ≡ Some shown
  pub is_held : held shown.copy wish.ns wish.name ≡ Some item.1
  pub of_namespace : wish.ns ≡ item.0

abbrev pub AreReleased : Setup → WalletSession → List ℕ → List Exchange → draft.Document → Type 0
AreReleased W session text tape document =
    AllByRecursion (λ (item : List ℕ × List ℕ). IsReleased W session text tape document.answered.doc_type item) document.answered.items

-- what a response says: a draft, each of whose items is released
pub record IsResponse (W : Setup) (session : WalletSession) (text : List ℕ) (tape : List Exchange) (response : List ℕ) : Type 0 where
  pub content : draft.Draft
  pub is_written : response ≡ response_bytes content
  pub are_released : AllByRecursion (AreReleased W session text tape) content.documents

-- A law: whatever the device tells, nothing but released items are in a response.
abbrev pub IsReleasedOnly : Type 0
IsReleasedOnly =
    (W : Setup) (session : WalletSession) (text : List ℕ) (tape : List Exchange) (given : Answer)
    → (over (answer W session text) tape).outcome ≡ Some given → IsResponse W session text tape given.text
