-- That what `draft` prints of a document that is asked for is what a wallet releases which shows the same copies (ISO/IEC
-- 18013-5, 8.3.2.1.2.2).
use Rattle.std.specs.Prelude.{◌≡◌, ℕ, List, [], ◌∷◌, map, Option, Some, None, IfSome}
use Rattle.doc_request.specs.Asked.{Document}
use Rattle.doc_request.specs.declared.doc_draft.DocDraft.{DocDraft}
use Rattle.doc_store.specs.Held.{chosen}
use Rattle.mdoc_draft.specs.Core.{answered}
use Rattle.mdoc_draft.specs.Released.{released_places}
use Rattle.wallet_model.specs.Released.{ReleasedDocument, choice, stored_place}
use Rattle.wallet_model.specs.Setup.{Setup}
use Rattle.wallet_model.specs.declared.released_at.ReleasedAt.{ReleasedAt}

-- the wallet shows of each document the copy that the program chooses
abbrev pub ShowsChosen : Setup → Type 0
ShowsChosen W = W.choice ≡ map chosen W.store

-- the items that are released of a document, and their places; none where nothing is
abbrev pub items_released : Option ReleasedDocument → List (List ℕ × List ℕ)
items_released None = []
items_released (Some found) = found.answered.items

abbrev pub places_released : Option ReleasedDocument → List ReleasedAt
places_released None = []
places_released (Some found) = found.places

-- The answer of the core is that of the wallet: the same items in order, the same elements that are missing, and the same
-- places in the store.
pub record IsAnsweredAlike (W : Setup) (reader : Option (List ℕ)) (draft : DocDraft) (document : Document) : Type 0 where
  pub items : (answered W.rules reader W.store draft).items ≡ items_released (choice W reader document)
  pub missing : IfSome (choice W reader document) (λ found. (answered W.rules reader W.store draft).missing ≡ found.answered.missing)
  pub places : released_places W.rules reader W.store (draft ∷ []) ≡ map (stored_place W) (places_released (choice W reader document))

-- The law: so it is for each document of a wishes file and of a request that ask for the same.
abbrev pub AreAnsweredAlike : Type 0
AreAnsweredAlike =
    (W : Setup) (reader : Option (List ℕ)) (draft : DocDraft) (document : Document)
    → ShowsChosen W → draft.doc_type ≡ document.doc_type → draft.wishes ≡ document.wishes → IsAnsweredAlike W reader draft document
