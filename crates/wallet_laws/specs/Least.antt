-- How much the agreement of two stores asks, as far as a wallet's answer tells.
use Rattle.std.specs.Prelude.{◌≡◌, ◌↔◌, ℕ, List, map, Option}
use Rattle.doc_request.specs.Asked.{Document}
use Rattle.doc_store.specs.Agreement.{Agree, outline}
use Rattle.doc_store.specs.Store.{Store}
use Rattle.wallet_model.specs.Answer.{places_of}
use Rattle.wallet_model.specs.Released.{selections, stored_place}
use Rattle.wallet_model.specs.Setup.{Setup, with_store}
use Rattle.wallet_laws.specs.Exactly.{chosen, items_of}

-- The law that agreement is as weak as it can be: stores of equal outlines agree up to the places that are released
-- exactly where equal items are chosen of them.
abbrev pub AgreementIsLeast : Type 0
AgreementIsLeast =
    (W : Setup) (other : Store) (documents : List Document) (readers : List (Option (List ℕ))) → map outline W.store ≡ map outline other
    → Agree W.store other (map (stored_place W) (places_of (selections W documents readers)))
    ↔ (items_of (chosen W documents readers) ≡ items_of (chosen (with_store W other) documents readers))
