-- What an accepted element rests on.
use Rattle.std.specs.Prelude.{◌≡◌, ◌⊎◌, ℕ, List, true, false, None, Ok}
use Rattle.std.specs.List.{list_any}
use Rattle.cbor_view.specs.Parts.{Part}
use Rattle.doc_request.specs.declared.request_draft.RequestDraft.{RequestDraft}
use Rattle.issuer_items.specs.Item.{Item, item}
use Rattle.mso_digests.specs.MadeFrom.{Lists, Placed, SomeOf}
use Rattle.mso_digests.specs.Object.{Object}
use Rattle.sha2.specs.Sha256.{sha256}
use Rattle.verdict_model.specs.Elements.{element_verdict, is_accepted, is_requested}
use Rattle.verdict_model.specs.declared.element_verdict.ElementVerdict.{ElementVerdict}

-- an item of a namespace, and another one there with the same digest identifier and the same digest
pub record IsItem (ns raw : List ℕ) (placed : Placed) : Type 0 where
  pub namespace : placed.0 ≡ ns
  pub same : placed.1 ≡ raw

pub record Collides (ns raw : List ℕ) (digest_id : ℕ) (placed : Placed) : Type 0 where
  pub it : Item
  pub is_item : item placed.1 ≡ Ok it
  pub namespace : placed.0 ≡ ns
  pub number : it.digest_id ≡ digest_id
  pub differs : placed.1 ≡ raw → ⊥
  pub digest : sha256 placed.1 ≡ sha256 raw

-- what an accepted element says
pub record IsAccepted (ns raw : List ℕ) (items : List Placed) : Type 0 where
  pub it : Item
  pub is_item : item raw ≡ Ok it
  pub signed : SomeOf (IsItem ns raw) items ⊎ SomeOf (Collides ns raw it.digest_id) items

-- A law: whatever list of items the object's digests were made of, an accepted element is one of them, at its
-- namespace, or there is an item that differs from it and has the same digest.
abbrev pub AreAcceptedSigned : Type 0
AreAcceptedSigned =
    (request : RequestDraft) (o : Object) (before : List ElementVerdict) (element : List ℕ × Part) (items : List Placed)
    → Lists o.digests items → (element_verdict request o before element).refused ≡ None
    → IsAccepted element.0 element.1.bytes items

-- A law: an accepted element was asked for, and none of its namespace and name was accepted before it.
pub record WasAsked (request : RequestDraft) (o : Object) (before : List ElementVerdict) (verdict : ElementVerdict) : Type 0 where
  pub requested : is_requested request o.doc_type verdict.ns verdict.name ≡ true
  pub once : list_any (is_accepted verdict.ns verdict.name) before ≡ false

abbrev pub AreAcceptedRequested : Type 0
AreAcceptedRequested =
    (request : RequestDraft) (o : Object) (before : List ElementVerdict) (element : List ℕ × Part)
    → (element_verdict request o before element).refused ≡ None
    → WasAsked request o before (element_verdict request o before element)
