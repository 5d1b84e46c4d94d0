-- That an element is refused by the first check that fails (ISO/IEC 18013-5, 9.1.2.4).
use Rattle.std.specs.Prelude.{◌≡◌, ◌↔◌, ◌<◌, ℕ, List, Bool, true, false, Option, Some, None, Result, Ok, Err}
use Rattle.std.specs.List.{list_any}
use Rattle.cbor_view.specs.Parts.{Part}
use Rattle.doc_request.specs.declared.request_draft.RequestDraft.{RequestDraft}
use Rattle.issuer_items.specs.Item.{Item, item}
use Rattle.issuer_items.specs.declared.item_fault.ItemFault.{ItemFault}
use Rattle.mso_digests.specs.Digests.{digest_at}
use Rattle.mso_digests.specs.Object.{Object}
use Rattle.sha2.specs.Sha256.{sha256}
use Rattle.verdict_model.specs.Elements.{element_verdict, is_accepted, is_requested}
use Rattle.verdict_model.specs.declared.element_check.ElementCheck.{ElementCheck}
use Rattle.verdict_model.specs.declared.element_check.ElementCheck.TheVariants as checks
use Rattle.verdict_model.specs.declared.element_verdict.ElementVerdict.{ElementVerdict}

-- A check fails, and none whose place is before its own does.
pub record IsFirst {C : Type 0} (Fails : C → Type 0) (place : C → ℕ) (check : C) : Type 0 where
  pub fails : Fails check
  pub before : (other : C) → place other < place check → Fails other → ⊥

abbrev pub NoneFails : {C : Type 0} → (C → Type 0) → Type 0
NoneFails {C} Fails = (check : C) → Fails check → ⊥

-- the order of the checks
abbrev pub place : ElementCheck → ℕ
place checks.ItemForm = 0
place checks.NoDigest = 1
place (checks.DigestDiffers kept made) = 2
place checks.Repeated = 3
place checks.NotRequested = 4

-- When a check of an item fails: by its digest, the one that the object has at its place, whether an element of its names was
-- accepted before, and whether it was asked for.
abbrev pub Fails : List ℕ → Option (List ℕ) → Bool → Bool → ElementCheck → Type 0
Fails digest at repeated requested checks.ItemForm = ⊥
Fails digest at repeated requested checks.NoDigest = at ≡ None
Fails digest at repeated requested (checks.DigestDiffers kept made) = (at ≡ Some kept) × (made ≡ digest) × (kept ≡ made → ⊥)
Fails digest at repeated requested checks.Repeated = repeated ≡ true
Fails digest at repeated requested checks.NotRequested = requested ≡ false

-- of what an element was read as
abbrev pub FailsOf : RequestDraft → Object → List ElementVerdict → List ℕ → List ℕ → Result Item ItemFault → ElementCheck → Type 0
FailsOf request o before ns raw (Ok it) check =
    Fails (sha256 raw) (digest_at ns it.digest_id o.digests) (list_any (is_accepted ns it.name) before) (is_requested request o.doc_type ns it.name) check
FailsOf request o before ns raw (Err fault) checks.ItemForm = Unit {0}
FailsOf request o before ns raw (Err fault) check = ⊥

abbrev pub ElementFails : RequestDraft → Object → List ElementVerdict → List ℕ × Part → ElementCheck → Type 0
ElementFails request o before element check = FailsOf request o before element.0 element.1.bytes (item element.1.bytes) check

-- A law: an element is refused by a check exactly where it is the first that fails.
abbrev pub AreRefusedByFirst : Type 0
AreRefusedByFirst =
    (request : RequestDraft) (o : Object) (before : List ElementVerdict) (element : List ℕ × Part) (check : ElementCheck)
    → ((element_verdict request o before element).refused ≡ Some check) ↔ IsFirst (ElementFails request o before element) place check

-- A law: an element is accepted exactly where none of its checks fails.
abbrev pub AreAcceptedFailingNone : Type 0
AreAcceptedFailingNone =
    (request : RequestDraft) (o : Object) (before : List ElementVerdict) (element : List ℕ × Part)
    → ((element_verdict request o before element).refused ≡ None) ↔ NoneFails (ElementFails request o before element)
