-- Stores that agree as far as the holder's rules may release: they differ at most in what the items at other places than
-- the given ones say, and in which elements they hold that no rule approves.
use Rattle.std.specs.Prelude.{◌≡◌, ℕ, List, map, Bool, true, Option, Some, None, All, is_some}
use Rattle.std.specs.List.{list_any}
use Rattle.std.specs.Str.{bytes_eq}
use Rattle.cert_view.specs.Root.{listed}
use Rattle.cert_view.specs.declared.root.Root.{Root}
use Rattle.consent.specs.Rules.{approved}
use Rattle.consent.specs.Wish.{Wanted}
use Rattle.consent.specs.declared.rule.Rule.{Rule}
use Rattle.doc_store.specs.Agreement.{Agree}
use Rattle.doc_store.specs.Held.{Place, document_place, item_at, place_at}
use Rattle.doc_store.specs.Store.{Copy, Document, Store}

-- a copy and a document without their items
pub record CopyFrame : Type 0 where
  pub key : ℕ
  pub used : Bool
  pub issuer_auth : List ℕ

pub record DocumentFrame : Type 0 where
  pub doc_type : List ℕ
  pub uses_mac : Bool
  pub copies : List CopyFrame

abbrev pub copy_frame : Copy → CopyFrame
copy_frame copy = record { key = copy.key; used = copy.used; issuer_auth = copy.issuer_auth }

abbrev pub frame : Document → DocumentFrame
frame document = record { doc_type = document.doc_type; uses_mac = document.uses_mac; copies = map copy_frame document.copies }

-- whether a reader is unknown, or has the name of a trusted root
abbrev pub has_name : List ℕ → Root → Bool
has_name name root = bytes_eq (listed root).name name

abbrev pub is_reader : List Root → Option (List ℕ) → Bool
is_reader readers None = true
is_reader readers (Some name) = list_any (has_name name) readers

-- An element that the rules approve for some reader and for some intent to retain is held in both or in neither.
abbrev pub HoldAlike : Store → Store → List Rule → List Root → Type 0
HoldAlike one other rules readers =
    (wish : Wanted) (reader : Option (List ℕ)) (document copy : ℕ)
    → document_place one wish.doc_type ≡ Some document → is_reader readers reader ≡ true → approved rules reader wish ≡ true
    → is_some (item_at one (place_at document copy wish.ns wish.name)) ≡ is_some (item_at other (place_at document copy wish.ns wish.name))

-- Two stores agree up to these places: equal but for their items, equal items at each of the places, and alike in the
-- elements that the rules approve.
pub record AgreeAllowed (one other : Store) (rules : List Rule) (readers : List Root) (places : List Place) : Type 0 where
  pub frames : map frame one ≡ map frame other
  pub alike : HoldAlike one other rules readers
  pub items : All (λ place. item_at one place ≡ item_at other place) places

-- A law: stores that agree do so as far as any rules may release.
abbrev pub AgreeImplies : Type 0
AgreeImplies =
    (one other : Store) (rules : List Rule) (readers : List Root) (places : List Place)
    → Agree one other places → AgreeAllowed one other rules readers places
