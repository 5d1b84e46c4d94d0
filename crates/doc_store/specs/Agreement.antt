-- Stores that agree: they differ at most in what the items at other places than the given ones say.
use Rattle.std.specs.Prelude.{◌≡◌, ℕ, List, map, Bool, Option, Some, All, filter_map, is_some, option_map}
use Rattle.issuer_items.specs.Item.{Item}
use Rattle.doc_store.specs.Item.{item}
use Rattle.doc_store.specs.Store.{Copy, Document, Store, store}
use Rattle.doc_store.specs.Held.{Place, item_at, place_of}

-- The names of a copy: of each item its namespace, its name and its digest identifier.
pub record ItemName : Type 0 where
  pub ns : List ℕ
  pub name : List ℕ
  pub digest_id : ℕ

abbrev pub name_of_item : List ℕ × List ℕ → Option ItemName
name_of_item stored = option_map (λ (read : Item). record { ns = stored.0; name = read.name; digest_id = read.digest_id }) (item stored.1)

abbrev pub names : Copy → List ItemName
names copy = filter_map name_of_item copy.items

-- A copy and a document, without what their items say beside these names.
pub record CopyOutline : Type 0 where
  pub key : ℕ
  pub used : Bool
  pub issuer_auth : List ℕ
  pub names : List ItemName

pub record DocumentOutline : Type 0 where
  pub doc_type : List ℕ
  pub uses_mac : Bool
  pub copies : List CopyOutline

abbrev pub copy_outline : Copy → CopyOutline
copy_outline copy = record { key = copy.key; used = copy.used; issuer_auth = copy.issuer_auth; names = names copy }

abbrev pub outline : Document → DocumentOutline
outline document = record { doc_type = document.doc_type; uses_mac = document.uses_mac; copies = map copy_outline document.copies }

-- Two stores agree up to these places: equal outlines, and equal items at each of the places.
pub record Agree (one other : Store) (places : List Place) : Type 0 where
  pub outlines : map outline one ≡ map outline other
  pub items : All (λ place. item_at one place ≡ item_at other place) places

-- Two files do: both load, as stores that agree.
pub record FilesAgree (one other : List ℕ) (places : List Place) : Type 0 where
  pub first : Store
  pub second : Store
  pub first_loads : store one ≡ Some first
  pub second_loads : store other ≡ Some second
  pub agree : Agree first second places

-- The law that stores which agree show the same places.
abbrev pub SamePlaces : Type 0
SamePlaces = (one other : Store) (places : List Place) → Agree one other places →
    (doc_type ns name : List ℕ) → place_of one doc_type ns name ≡ place_of other doc_type ns name

-- The law that stores which agree hold an item at the same places, whatever it says.
abbrev pub SamePresence : Type 0
SamePresence = (one other : Store) (places : List Place) → Agree one other places →
    (place : Place) → is_some (item_at one place) ≡ is_some (item_at other place)
