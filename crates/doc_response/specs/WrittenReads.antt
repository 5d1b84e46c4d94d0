-- What is read of a response that was written.
use Rattle.std.specs.Prelude.{ℕ, ◌≡◌, ◌<◌, ◌^◌, List, [], length, map, Some, IsUtf8}
use Rattle.std.specs.List.{AllByRecursion, flat_map}
use Rattle.cbor_view.specs.Parts.{Part}
use Rattle.cbor_maps.specs.WrittenReads.{SpellsItem}
use Rattle.doc_response.specs.Answered.{grouped}
use Rattle.doc_response.specs.Response.{Response, spread_all}
use Rattle.doc_response.specs.ResponseParts.{namespaces_in}

-- a status without documents and errors
abbrev pub status_alone : ℕ → Response
status_alone status = record { status = status; documents = []; errors = [] }

-- an item beside its namespace, without its place
abbrev pub plain_part : List ℕ × Part → List ℕ × List ℕ
plain_part entry = (entry.0, entry.1.bytes)

-- items by their namespaces, in the order in which these appear first
abbrev pub spread_group : List ℕ × List (List ℕ) → List (List ℕ × List ℕ)
spread_group group = map (λ (raw : List ℕ). (group.0, raw)) group.1

abbrev pub regrouped : List (List ℕ × List ℕ) → List (List ℕ × List ℕ)
regrouped items = flat_map spread_group (grouped items)

-- what can be written as an item and as a text: one item of few levels, and less than 2 ^ 32 bytes of UTF-8
pub record IsText (text : List ℕ) : Type 0 where
  pub short : length text < 2 ^ 32
  pub utf8 : IsUtf8 text

abbrev pub IsWritableItem : List ℕ × List ℕ → Type 0
IsWritableItem item = IsText item.0 × SpellsItem 25 item.1

pub record AreWritable (items : List (List ℕ × List ℕ)) : Type 0 where
  pub few : length items < 2 ^ 32
  pub each : AllByRecursion IsWritableItem items

-- The bytes are read as a map of namespaces, whose items are these by their namespaces.
pub record ReadsItems (value : Part) (items : List (List ℕ × List ℕ)) : Type 0 where
  pub namespaces : List (List ℕ × List Part)
  pub is : namespaces_in value ≡ Some namespaces
  pub same : map plain_part (spread_all namespaces) ≡ regrouped items
