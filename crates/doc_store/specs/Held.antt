-- What a store holds: a document by its type, the copy of it to show, an item by its place.
use Rattle.std.specs.Prelude.{◌≡◌, ℕ, List, Bool, false, not, ◌&&◌, Option, Some, None, unwrap_or, slice_get, position, find, option_map}
use Rattle.std.specs.Str.{bytes_eq}
use Rattle.mdoc_outside.specs.OptionSteps.{◌>>=◌}
use Rattle.issuer_items.specs.Item.{Item}
use Rattle.doc_store.specs.Item.{item}
use Rattle.doc_store.specs.Store.{Copy, Document, Store}

-- whether an item has that name
abbrev pub is_named : List ℕ → Option Item → Bool
is_named name None = false
is_named name (Some read) = bytes_eq read.name name

-- whether a stored item is the one of that namespace and name
abbrev pub is_item : List ℕ → List ℕ → List ℕ × List ℕ → Bool
is_item ns name stored = bytes_eq stored.0 ns && is_named name (item stored.1)

-- The item of that namespace and name in a copy, as stored.
abbrev pub held : Copy → List ℕ → List ℕ → Option (List ℕ)
held copy ns name = option_map (λ (stored : List ℕ × List ℕ). stored.1) (find (is_item ns name) copy.items)

-- whether a document is of that type
abbrev pub is_of_type : List ℕ → Document → Bool
is_of_type doc_type document = bytes_eq document.doc_type doc_type

-- The document of that type, and its place.
abbrev pub document_found : Store → List ℕ → Option Document
document_found documents doc_type = find (is_of_type doc_type) documents

abbrev pub document_place : Store → List ℕ → Option ℕ
document_place documents doc_type = position (is_of_type doc_type) documents

-- A document of that type, at the place of that type.
pub record IsAt (documents : Store) (doc_type : List ℕ) (document : Document) : Type 0 where
  pub at : ℕ
  pub place : document_place documents doc_type ≡ Some at
  pub there : slice_get documents at ≡ Some document

-- whether a copy is unused
abbrev pub is_unused : Copy → Bool
is_unused copy = not copy.used

-- The place of the copy to show: the first unused one, or the first where all are used.
abbrev pub chosen : Document → ℕ
chosen document = unwrap_or (position is_unused document.copies) 0

-- A place of an item: its document, the copy of it, and the item's namespace and name.
pub record Place : Type 0 where
  pub document : ℕ
  pub copy : ℕ
  pub ns : List ℕ
  pub name : List ℕ

abbrev pub place_at : ℕ → ℕ → List ℕ → List ℕ → Place
place_at document copy ns name = record { document = document; copy = copy; ns = ns; name = name }

-- The item at a place, as stored.
abbrev pub item_at : Store → Place → Option (List ℕ)
item_at documents place = do
  document ← slice_get documents place.document
  copy ← slice_get document.copies place.copy
  held copy place.ns place.name

-- The place of an item of a document type, in the copy to show.
abbrev pub place_of : Store → List ℕ → List ℕ → List ℕ → Option Place
place_of documents doc_type ns name = do
  at ← document_place documents doc_type
  document ← slice_get documents at
  Some (place_at at (chosen document) ns name)
