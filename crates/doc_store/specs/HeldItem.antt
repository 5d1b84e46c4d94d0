-- An item among the stored items of one namespace.
use Rattle.std.specs.Prelude.{ℕ, List, [], map, Bool, Option, unwrap_or, find, option_map}
use Rattle.cbor_view.specs.Parts.{Part, items_in}
use Rattle.doc_store.specs.Held.{is_named, is_item}
use Rattle.doc_store.specs.Item.{item}
use Rattle.doc_store.specs.Store.{spread}

-- whether stored bytes are an item of that name
abbrev pub is_raw : List ℕ → List ℕ → Bool
is_raw name raw = is_named name (item raw)

-- the items of an array, as stored
abbrev pub raws_in : Part → List (List ℕ)
raws_in list = map (λ (part : Part). part.bytes) (unwrap_or (items_in list) [])

abbrev pub no_space : List ℕ × List (List ℕ)
no_space = ([], [])

-- the item of that namespace and name in a namespace, as stored
abbrev pub held_by : List ℕ → List ℕ → List ℕ × List (List ℕ) → Option (List ℕ)
held_by ns name space = option_map (λ (stored : List ℕ × List ℕ). stored.1) (find (is_item ns name) (spread space))
