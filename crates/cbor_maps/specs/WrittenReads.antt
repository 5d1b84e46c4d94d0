-- That a map which was written is read as its fields.
use Rattle.std.specs.Prelude.{ℤ, ℕ, ◌≤◌, if◌then◌else◌, List, [], ◌∷◌, bytes_eq, Option, Result, Ok, Err, option_map}
use Rattle.mdoc_outside.specs.declared.key_name.KeyName.{KeyName}
use Rattle.mdoc_outside.specs.KeyName.{key_text}
use Rattle.cbor_view.specs.declared.doubled.Doubled.{Doubled}
use Rattle.cbor_view.specs.Parts.{Part}
use Rattle.cbor_view.specs.Spelling.{Spells}
use Rattle.cbor_view.specs.Tree.{Tree, levels}
use Rattle.cbor_maps.specs.Labels.{IsLabel}

-- the bytes spell one item, of so many levels at most
pub record SpellsItem (most : ℕ) (bytes : List ℕ) : Type 0 where
  pub item : Tree
  pub spells : Spells bytes item
  pub nesting : levels item ≤ most

-- each value may be in a map: one item of at most 31 levels
abbrev pub AreItems : List (KeyName × List ℕ) → Type 0
AreItems [] = Unit {0}
AreItems (field ∷ fields) = SpellsItem 31 field.1 × AreItems fields

-- the same under numbers that have a spelling
abbrev pub AreLabelled : List (ℤ × List ℕ) → Type 0
AreLabelled [] = Unit {0}
AreLabelled (field ∷ fields) = IsLabel field.0 × SpellsItem 31 field.1 × AreLabelled fields

-- the values of a name
abbrev pub values_named : KeyName → List (KeyName × List ℕ) → List (List ℕ)
values_named name [] = []
values_named name (field ∷ fields) = if bytes_eq (key_text field.0) (key_text name) then field.1 ∷ values_named name fields else values_named name fields

-- what is under a key, by its bytes alone
abbrev pub bytes_under : Result (Option Part) Doubled → Result (Option (List ℕ)) Doubled
bytes_under (Ok found) = Ok (option_map (λ (value : Part). value.bytes) found)
bytes_under (Err twice) = Err twice
