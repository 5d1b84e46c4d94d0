-- That the items of a copy stand in the bytes that they were read from.
use Rattle.std.specs.Prelude.{ℕ, List}
use Rattle.std.specs.List.{AllByRecursion}
use Rattle.cbor_maps.specs.Contents.{IsPart}

-- an item as it is stored and the name of its namespace are parts of the bytes
pub record IsItemPart (bytes : List ℕ) (stored : List ℕ × List ℕ) : Type 0 where
  pub ns : IsPart bytes stored.0
  pub raw : IsPart bytes stored.1

abbrev pub AreItemParts : List ℕ → List (List ℕ × List ℕ) → Type 0
AreItemParts bytes items = AllByRecursion (IsItemPart bytes) items
