-- What contracts see of an item that was read.
use Rattle.std.specs.Prelude.{ℕ, List}
use Rattle.cbor_view.specs.View.{part}
use Rattle.cbor_maps.specs.Contents.{IsPart}
use Rattle.issuer_items.specs.declared.item.Item as read
use Rattle.issuer_items.specs.Item.{Item}

-- what it says, and the bytes that it was read from
abbrev pub fields : read.Item → Item
fields it = record { digest_id = it.digest_id; random = it.random.now; name = it.name.now; value = (part it.value).bytes }

abbrev pub raw_of : read.Item → List ℕ
raw_of it = it.raw.now

-- salt, identifier and value are parts of the bytes
pub record AreParts (raw : List ℕ) (it : Item) : Type 0 where
  pub random : IsPart raw it.random
  pub name : IsPart raw it.name
  pub value : IsPart raw it.value
