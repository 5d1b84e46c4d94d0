-- The issuer-signed item that a stored item is (ISO/IEC 18013-5, 8.3.2.1.2.2).
use Rattle.std.specs.Prelude.{ℕ, List, Option, Some, None, Result, Ok, Err}
use Rattle.cbor_view.specs.declared.cbor_fault.CborFault.{CborFault}
use Rattle.cbor_view.specs.Parts.{Part}
use Rattle.issuer_items.specs.Item as items
use Rattle.issuer_items.specs.declared.item_fault.ItemFault.{ItemFault}

-- an item of CBOR, where the bytes spell one
abbrev pub if_spelled : Result Part CborFault → Option Part
if_spelled (Ok part) = Some part
if_spelled (Err fault) = None

abbrev pub if_item : Result items.Item ItemFault → Option items.Item
if_item (Ok read) = Some read
if_item (Err fault) = None

-- the issuer-signed item, where the bytes spell one
unfoldable pub item : List ℕ → Option items.Item
item raw = if_item (items.item raw)
