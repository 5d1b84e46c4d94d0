-- The items that are left of an array that need not be whole.
use Rattle.std.specs.Prelude.{List}
use Rattle.cbor_view.specs.declared.partial_items.PartialItems.{PartialItems}
use Rattle.cbor_view.specs.PartialView.{rest_of_file}
use Rattle.cbor_view.specs.PartialItem.{PartialItem, partial_item_at, item_first, until_broken}

abbrev pub partial_items_left : PartialItems → List PartialItem
partial_items_left it = until_broken (partial_item_at it.front.levels) (item_first it.front.levels) it.count (rest_of_file it.front)
