-- The pairs that are left of a map that need not be whole.
use Rattle.std.specs.Prelude.{List, Option}
use Rattle.cbor_view.specs.declared.partial_pairs.PartialPairs.{PartialPairs}
use Rattle.cbor_view.specs.PartialView.{rest_of_file}
use Rattle.cbor_view.specs.PartialItem.{PartialItem, partial_pair_at, pair_first, until_broken}

abbrev pub partial_pairs_left : PartialPairs → List (PartialItem × Option PartialItem)
partial_pairs_left it = until_broken (partial_pair_at it.front.levels) (pair_first it.front.levels) it.count (rest_of_file it.front)
