-- What contracts see of a partial view.
use Rattle.std.specs.Prelude.{ℕ, Option, option_map}
use Rattle.cbor_view.specs.declared.partial_view.PartialView.{PartialView}
use Rattle.cbor_view.specs.Parts.{Part}
use Rattle.cbor_view.specs.PartialItem.{PartialItem, partial_item_at, item_first}

-- the bytes from its head to the end of the file, at their place, and with the levels that it may have
abbrev pub rest_of_file : PartialView → Part
rest_of_file g = record { at = g.at; bytes = g.rest.now }

abbrev pub with_levels : PartialView → ℕ × Part
with_levels g = (g.levels, rest_of_file g)

abbrev pub partial_item : PartialView → PartialItem
partial_item g = partial_item_at g.levels (rest_of_file g)

abbrev pub partial_pair : PartialView × Option PartialView → PartialItem × Option PartialItem
partial_pair e = (partial_item e.0, option_map partial_item e.1)

-- what follows it, where it is whole
abbrev pub rest_after : PartialView → Option (ℕ × Part)
rest_after g = option_map (λ s. (g.levels, s.1)) (item_first g.levels (rest_of_file g))
