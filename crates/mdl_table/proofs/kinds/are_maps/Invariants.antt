use Rattle.std.proofs.Common.{◌≡◌}
use Rattle.std.specs.List.{list_all}
use Rattle.cbor_view.specs.Items.{trees_left}
use Rattle.mdl_table.specs.Fitting.{is_map}
use Rattle.mdl_table.proofs.kinds.are_maps.Given as goal

-- the items that are left decide
abbrev pub invariant-loop-item : goal.invariant-loop-item
invariant-loop-item l =
    (goal.iterator-loop-item).can_next l.item-iterator ×
    (goal.iterator-loop-item).is_finite l.item-iterator ×
    (list_all is_map (trees_left l.item-iterator) ≡ list_all is_map (trees_left l.fn.items))
