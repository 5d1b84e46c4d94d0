use Rattle.std.proofs.Common.{◌≡◌, ◌+◌, ◌*◌}
use Rattle.cbor_view.specs.Tree.{levels_of_all, levels_of_pairs}
use Rattle.cbor_view.specs.Reading.{items_at, pairs_at, item_at, levels_left, past}
use Rattle.cbor_view.proofs.walk.+walk.Given as goal

abbrev pub decreases-walk : goal.decreases-walk
decreases-walk l = 3 * l.most + 1

abbrev pub decreases-walk_after : goal.decreases-walk_after
decreases-walk_after l = 3 * l.most

abbrev pub decreases-walk_items : goal.decreases-walk_items
decreases-walk_items l = 3 * l.most + 2

abbrev pub decreases-walk_pairs : goal.decreases-walk_pairs
decreases-walk_pairs l = 3 * l.most + 2

-- what is left to walk over gives what the whole gives
abbrev pub invariant-walk_items-loop-left : goal.invariant-walk_items-loop-left
invariant-walk_items-loop-left l = record {
  gives : past (items_at (item_at l.most) l.left l.rest) ≡ past (items_at (item_at l.most) l.count l.bytes);
  levels : levels_left levels_of_all l.most l.fewest (items_at (item_at l.most) l.left l.rest) ≡ levels_left levels_of_all l.most l.fn.fewest (items_at (item_at l.most) l.count l.bytes);
}

abbrev pub decreases-walk_items-loop-left : goal.decreases-walk_items-loop-left
decreases-walk_items-loop-left l = l.left

abbrev pub invariant-walk_pairs-loop-left : goal.invariant-walk_pairs-loop-left
invariant-walk_pairs-loop-left l = record {
  gives : past (pairs_at (item_at l.most) l.left l.rest) ≡ past (pairs_at (item_at l.most) l.count l.bytes);
  levels : levels_left levels_of_pairs l.most l.fewest (pairs_at (item_at l.most) l.left l.rest) ≡ levels_left levels_of_pairs l.most l.fn.fewest (pairs_at (item_at l.most) l.count l.bytes);
}

abbrev pub decreases-walk_pairs-loop-left : goal.decreases-walk_pairs-loop-left
decreases-walk_pairs-loop-left l = l.left
