use Rattle.std.proofs.Common.{◌≡◌, ◌++◌, option_map, option_to_list}
use Rattle.cbor_view.specs.Label.{label_of, values_of, only_of}
use Rattle.cbor_view.specs.Parts.{tree_in, entry_in}
use Rattle.cbor_view.specs.View.{part}
use Rattle.cbor_view.specs.Pairs.{pairs_left}
use Rattle.cbor_view.proofs.view.View.entry.Given as goal

-- what was found, with what is left, tells what the whole tells
abbrev pub invariant-loop-name : goal.invariant-loop-name
invariant-loop-name l =
    (goal.iterator-loop-name).can_next l.name-iterator ×
    (goal.iterator-loop-name).is_finite l.name-iterator ×
    (only_of (option_to_list (option_map part l.found) ++ values_of tree_in (label_of l.key) (pairs_left l.name-iterator)) ≡ entry_in (label_of l.key) (part l.self))
