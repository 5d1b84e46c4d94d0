use Rattle.std.proofs.Common.{◌≡◌, ◌++◌, length, map}
use Rattle.std.specs.Vec.Iter.{into_iter_items, into_iter_len}
use Rattle.wallet_answer.specs.Places.{places_in}
use Rattle.wallet_answer.specs.ChoiceView.{choice_seen}
use Rattle.wallet_answer.proofs.places.released_places.Given as goal

-- the places so far, and those of the documents that are left
abbrev pub invariant-loop-choice : goal.invariant-loop-choice
invariant-loop-choice l =
    (l.places.items ++ places_in (map choice_seen (into_iter_items l.choice-iterator)) ≡ places_in (map choice_seen l.fn.choices.items)) ×
    (into_iter_len l.choice-iterator ≡ length (into_iter_items l.choice-iterator))
