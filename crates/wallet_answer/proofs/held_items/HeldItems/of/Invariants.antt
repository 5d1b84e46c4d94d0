use Rattle.std.proofs.Common.{◌≡◌, List, ℕ}
use Rattle.std.specs.Option.{option_or}
use Rattle.doc_store.specs.CopyItems.{copy_items_left}
use Rattle.doc_store.specs.Held.{held}
use Rattle.doc_store.specs.StoredCopy.{copy_of}
use Rattle.wallet_answer.proofs.FoundItems.{found_in}
use Rattle.wallet_answer.specs.Found.{found_item}
use Rattle.wallet_answer.proofs.held_items.HeldItems.of.Given as goal

-- the items so far, and then those that are left, are all
abbrev pub invariant-loop-ns : goal.invariant-loop-ns
invariant-loop-ns l =
    (goal.iterator-loop-ns).can_next l.ns-iterator ×
    (goal.iterator-loop-ns).is_finite l.ns-iterator ×
    ((ns : List ℕ) (name : List ℕ) → option_or (found_item l.held ns name) (found_in ns name (copy_items_left l.ns-iterator)) ≡ held (copy_of l.copy) ns name)
