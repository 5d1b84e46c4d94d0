use Rattle.std.proofs.Common.{◌≡◌, ◌||◌, ℕ, List, drop}
use Rattle.std.specs.List.{list_any}
use Rattle.verdict_model.specs.Elements.{is_wish}
use Rattle.reader_checks.specs.ElementNames.{has_name}
use Rattle.reader_checks.proofs.requested.add_wishes.Given as goal

-- the elements so far, and those of the wishes that are left, are all
abbrev pub invariant-loop-wish : goal.invariant-loop-wish
invariant-loop-wish l = (ns : List ℕ) (name : List ℕ) →
    (has_name l.names ns name || list_any (is_wish ns name) (drop l.wish-index l.wishes)) ≡ (has_name l.fn.names ns name || list_any (is_wish ns name) l.wishes)
