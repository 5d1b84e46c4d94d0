use Rattle.std.proofs.Common.{◌≡◌, ◌||◌, ℕ, List, drop}
use Rattle.std.specs.List.{list_any}
use Rattle.verdict_model.specs.Elements.{is_accepted}
use Rattle.reader_checks.specs.ElementNames.{has_name}
use Rattle.reader_checks.proofs.accepted.add_verdicts.Given as goal

-- the elements so far, and those of the verdicts that are left, are all
abbrev pub invariant-loop-verdict : goal.invariant-loop-verdict
invariant-loop-verdict l = (ns : List ℕ) (name : List ℕ) →
    (has_name l.names ns name || list_any (is_accepted ns name) (drop l.verdict-index l.verdicts)) ≡ (has_name l.fn.names ns name || list_any (is_accepted ns name) l.verdicts)
