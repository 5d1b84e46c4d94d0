use Rattle.std.proofs.Common.{◌≡◌, ◌++◌, drop, not, filter}
use Rattle.std.specs.List.{flat_map}
use Rattle.verdict_model.specs.Verdict.{is_answered, wanted_in}
use Rattle.reader_checks.proofs.answered.unanswered.Given as goal

-- what is there so far, and what is unanswered of the documents that are left, are all
abbrev pub invariant-loop-asked : goal.invariant-loop-asked
invariant-loop-asked l =
    l.missing.items ++ filter (λ element. not (is_answered l.documents element)) (flat_map wanted_in (drop l.asked-index l.request.documents))
    ≡ filter (λ element. not (is_answered l.documents element)) (flat_map wanted_in l.request.documents)
