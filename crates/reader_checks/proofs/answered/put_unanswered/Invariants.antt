use Rattle.std.proofs.Common.{◌≡◌, ◌++◌, drop, not, map, filter}
use Rattle.verdict_model.specs.Verdict.{wanted_of}
use Rattle.reader_checks.specs.ElementNames.{has_element}
use Rattle.reader_checks.proofs.answered.put_unanswered.Given as goal

-- what is there so far, and what is unanswered of the wishes that are left, are all
abbrev pub invariant-loop-wish : goal.invariant-loop-wish
invariant-loop-wish l =
    l.missing.items ++ filter (λ element. not (has_element l.answered element)) (map (wanted_of l.asked.doc_type) (drop l.wish-index l.asked.wishes))
    ≡ l.fn.missing.items ++ filter (λ element. not (has_element l.answered element)) (map (wanted_of l.asked.doc_type) l.asked.wishes)
