use Rattle.std.proofs.Common.{◌≡◌, ◌||◌, drop}
use Rattle.verdict_model.specs.Verdict.{is_answered}
use Rattle.verdict_model.specs.declared.named.Named.{Named}
use Rattle.reader_checks.specs.ElementNames.{has_element}
use Rattle.reader_checks.proofs.accepted.AcceptedElements.of.Given as goal

-- the elements so far, and those of the documents that are left, are all
abbrev pub invariant-loop-document : goal.invariant-loop-document
invariant-loop-document l = (wanted : Named) →
    (has_element l.accepted wanted || is_answered (drop l.document-index l.documents) wanted) ≡ is_answered l.documents wanted
