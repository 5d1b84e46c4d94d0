use Rattle.std.proofs.Common.{drop}
use Rattle.mso_digests.specs.Written.{AreTexts}
use Rattle.mso_digests.specs.WrittenFacts.{AllHaveSpelling}
use Rattle.mso_digests.proofs.grouped.have_spelling.Given as goal

-- where those that are left have a spelling, all have
abbrev pub invariant-loop-digest : goal.invariant-loop-digest
invariant-loop-digest l =
    AreTexts (drop l.digest-index l.digests) ×
    (AllHaveSpelling (drop l.digest-index l.digests) → AllHaveSpelling l.digests)
