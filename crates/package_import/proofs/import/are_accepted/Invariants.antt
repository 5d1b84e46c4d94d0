use Rattle.std.proofs.Common.{◌≡◌, drop}
use Rattle.package_import.specs.Import.{are_accepted}
use Rattle.package_import.proofs.import.are_accepted.Given as goal

-- the documents that are left tell what all of them tell
abbrev pub invariant-loop-verdict : goal.invariant-loop-verdict
invariant-loop-verdict l = are_accepted (drop l.verdict-index l.verdicts) ≡ are_accepted l.verdicts
