use Rattle.std.proofs.Common.{◌≡◌, ◌++◌, drop}
use Rattle.mdoc_print.specs.PackageLines.{refusal_lines}
use Rattle.mdoc_print.proofs.packages.refusal_lines.Given as goal

-- the lines so far, and those of the documents that are left, are all
abbrev pub invariant-loop-verdict : goal.invariant-loop-verdict
invariant-loop-verdict l = l.lines.items ++ refusal_lines (drop l.verdict-index l.verdicts) ≡ refusal_lines l.verdicts
