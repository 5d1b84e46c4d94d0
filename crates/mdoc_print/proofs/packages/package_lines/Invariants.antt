use Rattle.std.proofs.Common.{◌≡◌, ◌++◌, drop}
use Rattle.mdoc_print.specs.PackageLines.{package_lines}
use Rattle.mdoc_print.proofs.packages.package_lines.Given as goal

-- the lines so far, and those of the documents that are left, are all
abbrev pub invariant-loop-verdict : goal.invariant-loop-verdict
invariant-loop-verdict l = l.lines.items ++ package_lines (drop l.verdict-index l.verdicts) ≡ package_lines l.verdicts
