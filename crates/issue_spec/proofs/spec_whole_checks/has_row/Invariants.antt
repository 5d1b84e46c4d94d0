use Rattle.std.proofs.Common.{◌≡◌, drop}
use Rattle.issue_spec.specs.SpecChecks.{has_row}
use Rattle.issue_spec.proofs.spec_whole_checks.has_row.Given as goal

-- the elements that are left decide
abbrev pub invariant-loop-element : goal.invariant-loop-element
invariant-loop-element l = has_row (drop l.element-index l.elements) l.number ≡ has_row l.fn.elements l.number
