use Rattle.std.proofs.Common.{◌≡◌, drop}
use Rattle.std.specs.Prelude.{find, not}
use Rattle.issue_spec.specs.SpecChecks.{has_row}
use Rattle.issue_spec.proofs.spec_whole_checks.first_without_row.Given as goal

-- the numbers that are left decide
abbrev pub invariant-loop-number : goal.invariant-loop-number
invariant-loop-number l =
    find (λ number. not (has_row l.fn.elements number)) (drop l.number-index l.numbers)
    ≡ find (λ number. not (has_row l.fn.elements number)) l.fn.numbers
