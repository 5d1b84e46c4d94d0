use Rattle.std.proofs.Common.{◌≡◌, length}
use Rattle.cert_view.specs.Written.{without_zeros}
use Rattle.cert_view.proofs.elements.without_zeros.Given as goal

-- the bytes that are left decide
abbrev pub invariant-loop-rest : goal.invariant-loop-rest
invariant-loop-rest l = without_zeros l.rest ≡ without_zeros l.fn.bytes

abbrev pub decreases-loop-rest : goal.decreases-loop-rest
decreases-loop-rest l = length l.rest
