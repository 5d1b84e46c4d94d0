-- The fault of lines stays whatever lines follow.
use Rattle.std.proofs.Common.{◌≡◌, Bool, List, [], ◌∷◌, ◌++◌, Result, Ok, Err, refl}
use Rattle.mdoc_outside.specs.Lines.{Line}
use Rattle.mdoc_outside.specs.ResultSteps.{◌>>=◌}
use Rattle.issue_spec.specs.SpecFile.{with_line, with_lines}
use Rattle.issue_spec.specs.SpecLine.{spec_line}
use Rattle.issue_spec.specs.SpecSoFar.{SoFar}
use Rattle.issue_spec.specs.declared.spec_fault.SpecFault.{SpecFault}

step : (r : Result SoFar SpecFault) (f g : SoFar → Result SoFar SpecFault) (fault : SpecFault) →
    ((next : SoFar) → f next ≡ Err fault → g next ≡ Err fault) → (r >>= f) ≡ Err fault → (r >>= g) ≡ Err fault
step (Ok next) f g fault all e = all next e
step (Err other) f g fault all e = e

pub stays : (new : Bool) (so_far : SoFar) (lines more : List Line) (fault : SpecFault) → with_lines new so_far lines ≡ Err fault → with_lines new so_far (lines ++ more) ≡ Err fault
stays new so_far [] more fault e = absurd cc
stays new so_far (line ∷ lines) more fault e =
    step (with_line new line.number (spec_line line.bytes) so_far) (λ next. with_lines new next lines) (λ next. with_lines new next (lines ++ more)) fault
    (λ next. stays new next lines more fault) e
