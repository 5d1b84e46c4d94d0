use Rattle.std.proofs.Common.{◌≡◌, ◌≤◌, length, map}
use Rattle.mdoc_outside.specs.FileLines.{lines_left}
use Rattle.cert_view.specs.Root.{listed}
use Rattle.cert_view.specs.Roots.{roots_of}
use Rattle.cert_view.proofs.EachRoot.{read_on}
use Rattle.cert_view.proofs.roots.Roots.read.Given as goal

-- the roots so far and the lines that are left give what all lines do
abbrev pub invariant-loop-line : goal.invariant-loop-line
invariant-loop-line l =
    (goal.iterator-loop-line).can_next l.line-iterator ×
    (goal.iterator-loop-line).is_finite l.line-iterator ×
    (length l.roots.items ≤ 64) ×
    (read_on (map listed l.roots.items) (lines_left l.line-iterator) ≡ roots_of l.text)
