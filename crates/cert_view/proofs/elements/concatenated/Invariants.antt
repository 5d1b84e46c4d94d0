use Rattle.std.proofs.Common.{◌≡◌, ◌++◌, drop}
use Rattle.cert_view.specs.Slices.{slices}
use Rattle.cert_view.specs.Written.{concatenated}
use Rattle.cert_view.proofs.elements.concatenated.Given as goal

-- what was appended, and the parts that are left
abbrev pub invariant-loop-part : goal.invariant-loop-part
invariant-loop-part l = l.bytes.items ++ concatenated (slices (drop l.part-index l.parts)) ≡ concatenated (slices l.parts)
