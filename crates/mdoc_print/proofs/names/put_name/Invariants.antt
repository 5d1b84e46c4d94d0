use Rattle.std.proofs.Common.{◌≡◌, ◌++◌, take}
use Rattle.std.specs.Prelude.{flat_map}
use Rattle.mdoc_print.specs.Printed.{byte_text}
use Rattle.mdoc_print.proofs.names.put_name.Given as goal

-- the bytes so far
abbrev pub invariant-loop-byte : goal.invariant-loop-byte
invariant-loop-byte l = l.line.items ≡ l.initial.line.items ++ flat_map byte_text (take l.byte-index l.name)
