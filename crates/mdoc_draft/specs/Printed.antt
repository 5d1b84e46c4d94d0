-- What the commands print, line by line.
use Rattle.std.specs.Prelude.{ℕ, List, ◌++◌, codes}
use Rattle.hex.specs.Hex.{encode_lower}
use Rattle.mdoc_print.specs.Printed.{line}

-- The line of `draft`: the core in lower-case hexadecimal digits.
abbrev pub core_line : List ℕ → List ℕ
core_line core = line (codes "core " ++ encode_lower core)
