-- What contracts see of the lines that are left.
use Rattle.std.specs.Prelude.{◌+◌, List}
use Rattle.mdoc_outside.specs.Lines.{Line, lines_from}
use Rattle.mdoc_outside.specs.declared.file_lines.FileLines.{FileLines}

abbrev pub lines_left : FileLines → List Line
lines_left left = lines_from (left.consumed + 1) left.rest.now
