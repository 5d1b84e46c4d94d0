-- What contracts see of a line.
use Rattle.mdoc_outside.specs.Lines.{Line}
use Rattle.mdoc_outside.specs.declared.file_line.FileLine.{FileLine}

abbrev pub line : FileLine → Line
line l = record { number = l.number; bytes = l.bytes.now }
