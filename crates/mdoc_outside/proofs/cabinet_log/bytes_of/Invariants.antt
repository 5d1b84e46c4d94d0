-- The files that are left give what all of them give.
use Rattle.std.proofs.Common.{◌≡◌, drop}
use Rattle.mdoc_outside.specs.Files.{file_in}
use Rattle.mdoc_outside.proofs.cabinet_log.bytes_of.Given as goal

abbrev pub invariant-loop-file : goal.invariant-loop-file
invariant-loop-file l = file_in (drop l.file-index l.files) l.name ≡ file_in l.files l.name
