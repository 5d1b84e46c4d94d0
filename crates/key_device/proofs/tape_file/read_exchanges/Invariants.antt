-- The exchanges read and those that are left are the file's, and each line has taken a byte.
use Rattle.std.proofs.Common.{◌≡◌, ◌+◌, ◌≤◌, length, true}
use Rattle.std.specs.List.{list_all}
use Rattle.key_device.specs.Tape.{is_exchange}
use Rattle.key_device.specs.TapeFile.{exchanges_of, tape_parts, tape_of}
use Rattle.mdoc_outside.proofs.EachStep.{with_front}
use Rattle.key_device.proofs.tape_file.read_exchanges.Given as goal

abbrev pub invariant-loop-line : goal.invariant-loop-line
invariant-loop-line l = record {
  read : with_front l.tape.items (exchanges_of l.number (tape_parts l.left)) ≡ tape_of l.text;
  taken : l.number + length l.left ≤ length l.text + 1;
  exchanges : list_all is_exchange l.tape.items ≡ true;
}

abbrev pub decreases-loop-line : goal.decreases-loop-line
decreases-loop-line l = length l.left
