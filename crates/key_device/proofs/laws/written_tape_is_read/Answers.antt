use Rattle.key_device.proofs.WrittenTapes.{is_read_as_written, answers_as_told}
use Rattle.key_device.proofs.laws.written_tape_is_read.Goals as goal

pub returns-clause-read : goal.returns-clause-read
returns-clause-read c = is_read_as_written

pub returns-clause-answers : goal.returns-clause-answers
returns-clause-answers c = answers_as_told
