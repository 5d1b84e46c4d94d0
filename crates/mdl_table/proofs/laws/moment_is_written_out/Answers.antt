use Rattle.mdl_table.proofs.MomentForm.{Says-moment_of}
use Rattle.mdl_table.proofs.MomentLaws.{moment_of-Says}
use Rattle.mdl_table.proofs.laws.moment_is_written_out.Goals as goal

pub returns : goal.returns
returns c = λ text moment. (Says-moment_of text moment, moment_of-Says text moment)
