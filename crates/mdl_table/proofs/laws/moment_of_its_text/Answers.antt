use Rattle.mdl_table.proofs.MomentLaws.{moment_of-Says, text_of-Says}
use Rattle.mdl_table.proofs.laws.moment_of_its_text.Goals as goal

pub returns : goal.returns
returns c = λ moment text is. moment_of-Says text moment (text_of-Says moment text is)
