use Rattle.mdl_table.proofs.DateLaws.{NamesDay-day_of, day_of-NamesDay}
use Rattle.mdl_table.proofs.laws.day_is_written_out.Goals as goal

pub returns : goal.returns
returns c = λ text number. (NamesDay-day_of text number, day_of-NamesDay text number)
