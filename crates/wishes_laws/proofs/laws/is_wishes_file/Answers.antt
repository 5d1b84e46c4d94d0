use Rattle.wishes_laws.proofs.Files.{wishes-file}
use Rattle.wishes_laws.proofs.laws.is_wishes_file.Goals as goal

pub returns : goal.returns
returns c = wishes-file
