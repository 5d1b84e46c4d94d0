use Rattle.message_laws.proofs.Strings.{whole-lies}
use Rattle.message_laws.proofs.laws.whole_stands_in_bytes.Goals as goal

pub returns : goal.returns
returns c = whole-lies
