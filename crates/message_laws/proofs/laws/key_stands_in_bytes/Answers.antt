use Rattle.message_laws.proofs.Keys.{key-lies}
use Rattle.message_laws.proofs.laws.key_stands_in_bytes.Goals as goal

pub returns : goal.returns
returns c = key-lies
