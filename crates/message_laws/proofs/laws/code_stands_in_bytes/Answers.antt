use Rattle.message_laws.proofs.Messages.{code-lies}
use Rattle.message_laws.proofs.laws.code_stands_in_bytes.Goals as goal

pub returns : goal.returns
returns c = code-lies
