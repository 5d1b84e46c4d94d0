use Rattle.message_laws.proofs.Messages.{signature-lies}
use Rattle.message_laws.proofs.laws.signature_stands_in_bytes.Goals as goal

pub returns : goal.returns
returns c = signature-lies
