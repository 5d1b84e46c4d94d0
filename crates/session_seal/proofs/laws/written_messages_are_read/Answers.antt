use Rattle.session_seal.proofs.DataWritten.{data-read}
use Rattle.session_seal.proofs.EstablishmentWritten.{establishment-read}
use Rattle.session_seal.proofs.laws.written_messages_are_read.Goals as goal

pub returns-clause-session_data : goal.returns-clause-session_data
returns-clause-session_data c = data-read

pub returns-clause-establishment : goal.returns-clause-establishment
returns-clause-establishment c = establishment-read
