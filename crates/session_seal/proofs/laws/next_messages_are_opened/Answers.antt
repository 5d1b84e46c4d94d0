use Rattle.session_seal.proofs.BothEnds.{request-opened, answer-opened}
use Rattle.session_seal.proofs.laws.next_messages_are_opened.Goals as goal

pub returns-clause-request : goal.returns-clause-request
returns-clause-request c = request-opened

pub returns-clause-answer : goal.returns-clause-answer
returns-clause-answer c = answer-opened
