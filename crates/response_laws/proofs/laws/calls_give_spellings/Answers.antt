use Rattle.response_laws.proofs.CallsKeep.{document-keeps, item-keeps, missing-keeps, nothing-keeps}
use Rattle.response_laws.proofs.laws.calls_give_spellings.Goals as goal

pub returns-clause-document : goal.returns-clause-document
returns-clause-document c = document-keeps

pub returns-clause-item : goal.returns-clause-item
returns-clause-item c = item-keeps

pub returns-clause-missing : goal.returns-clause-missing
returns-clause-missing c = missing-keeps

pub returns-clause-nothing : goal.returns-clause-nothing
returns-clause-nothing c = nothing-keeps
