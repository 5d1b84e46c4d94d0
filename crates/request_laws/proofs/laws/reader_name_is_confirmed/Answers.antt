use Rattle.request_laws.proofs.NamesConfirmed.{names-confirmed}
use Rattle.request_laws.proofs.laws.reader_name_is_confirmed.Goals as goal

pub returns : goal.returns
returns c = names-confirmed
