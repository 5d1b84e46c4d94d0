use Rattle.std.proofs.Common.{ap}
use Rattle.doc_request.specs.Asked.{asked_in}
use Rattle.doc_request.proofs.laws.text_asks_for_its_item.Goals as goal

pub returns : goal.returns
returns c text item e = ap asked_in e
