use Rattle.std.proofs.Common.{sym}
use Rattle.cbor_view.specs.PartialView.{rest_of_file}
use Rattle.cbor_view.proofs.PartialFaults.{place-is}
use Rattle.cbor_view.proofs.partial_view.PartialView.at.Goals as goal

pub returns : goal.returns
returns c = sym (place-is c.args.self.now.levels (rest_of_file c.args.self.now))
