use Rattle.std.proofs.Common.{sym}
use Rattle.der_view.proofs.Listing.{body-read}
use Rattle.der_view.proofs.der.Der.body.Goals as goal

pub returns : goal.returns
returns c = sym (body-read c.args.self.now.slice.now c.split.result.0 c.split.result.1.now c.split.ensures.read)
