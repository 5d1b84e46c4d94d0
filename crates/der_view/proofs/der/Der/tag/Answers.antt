use Rattle.std.proofs.Common.{sym}
use Rattle.der_view.proofs.Listing.{tag-read}
use Rattle.der_view.proofs.der.Der.tag.Goals as goal

pub returns : goal.returns
returns c = sym (tag-read c.args.self.now.slice.now c.split.result.0 c.split.result.1.now c.split.ensures.read)
