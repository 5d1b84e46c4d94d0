use Rattle.cbor_view.proofs.Listing.{opened-items}
use Rattle.cbor_view.proofs.Places.{body-lies, parts-lie}
use Rattle.cbor_view.specs.View.{part}
use Rattle.cbor_view.proofs.view.View.items.Goals as goal

pub returns-in-Array-default-clause-exact : goal.returns-in-Array-default-clause-exact
returns-in-Array-default-clause-exact c = opened-items c.split_head.result.0 c.split_head.result.1.now _ c.in-Array-default.count _ c.in-Array-default.is-0 c.split_head.ensures.opens

pub returns-in-Array-default-clause-lie : goal.returns-in-Array-default-clause-lie
returns-in-Array-default-clause-lie c = parts-lie c.in-Array-default.count (part c.args.self.now) _ (body-lies c.args.self.now.at c.args.self.now.slice.now c.split_head.result.1.now c.split_head.ensures.end)
