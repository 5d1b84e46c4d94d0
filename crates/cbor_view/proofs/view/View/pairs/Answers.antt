use Rattle.cbor_view.proofs.Listing.{opened-pairs}
use Rattle.cbor_view.proofs.Places.{body-lies, entries-lie}
use Rattle.cbor_view.specs.View.{part}
use Rattle.cbor_view.proofs.view.View.pairs.Goals as goal

pub returns-in-Map-default-clause-exact : goal.returns-in-Map-default-clause-exact
returns-in-Map-default-clause-exact c = opened-pairs c.split_head.result.0 c.split_head.result.1.now _ c.in-Map-default.count _ c.in-Map-default.is-0 c.split_head.ensures.opens

pub returns-in-Map-default-clause-lie : goal.returns-in-Map-default-clause-lie
returns-in-Map-default-clause-lie c = entries-lie c.in-Map-default.count (part c.args.self.now) _ (body-lies c.args.self.now.at c.args.self.now.slice.now c.split_head.result.1.now c.split_head.ensures.end)
