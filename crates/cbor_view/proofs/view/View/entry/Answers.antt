use Rattle.std.proofs.Common.{Ok, option_map, rules, ap, ◌∙◌}
use Rattle.cbor_view.specs.Label.{label_of}
use Rattle.cbor_view.specs.View.{part, tree}
use Rattle.cbor_view.specs.Pairs.{pairs_left}
use Rattle.cbor_view.proofs.Listing.{entry-doubled, entry-found}
use Rattle.cbor_view.proofs.Places.{found-lies, seen-tree}
use Rattle.cbor_view.proofs.view.View.entry.Goals as goal

pub returns-then-is_some-clause-place : goal.returns-then-is_some-clause-place
returns-then-is_some-clause-place c = search rules

pub returns-then-is_some-clause-exact : goal.returns-then-is_some-clause-exact
returns-then-is_some-clause-exact c = entry-doubled (label_of c.args.key) (tree c.args.self.now) (part c.args.self.now) (pairs_left c.in-Some.pairs) c.in-Some.ensures.exact c.in-Some.ensures.place (returns-then-is_some-clause-place c)

pub returns-clause-place : goal.returns-clause-place
returns-clause-place c = search rules

pub returns-clause-exact : goal.returns-clause-exact
returns-clause-exact c = entry-found (label_of c.args.key) (tree c.args.self.now) (part c.args.self.now) (pairs_left c.in-Some.pairs) (option_map part c.loop-name.found) c.in-Some.ensures.exact c.in-Some.ensures.place (returns-clause-place c) ∙ ap (λ o. Ok o) (seen-tree c.loop-name.found)

pub returns-clause-stands_in : goal.returns-clause-stands_in
returns-clause-stands_in c = found-lies (part c.args.self.now) (label_of c.args.key) (pairs_left c.in-Some.pairs) c.loop-name.found c.in-Some.ensures.lie c.in-Some.ensures.place (returns-clause-place c)
