use Rattle.std.proofs.Common.{rules}
use Rattle.issuer_items.specs.Item.{item}
use Rattle.issuer_items.specs.ItemView.{fields}
use Rattle.issuer_items.proofs.ItemParts.{item-parts}
use Rattle.issuer_items.proofs.item.Item.read.Goals as goal

pub returns-in-Ok-of_map-clause-exact : goal.returns-in-Ok-of_map-clause-exact
unfolding item
returns-in-Ok-of_map-clause-exact c = search rules

pub returns-in-Ok-of_map-clause-stands_in : goal.returns-in-Ok-of_map-clause-stands_in
returns-in-Ok-of_map-clause-stands_in c = item-parts c.args.raw.now (fields c.in-Ok-of_map.item) (returns-in-Ok-of_map-clause-exact c)
