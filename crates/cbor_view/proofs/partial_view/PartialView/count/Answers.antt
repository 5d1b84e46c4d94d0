use Rattle.std.proofs.Common.{◌∙◌}
use Rattle.cbor_view.specs.PartialView.{rest_of_file}
use Rattle.cbor_view.proofs.PartialCounts.{count-open, count-closed}
use Rattle.cbor_view.proofs.partial_view.PartialView.count.Goals as goal

pub returns-in_default : goal.returns-in_default
returns-in_default c = count-closed c.args.self.now.levels (rest_of_file c.args.self.now) c.args.self.now.most (record { each = c.args.self.now.each }) c.in_default.ensures

pub returns : goal.returns
returns c = c.array_count.ensures ∙ count-open c.args.self.now.levels (rest_of_file c.args.self.now) c.in-Some.head c.in-Some.field-0-1.levels (rest_of_file c.in-Some.field-0-1) c.args.self.now.most (record { each = c.args.self.now.each }) c.in-Some.ensures
