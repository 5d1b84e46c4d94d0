use Rattle.std.proofs.Common.{sym, ap, is_some}
use Rattle.cbor_view.specs.PartialView.{rest_of_file}
use Rattle.cbor_view.proofs.PartialFaults.{told-whole, told-fault, view-whole, view-none}
use Rattle.cbor_view.proofs.PartialPlaces.{fault-after}
use Rattle.cbor_view.proofs.partial_view.PartialView.fault.Goals as goal

pub returns-in-Ok-clause-exact : goal.returns-in-Ok-clause-exact
returns-in-Ok-clause-exact c = told-whole c.args.self.now.levels (rest_of_file c.args.self.now) _ c.in-Ok.ensures

pub returns-in-Ok-clause-whole : goal.returns-in-Ok-clause-whole
returns-in-Ok-clause-whole c = ap is_some (sym (view-whole c.args.self.now.levels (rest_of_file c.args.self.now) _ c.in-Ok.ensures))

pub returns-in-Err-clause-exact : goal.returns-in-Err-clause-exact
returns-in-Err-clause-exact c = rw c.saturating_sub.ensures (told-fault c.args.self.now.levels (rest_of_file c.args.self.now) c.in-Err.stop (record { each = c.args.self.now.each }) c.in-Err.ensures)

pub returns-in-Err-clause-whole : goal.returns-in-Err-clause-whole
returns-in-Err-clause-whole c = ap is_some (sym (view-none c.args.self.now.levels (rest_of_file c.args.self.now) _ (record { each = c.args.self.now.each }) c.in-Err.ensures))

pub returns-in-Err-clause-at_or_after : goal.returns-in-Err-clause-at_or_after
returns-in-Err-clause-at_or_after c = fault-after c.args.self.now.levels (rest_of_file c.args.self.now) _ (sym (returns-in-Err-clause-exact c))
