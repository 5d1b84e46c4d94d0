-- The steps of a command are a run by its outcome.
use Rattle.std.proofs.Common.{to_z-of_z}
use Rattle.mdoc_program.specs.Orders.{order_seen}
use Rattle.mdoc_program.proofs.OrderRun.{in_form, no_usage, runs}
use Rattle.mdoc_program.proofs.program.run.Goals as goal

pub dispatch-requires : goal.dispatch-requires
dispatch-requires g c = in_form c.args.words.now (order_seen c.in-Some.order) c.in-Some.ensures

pub returns-clause-usage : goal.returns-clause-usage
returns-clause-usage g c = no_usage c.args.words.now (order_seen c.in-Some.order) c.args.moment _ _ _ _ c.dispatch.result c.in-Some.ensures (rw (to_z-of_z c.ranges.moment) at c.dispatch.ensures.does)

pub returns-clause-runs : goal.returns-clause-runs
returns-clause-runs g c = runs c.args.words.now (order_seen c.in-Some.order) c.args.moment _ _ _ _ c.dispatch.result c.in-Some.ensures (rw (to_z-of_z c.ranges.moment) at c.dispatch.ensures.does)
