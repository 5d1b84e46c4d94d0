use Rattle.std.proofs.Common.{to_z-of_z}
use Rattle.doc_store.specs.StoreView.{documents_in}
use Rattle.key_device.proofs.PlanStepLemmas.{mapped_came}
use Rattle.package_import.specs.Import.{by_verdicts, import_checks}
use Rattle.package_import.proofs.Outcomes.{outcome_counts}
use Rattle.package_import.proofs.import.import_package.Goals as goal

pub returns-clause-cause : goal.returns-clause-cause
returns-clause-cause g c =
    outcome_counts (documents_in c.args.own.now) (documents_in c.args.received.now) c.in-Ok.verdicts c.imported_of.result c.imported_of.ensures c.in-Ok.ensures.cause.done

pub returns-in-Err-Failed-clause-asked : goal.returns-in-Err-Failed-clause-asked
unfolding import_checks
returns-in-Err-Failed-clause-asked g c =
    mapped_came (by_verdicts (documents_in c.args.own.now) (documents_in c.args.received.now)) (rw (c.in-Err-Failed.field-0-is, to_z-of_z c.ranges.moment) at c.in-Err-Failed.ensures.asked)
