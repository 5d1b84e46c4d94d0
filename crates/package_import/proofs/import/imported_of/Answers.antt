use Rattle.std.proofs.Common.{◌≡◌, true, arith}
use Rattle.doc_store.specs.StoreView.{documents_in}
use Rattle.package_import.specs.Import.{are_accepted}
use Rattle.package_import.proofs.Outcomes.{accepted_failed, accepted_merged}
use Rattle.package_import.proofs.import.imported_of.Goals as goal

pub returns-in-Ok : goal.returns-in-Ok
returns-in-Ok c =
    let all : are_accepted c.args.verdicts ≡ true = grind arith in
    accepted_merged (documents_in c.args.own.now) (documents_in c.args.received.now) c.args.verdicts c.in-Ok.bytes all c.in-Ok.ensures

pub returns-in-Err : goal.returns-in-Err
returns-in-Err c =
    let all : are_accepted c.args.verdicts ≡ true = grind arith in
    accepted_failed (documents_in c.args.own.now) (documents_in c.args.received.now) c.args.verdicts c.in-Err.fault all c.in-Err.ensures
