-- The exits after the spec is opened.
use Rattle.std.proofs.Common.{Ok, Some, ap, inl, inr, refl, subst, sym}
use Rattle.issue_spec.specs.Spec.{fields}
use Rattle.mdoc_frame.specs.Asking.{Sources, sources}
use Rattle.mdoc_issue.specs.Issue.{issue_of}
use Rattle.mdoc_frame.specs.World.{World, world}
use Rattle.mdoc_frame.specs.declared.status.Status.{Status}
use Rattle.mdoc_frame.specs.declared.status.Status.TheVariants as statuses
use Rattle.mdoc_issue.proofs.IssueLemmas.{IssueWorks, issue_came, issue_failed}
use Rattle.mdoc_frame.proofs.EndLemmas.{wants}
use Rattle.mdoc_frame.proofs.StepLemmas.{on}
use Rattle.mdoc_issue.proofs.command.issue_named.Goals as goal

pub returns-in-Err-issue_package-clause-does : goal.returns-in-Err-issue_package-clause-does
returns-in-Err-issue_package-clause-does g c =
    let from : Sources = sources g.D.KeyDevice.faults g.E.KeyDevice.faults g.R.Dice.faults c.args.holder.now c.args.issuer.now c.args.dice.now in
    let to : Sources = sources g.D.KeyDevice.faults g.E.KeyDevice.faults g.R.Dice.faults c.issue.new.holder c.issue.new.issuer c.issue.new.dice in
    let opened : World = world (g.C.Cabinet.state c.read_file.new.cabinet) (g.O.Sink.state c.args.out.now) in
    let failed = issue_failed c.args.names.out.now (fields c.in-Ok.spec) from to c.in-Err-issue_package.fault c.in-Err-issue_package.ensures.asked c.in-Err-issue_package.ensures.cause opened in
    inr (on _ _ _ _ _ _ c.in-Ok.ensures (subst (λ (s : Status). IssueWorks c.args.names.out.now (fields c.in-Ok.spec) from to opened opened s) (sym c.status_of.ensures) failed))

pub returns-in_default-clause-does : goal.returns-in_default-clause-does
returns-in_default-clause-does g c =
    let from : Sources = sources g.D.KeyDevice.faults g.E.KeyDevice.faults g.R.Dice.faults c.args.holder.now c.args.issuer.now c.args.dice.now in
    let to : Sources = sources g.D.KeyDevice.faults g.E.KeyDevice.faults g.R.Dice.faults c.issue.new.holder c.issue.new.issuer c.issue.new.dice in
    let opened : World = world (g.C.Cabinet.state c.read_file.new.cabinet) (g.O.Sink.state c.args.out.now) in
    let done = issue_came c.args.names.out.now (fields c.in-Ok.spec) from to c.in-Ok-issue_package.issued c.in-Ok-issue_package.ensures.asked c.in-Ok-issue_package.ensures.cause opened in
    inr (on _ _ _ _ _ _ c.in-Ok.ensures (done opened statuses.Memory (wants (issue_of c.args.names.out.now (fields c.in-Ok.spec) (Some (Ok c.in-Ok-issue_package.issued))).files _ _ opened)))

pub returns-in-Err-Failed-clause-does : goal.returns-in-Err-Failed-clause-does
returns-in-Err-Failed-clause-does g c =
    let from : Sources = sources g.D.KeyDevice.faults g.E.KeyDevice.faults g.R.Dice.faults c.args.holder.now c.args.issuer.now c.args.dice.now in
    let to : Sources = sources g.D.KeyDevice.faults g.E.KeyDevice.faults g.R.Dice.faults c.issue.new.holder c.issue.new.issuer c.issue.new.dice in
    let opened : World = world (g.C.Cabinet.state c.read_file.new.cabinet) (g.O.Sink.state c.args.out.now) in
    let done = issue_came c.args.names.out.now (fields c.in-Ok.spec) from to c.in-Ok-issue_package.issued c.in-Ok-issue_package.ensures.asked c.in-Ok-issue_package.ensures.cause opened in
    inr (on _ _ _ _ _ _ c.in-Ok.ensures (done _ statuses.Cabinet (inl (rw (c.in-Err-Failed.field-0-is, c.as_slice.ensures) at c.in-Err-Failed.ensures, refl))))

pub returns-in-Err-Memory-clause-does : goal.returns-in-Err-Memory-clause-does
returns-in-Err-Memory-clause-does g c =
    let from : Sources = sources g.D.KeyDevice.faults g.E.KeyDevice.faults g.R.Dice.faults c.args.holder.now c.args.issuer.now c.args.dice.now in
    let to : Sources = sources g.D.KeyDevice.faults g.E.KeyDevice.faults g.R.Dice.faults c.issue.new.holder c.issue.new.issuer c.issue.new.dice in
    let opened : World = world (g.C.Cabinet.state c.read_file.new.cabinet) (g.O.Sink.state c.args.out.now) in
    let done = issue_came c.args.names.out.now (fields c.in-Ok.spec) from to c.in-Ok-issue_package.issued c.in-Ok-issue_package.ensures.asked c.in-Ok-issue_package.ensures.cause opened in
    inr (on _ _ _ _ _ _ c.in-Ok.ensures (done _ statuses.Memory (inl (ap (λ s. world s (g.O.Sink.state c.args.out.now)) (rw c.in-Err-Memory.field-0-is at c.in-Err-Memory.ensures)))))

pub returns-clause-does : goal.returns-clause-does
returns-clause-does g c =
    let from : Sources = sources g.D.KeyDevice.faults g.E.KeyDevice.faults g.R.Dice.faults c.args.holder.now c.args.issuer.now c.args.dice.now in
    let to : Sources = sources g.D.KeyDevice.faults g.E.KeyDevice.faults g.R.Dice.faults c.issue.new.holder c.issue.new.issuer c.issue.new.dice in
    let opened : World = world (g.C.Cabinet.state c.read_file.new.cabinet) (g.O.Sink.state c.args.out.now) in
    let done = issue_came c.args.names.out.now (fields c.in-Ok.spec) from to c.in-Ok-issue_package.issued c.in-Ok-issue_package.ensures.asked c.in-Ok-issue_package.ensures.cause opened in
    inr (on _ _ _ _ _ _ c.in-Ok.ensures (done _ _ (inr (rw c.as_slice.ensures at c.in-Ok-write.ensures, rw (c.deref.ensures.value, c.in-Ok-issue_lines.ensures) at c.print_lines.ensures))))
