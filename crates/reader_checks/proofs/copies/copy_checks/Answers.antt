use Rattle.doc_store.specs.StoredCopy.{copy_of}
use Rattle.issuer_checks.specs.Views.{issued_seen}
use Rattle.reader_checks.specs.PackageEnding.{came_to}
use Rattle.reader_checks.proofs.CopyLemmas.{copy_came, copy_stopped, same_cause}
use Rattle.verdict_model.specs.Checked.{copy_checks, items_check}
use Rattle.verdict_model.specs.IssuerStatement.{IssuerStatement}
use Rattle.reader_checks.proofs.copies.copy_checks.Goals as goal

pub returns-clause-asked : goal.returns-clause-asked
unfolding copy_checks
returns-clause-asked g c =
    copy_came (issued_seen c.in-Ok.issued) (λ (said : IssuerStatement). items_check said.object c.args.doc_type.now (copy_of c.args.copy.now).items) (came_to c.items_check.result)
    (rw c.signature_of.ensures at c.in-Ok.ensures.asked) (rw c.items.ensures.exact at c.items_check.ensures.exact)

pub returns-clause-counts : goal.returns-clause-counts
returns-clause-counts g c = rw c.items_check.ensures.calm c.in-Ok.ensures.counts

pub returns-in-Err-clause-asked : goal.returns-in-Err-clause-asked
unfolding copy_checks
returns-in-Err-clause-asked g c =
    rw c.failure_of.ensures
    (copy_stopped issued_seen (λ (said : IssuerStatement). items_check said.object c.args.doc_type.now (copy_of c.args.copy.now).items) c.in-Err.stop
    (rw c.signature_of.ensures at c.in-Err.ensures.asked))

pub returns-in-Err-clause-counts : goal.returns-in-Err-clause-counts
returns-in-Err-clause-counts g c = rw (c.failure_of.ensures, same_cause c.in-Err.stop) c.in-Err.ensures.counts
