use Rattle.std.proofs.Common.{sym}
use Rattle.cbor_view.specs.View.{part}
use Rattle.cert_view.specs.Cert.{fields}
use Rattle.key_device.proofs.PlanLemmas.{then_more, ended}
use Rattle.verdict_model.specs.IssuerStatement.{issuer_auth, signer_certificate}
use Rattle.verdict_model.specs.declared.doc_check.DocCheck.TheVariants as checks
use Rattle.issuer_checks.specs.Views.{auth_seen, signer_seen}
use Rattle.issuer_checks.proofs.ChecksInOrder.{stopped, there}
use Rattle.issuer_checks.proofs.signer.signer_of.Goals as goal

pub returns-in-Ok-clause-asked : goal.returns-in-Ok-clause-asked
returns-in-Ok-clause-asked g c =
    there checks.IssuerAuthForm _ (issuer_auth (part c.args.item)) (auth_seen c.in-Some.auth) (sym c.in-Some.ensures)
    (there checks.CertForm _ (signer_certificate (auth_seen c.in-Some.auth)) (fields c.in-Some-certificate.cert) (sym c.in-Some-certificate.ensures)
    (then_more _ c.in-Ok.ensures.asked (ended _)))

pub returns-in-Err-clause-asked : goal.returns-in-Err-clause-asked
returns-in-Err-clause-asked g c =
    there checks.IssuerAuthForm _ (issuer_auth (part c.args.item)) (auth_seen c.in-Some.auth) (sym c.in-Some.ensures)
    (there checks.CertForm _ (signer_certificate (auth_seen c.in-Some.auth)) (fields c.in-Some-certificate.cert) (sym c.in-Some-certificate.ensures)
    (stopped (λ (u : Unit {0}). u) signer_seen _ c.in-Err.stop c.in-Err.ensures.asked))
