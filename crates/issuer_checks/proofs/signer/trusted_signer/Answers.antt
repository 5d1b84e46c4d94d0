use Rattle.std.proofs.Common.{◌≡◌, true, false, arith}
use Rattle.cert_view.specs.Cert.{fields}
use Rattle.root_trust.specs.Validity.{are_valid}
use Rattle.key_device.proofs.PlanLemmas.{then_more}
use Rattle.root_trust.specs.Names.{has_named_root}
use Rattle.verdict_model.specs.declared.doc_check.DocCheck.TheVariants as checks
use Rattle.issuer_checks.proofs.ChecksInOrder.{fails, holds, last_fails, last_holds}
use Rattle.issuer_checks.proofs.signer.trusted_signer.Goals as goal

pub returns-then-not-are_valid-clause-asked : goal.returns-then-not-are_valid-clause-asked
returns-then-not-are_valid-clause-asked g c =
    let named : has_named_root (fields c.args.cert.now) c.args.trust.now.roots.now ≡ true = grind arith in
    let late : are_valid c.args.trust.now.moment (fields c.args.cert.now) c.in-Ok-Some.root.now ≡ false = grind arith in
    holds checks.CertUntrusted _ (has_named_root (fields c.args.cert.now) c.args.trust.now.roots.now) named
    (then_more _ (rw c.in-Ok-Some.field-0-is at c.in-Ok-Some.ensures.asked) (fails checks.CertTime _ _ _ late))

pub returns-then-not-signs_documents-clause-asked : goal.returns-then-not-signs_documents-clause-asked
returns-then-not-signs_documents-clause-asked g c =
    let named : has_named_root (fields c.args.cert.now) c.args.trust.now.roots.now ≡ true = grind arith in
    let in_time : are_valid c.args.trust.now.moment (fields c.args.cert.now) c.in-Ok-Some.root.now ≡ true = grind arith in
    let usage : (fields c.args.cert.now).tbs.signs_documents ≡ false = grind arith in
    holds checks.CertUntrusted _ (has_named_root (fields c.args.cert.now) c.args.trust.now.roots.now) named
    (then_more _ (rw c.in-Ok-Some.field-0-is at c.in-Ok-Some.ensures.asked)
    (holds checks.CertTime _ (are_valid c.args.trust.now.moment (fields c.args.cert.now) c.in-Ok-Some.root.now) in_time (last_fails checks.KeyUse _ _ usage)))

pub returns-clause-asked : goal.returns-clause-asked
returns-clause-asked g c =
    let named : has_named_root (fields c.args.cert.now) c.args.trust.now.roots.now ≡ true = grind arith in
    let in_time : are_valid c.args.trust.now.moment (fields c.args.cert.now) c.in-Ok-Some.root.now ≡ true = grind arith in
    let usage : (fields c.args.cert.now).tbs.signs_documents ≡ true = grind arith in
    holds checks.CertUntrusted _ (has_named_root (fields c.args.cert.now) c.args.trust.now.roots.now) named
    (then_more _ (rw c.in-Ok-Some.field-0-is at c.in-Ok-Some.ensures.asked)
    (holds checks.CertTime _ (are_valid c.args.trust.now.moment (fields c.args.cert.now) c.in-Ok-Some.root.now) in_time (last_holds checks.KeyUse _ _ usage)))
