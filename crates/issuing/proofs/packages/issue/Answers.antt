use Rattle.std.proofs.Common.{◌≡◌, ◌++◌, ℕ, List, refl, sym, ap, ◌∙◌}
use Rattle.cbor_view.specs.Shortest.{array_bytes}
use Rattle.mdoc_outside.proofs.GaveWordsLemmas.{words_none}
use Rattle.key_device.proofs.AllPlanLemmas.{all_more, all_unasked, by_other}
use Rattle.key_device.proofs.GaveLemmas.{gave_none, gave_then}
use Rattle.key_device.specs.Ends.{of_device}
use Rattle.key_device.specs.PlanSteps.{unless_fault}
use Rattle.issue_spec.specs.Spec.{fields}
use Rattle.issuing.proofs.IssueLemmas.{all_ended_early, by_issuer, failed_then, issuer_failed}
use Rattle.issuing.specs.declared.issue_fault.IssueFault.TheVariants.{Device, Memory}
use Rattle.issuing.proofs.LimitLemmas.{limit_causes, limit_ends, limit_within}
use Rattle.issuing.specs.Package.{issued_package, package_bytes, with_copies, with_signer}
use Rattle.store_write.proofs.Parts.{package_parts}
use Rattle.issuing.proofs.packages.issue.Goals as goal

pub returns-in-Err : goal.returns-in-Err
unfolding issued_package
returns-in-Err g c = record {
  asked = rw c.from.ensures (all_ended_early (with_signer (fields c.args.spec.now)) (of_device Device Memory c.in-Err.fault) (by_issuer c.in-Err.fault _ _ c.in-Err.ensures.asked));
  holder = gave_none _;
  issuer = c.in-Err.ensures.gave;
  words = words_none refl refl;
  cause = rw c.from.ensures (issuer_failed c.in-Err.fault refl refl c.in-Err.ensures.cause);
  within = tt;
}

pub returns-in-Err-begin : goal.returns-in-Err-begin
unfolding issued_package
returns-in-Err-begin g c = record {
  asked = all_more (unless_fault (with_signer (fields c.args.spec.now))) (by_other _ _ c.in-Ok.ensures.asked) (all_unasked refl refl refl);
  holder = gave_none _;
  issuer = c.in-Ok.ensures.gave;
  words = words_none refl refl;
  cause = (refl, c.in-Ok.ensures.cause.done, refl);
  within = tt;
}

pub returns-in-Err-issue_copies : goal.returns-in-Err-issue_copies
unfolding issued_package
returns-in-Err-issue_copies g c = record {
  asked = all_more (unless_fault (with_signer (fields c.args.spec.now))) (by_other _ _ c.in-Ok.ensures.asked)
      (all_ended_early (with_copies (fields c.args.spec.now) c.in-Ok.signer.root) c.in-Err-issue_copies.fault c.in-Err-issue_copies.ensures.asked);
  holder = c.in-Err-issue_copies.ensures.holder;
  issuer = gave_then c.in-Ok.ensures.gave c.in-Err-issue_copies.ensures.issuer;
  words = c.in-Err-issue_copies.ensures.words;
  cause = failed_then _ _ _ c.in-Err-issue_copies.fault refl c.in-Ok.ensures.cause.done refl c.in-Err-issue_copies.ensures.cause;
  within = tt;
}

pub returns : goal.returns
unfolding issued_package
returns g c =
    let made = c.in-Ok-issue_copies.ensures.asked in
    let bytes_are : c.finish.result ≡ package_bytes (fields c.args.spec.now) made.value
    = c.finish.ensures ∙ made.joined ∙ ap (λ (head : List ℕ). head ++ array_bytes made.value) c.in-Ok-begin.ensures ∙ sym (package_parts (fields c.args.spec.now).doc_type (fields c.args.spec.now).uses_mac made.value) in
    rw (c.within_limit.ensures, bytes_are) (record {
      asked = all_more (unless_fault (with_signer (fields c.args.spec.now))) (by_other _ _ c.in-Ok.ensures.asked)
          (all_more (unless_fault (with_copies (fields c.args.spec.now) c.in-Ok.signer.root)) made.asked (limit_ends _ _ _ _ _));
      holder = c.in-Ok-issue_copies.ensures.holder;
      issuer = gave_then c.in-Ok.ensures.gave c.in-Ok-issue_copies.ensures.issuer;
      words = c.in-Ok-issue_copies.ensures.words;
      cause = limit_causes _ _ _ _ _ _ _ _ (c.in-Ok-issue_copies.ensures.cause.0, c.in-Ok-issue_copies.ensures.cause.1 ∙ c.in-Ok.ensures.cause.done, c.in-Ok-issue_copies.ensures.cause.2);
      within = limit_within _ _;
    })
