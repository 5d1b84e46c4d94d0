use Rattle.std.proofs.Common.{◌≡◌, refl, ◌∙◌, arith}
use Rattle.mdoc_outside.proofs.GaveWordsLemmas.{words_none, words_then}
use Rattle.key_device.proofs.AllPlanLemmas.{all_unasked}
use Rattle.key_device.proofs.GaveLemmas.{gave_none, gave_then}
use Rattle.issue_spec.specs.Spec.{fields}
use Rattle.issuing.proofs.IssueLemmas.{all_times_ended, failed_then}
use Rattle.issuing.proofs.CopyLemmas.{all_written, none_yet, one_more}
use Rattle.issuing.specs.Copies.{copies, copy}
use Rattle.issuing.proofs.copies.issue_copies.Goals as goal

pub loop-place-init : goal.loop-place-init
loop-place-init g c = record {
  so_far = none_yet (copy (fields c.args.spec.now) c.args.signer.now) _ _ _ _;
  holder = gave_none _;
  issuer = gave_none _;
  words = words_none refl refl;
  same_holder = refl;
  same_issuer = refl;
  same_dice = refl;
}

pub loop-place-preserved : goal.loop-place-preserved
loop-place-preserved g c =
    let made = c.in-Ok-issue_copy.ensures.asked in
    record {
      so_far = one_more _ c.loop-place.invariant.so_far made.value made.joined made.asked;
      holder = gave_then c.loop-place.invariant.holder c.in-Ok-issue_copy.ensures.holder;
      issuer = gave_then c.loop-place.invariant.issuer c.in-Ok-issue_copy.ensures.issuer;
      words = words_then c.loop-place.invariant.words c.in-Ok-issue_copy.ensures.words;
      same_holder = c.in-Ok-issue_copy.ensures.cause.0 ∙ c.loop-place.invariant.same_holder;
      same_issuer = c.in-Ok-issue_copy.ensures.cause.1 ∙ c.loop-place.invariant.same_issuer;
      same_dice = c.in-Ok-issue_copy.ensures.cause.2 ∙ c.loop-place.invariant.same_dice;
    }

pub returns-in-Err : goal.returns-in-Err
returns-in-Err g c = record {
  asked = all_unasked refl refl refl;
  holder = gave_none _;
  issuer = gave_none _;
  words = words_none refl refl;
  cause = (refl, refl, refl);
}

pub returns-in-Err-issue_copy : goal.returns-in-Err-issue_copy
unfolding copies
returns-in-Err-issue_copy g c = record {
  asked = all_times_ended (copy (fields c.args.spec.now) c.args.signer.now) c.loop-place.place (fields c.args.spec.now).copies c.in-Err-issue_copy.fault
      c.loop-place.invariant.so_far.asked (omega (arith, c.copies-count.ensures)) c.in-Err-issue_copy.ensures.asked;
  holder = gave_then c.loop-place.invariant.holder c.in-Err-issue_copy.ensures.holder;
  issuer = gave_then c.loop-place.invariant.issuer c.in-Err-issue_copy.ensures.issuer;
  words = words_then c.loop-place.invariant.words c.in-Err-issue_copy.ensures.words;
  cause = failed_then _ _ _ c.in-Err-issue_copy.fault c.loop-place.invariant.same_holder c.loop-place.invariant.same_issuer c.loop-place.invariant.same_dice
      c.in-Err-issue_copy.ensures.cause;
}

pub returns-clause-asked : goal.returns-clause-asked
unfolding copies
returns-clause-asked g c =
    let all : c.loop-place.place ≡ (fields c.args.spec.now).copies = omega (arith, c.copies-count.ensures) in
    all_written (fields c.args.spec.now).copies c.args.build.now c.loop-place.invariant.so_far all (rw c.copies-count.ensures at c.in-Ok.ensures.ok)
