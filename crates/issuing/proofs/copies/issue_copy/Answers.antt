use Rattle.std.proofs.Common.{refl}
use Rattle.mdoc_outside.proofs.GaveWordsLemmas.{words_none}
use Rattle.key_device.proofs.AllPlanLemmas.{all_more, by_dice, by_one, by_other}
use Rattle.key_device.proofs.GaveLemmas.{gave_none}
use Rattle.key_device.specs.Ends.{of_device, of_dice}
use Rattle.key_device.specs.PlanSteps.{unless_fault}
use Rattle.issue_spec.specs.Spec.{fields}
use Rattle.issuing.proofs.IssueLemmas.{all_ended_early, by_holder, by_issuer, by_words, dice_failed, holder_failed, issuer_failed}
use Rattle.issuing.specs.declared.issue_fault.IssueFault.TheVariants.{Device, Dice, Memory}
use Rattle.issuing.specs.Copies.{copy, with_key, with_salts}
use Rattle.issuing.proofs.copies.issue_copy.Goals as goal

pub returns-in-Err : goal.returns-in-Err
unfolding copy
returns-in-Err g c = record {
  asked = rw c.from.ensures (all_ended_early (with_key (fields c.args.spec.now) c.args.signer.now) (of_device Device Memory c.in-Err.fault) (by_holder c.in-Err.fault _ _ (c.in-Err.ensures.asked Device)));
  holder = c.in-Err.ensures.gave;
  issuer = gave_none _;
  words = words_none refl refl;
  cause = rw c.from.ensures (holder_failed c.in-Err.fault refl refl c.in-Err.ensures.cause);
}

pub returns-in-Err-draw_salts : goal.returns-in-Err-draw_salts
unfolding copy
returns-in-Err-draw_salts g c = record {
  asked = rw c.from-in-Err-draw_salts.ensures (all_more (unless_fault (with_key (fields c.args.spec.now) c.args.signer.now)) (by_one _ _ (c.in-Ok.ensures.asked Device))
      (all_ended_early (with_salts (fields c.args.spec.now) c.args.signer.now c.in-Ok.made) (of_dice Dice Memory c.in-Err-draw_salts.fault)
      (by_words c.in-Err-draw_salts.fault (by_dice _ _ (rw c.elements.ensures at c.in-Err-draw_salts.ensures.asked)))));
  holder = c.in-Ok.ensures.gave;
  issuer = gave_none _;
  words = c.in-Err-draw_salts.ensures.gave;
  cause = rw c.from-in-Err-draw_salts.ensures (dice_failed c.in-Err-draw_salts.fault c.in-Ok.ensures.cause.done refl c.in-Err-draw_salts.ensures.cause);
}

pub returns-in-Ok-signed_copy : goal.returns-in-Ok-signed_copy
unfolding copy
returns-in-Ok-signed_copy g c = record {
  asked = record {
    value = c.in-Ok-signed_copy.ensures.asked.value;
    joined = c.in-Ok-signed_copy.ensures.asked.joined;
    asked = all_more (unless_fault (with_key (fields c.args.spec.now) c.args.signer.now)) (by_one _ _ (c.in-Ok.ensures.asked Device))
        (all_more (unless_fault (with_salts (fields c.args.spec.now) c.args.signer.now c.in-Ok.made)) (by_dice _ _ (rw c.elements.ensures at c.in-Ok-draw_salts.ensures.asked))
        (by_other _ _ (rw c.as_slice.ensures at c.in-Ok-signed_copy.ensures.asked.asked)));
  };
  holder = c.in-Ok.ensures.gave;
  issuer = c.in-Ok-signed_copy.ensures.gave;
  words = c.in-Ok-draw_salts.ensures.gave;
  cause = (c.in-Ok.ensures.cause.done, c.in-Ok-signed_copy.ensures.cause.done, c.in-Ok-draw_salts.ensures.cause.done);
}

pub returns : goal.returns
unfolding copy
returns g c = record {
  asked = rw c.from-in-Err-signed_copy.ensures (all_more (unless_fault (with_key (fields c.args.spec.now) c.args.signer.now)) (by_one _ _ (c.in-Ok.ensures.asked Device))
      (all_more (unless_fault (with_salts (fields c.args.spec.now) c.args.signer.now c.in-Ok.made)) (by_dice _ _ (rw c.elements.ensures at c.in-Ok-draw_salts.ensures.asked))
      (by_issuer c.in-Err-signed_copy.fault _ _ (rw c.as_slice.ensures at c.in-Err-signed_copy.ensures.asked))));
  holder = c.in-Ok.ensures.gave;
  issuer = c.in-Err-signed_copy.ensures.gave;
  words = c.in-Ok-draw_salts.ensures.gave;
  cause = rw c.from-in-Err-signed_copy.ensures (issuer_failed c.in-Err-signed_copy.fault c.in-Ok.ensures.cause.done c.in-Ok-draw_salts.ensures.cause.done c.in-Err-signed_copy.ensures.cause);
}
