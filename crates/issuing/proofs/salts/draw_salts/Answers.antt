use Rattle.std.proofs.Common.{refl, ◌∙◌, arith}
use Rattle.mdoc_outside.proofs.GaveWordsLemmas.{words_none, words_then}
use Rattle.key_device.proofs.AllPlanStepLemmas.{all_times_begun, all_times_more, all_times_paused}
use Rattle.issuing.proofs.IssueLemmas.{caused_then, dice_times_ended}
use Rattle.issuing.specs.Questions.{salt, salts}
use Rattle.issuing.proofs.salts.draw_salts.Goals as goal

pub loop-place-init : goal.loop-place-init
loop-place-init g c = record {
  asked = rw c.new-salts.ensures.items (all_times_begun salt _ _ _);
  gave = words_none refl refl;
  same = refl;
  count = rw c.new-salts.ensures.items refl;
}

pub loop-place-preserved : goal.loop-place-preserved
loop-place-preserved g c = record {
  asked = rw (c.push_reserved.ensures.items, c.reserve.ensures.items)
      (all_times_more salt c.loop-place.place _ c.loop-place.invariant.asked c.in-Ok-draw_salt.ensures.asked);
  gave = words_then c.loop-place.invariant.gave c.in-Ok-draw_salt.ensures.gave;
  same = c.in-Ok-draw_salt.ensures.cause.done ∙ c.loop-place.invariant.same;
  count = simp (c.push_reserved.ensures.items, c.reserve.ensures.items) (grind arith);
}

pub returns-in-Err-clause-asked : goal.returns-in-Err-clause-asked
unfolding salts
returns-in-Err-clause-asked g c = all_times_paused salt c.loop-place.place c.args.count c.loop-place.invariant.asked (omega arith)

pub returns-in-Err-draw_salt-clause-asked : goal.returns-in-Err-draw_salt-clause-asked
unfolding salts
returns-in-Err-draw_salt-clause-asked g c =
    dice_times_ended salt c.loop-place.place c.args.count c.in-Err-draw_salt.fault c.loop-place.invariant.asked (omega arith) c.in-Err-draw_salt.ensures.asked

pub returns-in-Err-draw_salt-clause-gave : goal.returns-in-Err-draw_salt-clause-gave
returns-in-Err-draw_salt-clause-gave g c = words_then c.loop-place.invariant.gave c.in-Err-draw_salt.ensures.gave

pub returns-in-Err-draw_salt-clause-cause : goal.returns-in-Err-draw_salt-clause-cause
returns-in-Err-draw_salt-clause-cause g c = caused_then c.loop-place.invariant.same c.in-Err-draw_salt.ensures.cause
