use Rattle.std.proofs.Common.{refl, ◌∙◌}
use Rattle.mdoc_outside.proofs.GaveWordsLemmas.{words_then}
use Rattle.key_device.proofs.AllPlanLemmas.{all_more, all_ended}
use Rattle.key_device.specs.PlanSteps.{unless_fault}
use Rattle.issuing.proofs.IssueLemmas.{caused_ok, caused_then, dice_ended}
use Rattle.issuing.specs.Questions.{salt, with_four, with_one, with_three, with_two}
use Rattle.issuing.proofs.salts.draw_salt.Goals as goal

pub returns-in-Err : goal.returns-in-Err
unfolding salt
returns-in-Err g c = record {
  asked = dice_ended with_one c.in-Err.fault c.in-Err.ensures.asked;
  gave = c.in-Err.ensures.gave;
  cause = caused_then refl c.in-Err.ensures.cause;
}

pub returns-in-Err-next_word : goal.returns-in-Err-next_word
unfolding salt
returns-in-Err-next_word g c = record {
  asked = all_more (unless_fault with_one) c.in-Ok.ensures.asked
      (dice_ended (with_two c.in-Ok.word) c.in-Err-next_word.fault c.in-Err-next_word.ensures.asked);
  gave = words_then c.in-Ok.ensures.gave c.in-Err-next_word.ensures.gave;
  cause = caused_then c.in-Ok.ensures.cause.done c.in-Err-next_word.ensures.cause;
}

pub returns-in-Err-next_word-2 : goal.returns-in-Err-next_word-2
unfolding salt
returns-in-Err-next_word-2 g c = record {
  asked = all_more (unless_fault with_one) c.in-Ok.ensures.asked
      (all_more (unless_fault (with_two c.in-Ok.word)) c.in-Ok-next_word.ensures.asked
      (dice_ended (with_three c.in-Ok.word c.in-Ok-next_word.word) c.in-Err-next_word-2.fault c.in-Err-next_word-2.ensures.asked));
  gave = words_then c.in-Ok.ensures.gave (words_then c.in-Ok-next_word.ensures.gave c.in-Err-next_word-2.ensures.gave);
  cause = caused_then (c.in-Ok-next_word.ensures.cause.done ∙ c.in-Ok.ensures.cause.done) c.in-Err-next_word-2.ensures.cause;
}

pub returns-in-Err-next_word-3 : goal.returns-in-Err-next_word-3
unfolding salt
returns-in-Err-next_word-3 g c = record {
  asked = all_more (unless_fault with_one) c.in-Ok.ensures.asked
      (all_more (unless_fault (with_two c.in-Ok.word)) c.in-Ok-next_word.ensures.asked
      (all_more (unless_fault (with_three c.in-Ok.word c.in-Ok-next_word.word)) c.in-Ok-next_word-2.ensures.asked
      (dice_ended (with_four c.in-Ok.word c.in-Ok-next_word.word c.in-Ok-next_word-2.word) c.in-Err-next_word-3.fault c.in-Err-next_word-3.ensures.asked)));
  gave = words_then c.in-Ok.ensures.gave (words_then c.in-Ok-next_word.ensures.gave (words_then c.in-Ok-next_word-2.ensures.gave c.in-Err-next_word-3.ensures.gave));
  cause = caused_then (c.in-Ok-next_word-2.ensures.cause.done ∙ c.in-Ok-next_word.ensures.cause.done ∙ c.in-Ok.ensures.cause.done) c.in-Err-next_word-3.ensures.cause;
}

pub returns-in-Ok-next_word-3 : goal.returns-in-Ok-next_word-3
unfolding salt
returns-in-Ok-next_word-3 g c = record {
  asked = rw c.salt_of.ensures (all_more (unless_fault with_one) c.in-Ok.ensures.asked
      (all_more (unless_fault (with_two c.in-Ok.word)) c.in-Ok-next_word.ensures.asked
      (all_more (unless_fault (with_three c.in-Ok.word c.in-Ok-next_word.word)) c.in-Ok-next_word-2.ensures.asked
      (all_more (unless_fault (with_four c.in-Ok.word c.in-Ok-next_word.word c.in-Ok-next_word-2.word)) c.in-Ok-next_word-3.ensures.asked (all_ended _ _ _)))));
  gave = words_then c.in-Ok.ensures.gave (words_then c.in-Ok-next_word.ensures.gave (words_then c.in-Ok-next_word-2.ensures.gave c.in-Ok-next_word-3.ensures.gave));
  cause = caused_ok _ (c.in-Ok-next_word-3.ensures.cause.done ∙ c.in-Ok-next_word-2.ensures.cause.done ∙ c.in-Ok-next_word.ensures.cause.done ∙ c.in-Ok.ensures.cause.done);
}
