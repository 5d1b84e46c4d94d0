use Rattle.std.proofs.Common.{ℕ, ◌<◌, ◌+◌, ◌∙◌, [], ◌∷◌, List, Some, Ok, length, take, arith, subst, sym, ap}
use Rattle.std.proofs.lemmas.List.{get_or_default, length-append}
use Rattle.doc_response.specs.Draft.{Document}
use Rattle.key_device.specs.Plan.{Follows}
use Rattle.key_device.specs.PlanSteps.{each}
use Rattle.key_device.specs.Recording.{talk}
use Rattle.key_device.proofs.GaveLemmas.{gave_then}
use Rattle.key_device.proofs.PlanStepLemmas.{each_more, each_stopped, each_cut}
use Rattle.wallet_answer.specs.Authenticated.{authenticated_choice}
use Rattle.wallet_answer.specs.ChoiceView.{choice_seen}
use Rattle.wallet_answer.proofs.Exits.{documents_more}
use Rattle.wallet_answer.proofs.authentications.authenticate_all.Goals as goal

pub loop-choice-preserved : goal.loop-choice-preserved
loop-choice-preserved g c =
    let within : c.loop-choice.choice-index < length c.args.choices.now = omega arith in
    let at = c.choice-item.is ∙ get_or_default c.args.choices.now c.loop-choice.choice-index _ _ within in
    record {
      asked = rw (c.push_reserved.ensures.items, c.reserve.ensures.items)
          (subst (λ (documents : List Document). Follows (each (authenticated_choice c.args.session.now) (take (c.loop-choice.choice-index + 1) c.args.choices.now)) (talk c.args.device.now) (talk c.authenticate.new.device) (Some (Ok documents)))
          (sym (documents_more choice_seen c.args.choices.now c.loop-choice.choice-index _ c.loop-choice.auths.items c.in-Ok.auth within c.loop-choice.invariant.count at))
          (each_more (authenticated_choice c.args.session.now) c.args.choices.now c.loop-choice.choice-index _ _ c.loop-choice.invariant.asked within at c.in-Ok.ensures.asked));
      count = ap length c.push_reserved.ensures.items ∙ length-append c.reserve.new.self.items (c.in-Ok.auth ∷ []) ∙ ap (λ (n : ℕ). n + 1) (ap length c.reserve.ensures.items ∙ c.loop-choice.invariant.count);
      gave = gave_then c.loop-choice.invariant.gave c.in-Ok.ensures.gave;
    }

pub returns-in-Err-Failed-clause-asked : goal.returns-in-Err-Failed-clause-asked
returns-in-Err-Failed-clause-asked g c =
    let within : c.loop-choice.choice-index < length c.args.choices.now = omega arith in
    each_stopped (authenticated_choice c.args.session.now) c.args.choices.now c.loop-choice.choice-index _ c.loop-choice.invariant.asked within
    (c.choice-item.is ∙ get_or_default c.args.choices.now c.loop-choice.choice-index _ _ within) (rw c.in-Err-Failed.field-0-is at c.in-Err-Failed.ensures.asked)

pub returns-in-Err-Memory-clause-asked : goal.returns-in-Err-Memory-clause-asked
returns-in-Err-Memory-clause-asked g c =
    let within : c.loop-choice.choice-index < length c.args.choices.now = omega arith in
    each_cut (authenticated_choice c.args.session.now) c.args.choices.now c.loop-choice.choice-index _ c.loop-choice.invariant.asked within
    (c.choice-item.is ∙ get_or_default c.args.choices.now c.loop-choice.choice-index _ _ within) (rw c.in-Err-Memory.field-0-is at c.in-Err-Memory.ensures.asked)
