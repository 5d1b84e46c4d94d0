use Rattle.std.proofs.Common.{◌≡◌, length, map, take, Some, Ok}
use Rattle.key_device.specs.Gave.{Gave}
use Rattle.key_device.specs.Plan.{Follows}
use Rattle.key_device.specs.PlanSteps.{each}
use Rattle.key_device.specs.Recording.{talk}
use Rattle.wallet_answer.specs.Authenticated.{authenticated_choice}
use Rattle.wallet_answer.specs.ChoiceView.{choice_seen}
use Rattle.wallet_answer.specs.Documents.{documents_with}
use Rattle.wallet_answer.proofs.authentications.authenticate_all.Given as goal

-- so far the plan was followed for the documents before
abbrev pub invariant-loop-choice : goal.invariant-loop-choice
invariant-loop-choice g l = record {
  asked : Follows (each (authenticated_choice l.session) (take l.choice-index l.choices)) (talk l.fn.device) (talk l.device) (Some (Ok (documents_with (map choice_seen (take l.choice-index l.choices)) l.auths.items)));
  count : length l.auths.items ≡ l.choice-index;
  gave : Gave g.D.KeyDevice.gives g.D.KeyDevice.unasked g.D.KeyDevice.faults l.fn.device l.device;
}
