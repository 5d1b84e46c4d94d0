use Rattle.std.proofs.Common.{refl, ◌∙◌}
use Rattle.key_device.proofs.GaveLemmas.{gave_then}
use Rattle.key_device.proofs.PlanLemmas.{then_more}
use Rattle.key_device.specs.PlanSteps.{unless_fault}
use Rattle.issuing.proofs.IssueLemmas.{caused_then, device_ended, caused_before}
use Rattle.issuing.specs.declared.issue_fault.IssueFault.TheVariants.{Device}
use Rattle.issuing.specs.Signers.{new_signer, with_root, with_keys}
use Rattle.issuing.proofs.signers.new_signer.Goals as goal

pub returns-in-Err : goal.returns-in-Err
unfolding new_signer
returns-in-Err g c = record {
  asked = device_ended (with_root c.args.validity.0 c.args.validity.1) c.in-Err.fault (c.in-Err.ensures.asked Device);
  gave = c.in-Err.ensures.gave;
  cause = caused_then refl c.in-Err.ensures.cause;
}

pub returns-in-Ok-ask_fresh : goal.returns-in-Ok-ask_fresh
unfolding new_signer
returns-in-Ok-ask_fresh g c = record {
  asked = then_more (unless_fault (with_root c.args.validity.0 c.args.validity.1)) (c.in-Ok.ensures.asked Device)
      (then_more (unless_fault (with_keys c.args.validity.0 c.args.validity.1 c.in-Ok.made)) (c.in-Ok-ask_fresh.ensures.asked Device) c.with_keys.ensures.asked);
  gave = gave_then c.in-Ok.ensures.gave (gave_then c.in-Ok-ask_fresh.ensures.gave c.with_keys.ensures.gave);
  cause = caused_before (c.in-Ok-ask_fresh.ensures.cause.done ∙ c.in-Ok.ensures.cause.done) c.with_keys.ensures.cause;
}

pub returns-in-Err-ask_fresh : goal.returns-in-Err-ask_fresh
unfolding new_signer
returns-in-Err-ask_fresh g c = record {
  asked = then_more (unless_fault (with_root c.args.validity.0 c.args.validity.1)) (c.in-Ok.ensures.asked Device)
      (device_ended (with_keys c.args.validity.0 c.args.validity.1 c.in-Ok.made) c.in-Err-ask_fresh.fault (c.in-Err-ask_fresh.ensures.asked Device));
  gave = gave_then c.in-Ok.ensures.gave c.in-Err-ask_fresh.ensures.gave;
  cause = caused_then c.in-Ok.ensures.cause.done c.in-Err-ask_fresh.ensures.cause;
}
