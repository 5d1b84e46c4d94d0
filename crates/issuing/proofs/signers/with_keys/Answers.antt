use Rattle.std.proofs.Common.{refl}
use Rattle.key_device.proofs.GaveLemmas.{gave_none, gave_then}
use Rattle.key_device.proofs.PlanLemmas.{then_more, unasked}
use Rattle.key_device.specs.PlanSteps.{unless_fault}
use Rattle.issuing.proofs.IssueLemmas.{caused_then, device_ended, device_memory, caused_before}
use Rattle.issuing.specs.Signers.{with_root_certificate}
use Rattle.issuing.proofs.signers.with_keys.Goals as goal

pub returns-in-Err : goal.returns-in-Err
returns-in-Err g c = record { asked = unasked refl; gave = gave_none _; cause = device_memory refl }

pub returns-in-Ok-certified : goal.returns-in-Ok-certified
returns-in-Ok-certified g c = record {
  asked = then_more (unless_fault (with_root_certificate c.args.validity.0 c.args.validity.1 c.args.root.now c.args.signer.now))
      (rw c.in-Ok.ensures.draft at c.in-Ok-certified.ensures.asked) c.with_root_certificate.ensures.asked;
  gave = gave_then c.in-Ok-certified.ensures.gave c.with_root_certificate.ensures.gave;
  cause = caused_before c.in-Ok-certified.ensures.cause.done c.with_root_certificate.ensures.cause;
}

pub returns : goal.returns
returns g c = record {
  asked = device_ended (with_root_certificate c.args.validity.0 c.args.validity.1 c.args.root.now c.args.signer.now) c.in-Err-certified.fault
      (rw c.in-Ok.ensures.draft at c.in-Err-certified.ensures.asked);
  gave = c.in-Err-certified.ensures.gave;
  cause = caused_then refl c.in-Err-certified.ensures.cause;
}
