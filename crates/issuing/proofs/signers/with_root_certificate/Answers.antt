use Rattle.std.proofs.Common.{refl}
use Rattle.key_device.proofs.GaveLemmas.{gave_none}
use Rattle.key_device.proofs.PlanLemmas.{ended, then_more, unasked}
use Rattle.key_device.specs.PlanSteps.{unless_fault}
use Rattle.issuing.proofs.IssueLemmas.{caused_ok, caused_then, device_ended, device_memory}
use Rattle.issuing.specs.Signers.{with_certificates}
use Rattle.issuing.proofs.signers.with_root_certificate.Goals as goal

pub returns-in-Err : goal.returns-in-Err
returns-in-Err g c = record { asked = unasked refl; gave = gave_none _; cause = device_memory refl }

pub returns-in-Ok-certified : goal.returns-in-Ok-certified
returns-in-Ok-certified g c = record {
  asked = then_more (unless_fault (with_certificates c.args.signer.now c.args.root_certificate))
      (rw c.in-Ok.ensures.draft at c.in-Ok-certified.ensures.asked) (ended _);
  gave = c.in-Ok-certified.ensures.gave;
  cause = caused_ok _ c.in-Ok-certified.ensures.cause.done;
}

pub returns-in-Err-certified : goal.returns-in-Err-certified
returns-in-Err-certified g c = record {
  asked = device_ended (with_certificates c.args.signer.now c.args.root_certificate) c.in-Err-certified.fault
      (rw c.in-Ok.ensures.draft at c.in-Err-certified.ensures.asked);
  gave = c.in-Err-certified.ensures.gave;
  cause = caused_then refl c.in-Err-certified.ensures.cause;
}
