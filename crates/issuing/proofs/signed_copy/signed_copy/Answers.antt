use Rattle.std.proofs.Common.{refl}
use Rattle.issue_spec.specs.Spec.{fields}
use Rattle.key_device.proofs.GaveLemmas.{gave_none}
use Rattle.key_device.proofs.PlanLemmas.{ended, then_more, unasked}
use Rattle.key_device.specs.PlanSteps.{unless_fault}
use Rattle.issuing.proofs.IssueLemmas.{caused_ok, caused_then, device_ended, device_memory}
use Rattle.issuing.specs.declared.issue_fault.IssueFault.TheVariants.{Device}
use Rattle.issuing.specs.Copies.{issued_copy, with_signature}
use Rattle.store_write.specs.Written.{copy_bytes}
use Rattle.issuing.proofs.signed_copy.signed_copy.Goals as goal

pub returns-in-Err : goal.returns-in-Err
returns-in-Err g c = record { asked = unasked refl; gave = gave_none _; cause = device_memory refl }

pub returns : goal.returns
returns g c = record {
  asked = device_ended (with_signature (fields c.args.spec.now) c.args.signer.now c.args.made.now c.args.salts.now) c.in-Err-ask_signature.fault
      (rw (c.as_slice.ensures, c.in-Ok.ensures.message) at (c.in-Err-ask_signature.ensures.asked Device));
  gave = c.in-Err-ask_signature.ensures.gave;
  cause = caused_then refl c.in-Err-ask_signature.ensures.cause;
}

pub returns-in-Ok-finish : goal.returns-in-Ok-finish
returns-in-Ok-finish g c = record {
  asked = record {
    value = copy_bytes (issued_copy (fields c.args.spec.now) c.args.signer.now c.args.made.now c.args.salts.now c.in-Ok-ask_signature.signature);
    joined = rw c.in-Ok.ensures.payload at c.in-Ok-finish.ensures;
    asked = then_more (unless_fault (with_signature (fields c.args.spec.now) c.args.signer.now c.args.made.now c.args.salts.now))
        (rw (c.as_slice.ensures, c.in-Ok.ensures.message) at (c.in-Ok-ask_signature.ensures.asked Device)) (ended _);
  };
  gave = c.in-Ok-ask_signature.ensures.gave;
  cause = caused_ok _ c.in-Ok-ask_signature.ensures.cause.done;
}

pub returns-in-Ok-ask_signature : goal.returns-in-Ok-ask_signature
returns-in-Ok-ask_signature g c = record {
  asked = then_more (unless_fault (with_signature (fields c.args.spec.now) c.args.signer.now c.args.made.now c.args.salts.now))
      (rw (c.as_slice.ensures, c.in-Ok.ensures.message) at (c.in-Ok-ask_signature.ensures.asked Device)) (unasked refl);
  gave = c.in-Ok-ask_signature.ensures.gave;
  cause = device_memory c.in-Ok-ask_signature.ensures.cause.done;
}
