use Rattle.std.proofs.Common.{◌≡◌, take, Some, None, Ok}
use Rattle.cert_view.specs.Cert.{fields}
use Rattle.key_device.specs.Gave.{Gave}
use Rattle.key_device.specs.Plan.{Follows}
use Rattle.key_device.specs.PlanSteps.{first_yes}
use Rattle.key_device.specs.Recording.{inner, talk}
use Rattle.root_trust.specs.Confirming.{root_confirms}
use Rattle.root_trust.proofs.confirming.confirming_root.Given as goal

-- so far none of the roots before confirmed it
abbrev pub invariant-loop-root : goal.invariant-loop-root
invariant-loop-root g l = record {
  asked : Follows (first_yes (root_confirms (fields l.cert)) (take l.root-index l.roots)) (talk l.fn.device) (talk l.device) (Some (Ok None));
  gave : Gave g.D.KeyDevice.gives g.D.KeyDevice.unasked g.D.KeyDevice.faults l.fn.device l.device;
  same : g.D.KeyDevice.faults (inner l.device) ≡ g.D.KeyDevice.faults (inner l.fn.device);
}
