use Rattle.std.proofs.Common.{◌≡◌, take, Some, Ok}
use Rattle.doc_store.specs.StoreView.{documents_in}
use Rattle.key_device.specs.Gave.{Gave}
use Rattle.key_device.specs.Plan.{Follows}
use Rattle.key_device.specs.PlanSteps.{each}
use Rattle.key_device.specs.Recording.{inner, talk}
use Rattle.verdict_model.specs.Checked.{checked_document}
use Rattle.reader_checks.proofs.package_documents.checked_documents.Given as goal

-- so far each of the documents before has its verdict
abbrev pub invariant-loop-place : goal.invariant-loop-place
invariant-loop-place g l = record {
  asked : Follows (each (checked_document l.trust.roots.now l.trust.moment) (take l.place (documents_in l.store))) (talk l.fn.device) (talk l.device) (Some (Ok l.checked.items));
  gave : Gave g.D.KeyDevice.gives g.D.KeyDevice.unasked g.D.KeyDevice.faults l.fn.device l.device;
  same : g.D.KeyDevice.faults (inner l.device) ≡ g.D.KeyDevice.faults (inner l.fn.device);
}
