use Rattle.std.proofs.Common.{◌≡◌, take, Some, Ok}
use Rattle.std.specs.Prelude.{replicate}
use Rattle.doc_store.specs.Document.{document_of}
use Rattle.key_device.specs.Gave.{Gave}
use Rattle.key_device.specs.Plan.{Follows}
use Rattle.key_device.specs.PlanSteps.{each}
use Rattle.key_device.specs.Recording.{inner, talk}
use Rattle.verdict_model.specs.Checked.{copy_checks}
use Rattle.reader_checks.proofs.copies.copies_checks.Given as goal

-- so far no check of the copies before failed
abbrev pub invariant-loop-place : goal.invariant-loop-place
invariant-loop-place g l = record {
  asked : Follows (each (copy_checks l.trust.roots.now l.trust.moment (document_of l.document).doc_type) (take l.place (document_of l.document).copies)) (talk l.fn.device) (talk l.device) (Some (Ok (replicate l.place tt)));
  gave : Gave g.D.KeyDevice.gives g.D.KeyDevice.unasked g.D.KeyDevice.faults l.fn.device l.device;
  same : g.D.KeyDevice.faults (inner l.device) ≡ g.D.KeyDevice.faults (inner l.fn.device);
}
