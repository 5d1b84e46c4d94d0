use Rattle.std.proofs.Common.{◌≡◌, length, take, drop, Some, Ok}
use Rattle.doc_response.specs.ResponseDocs.{documents_left}
use Rattle.reader_checks.specs.Views.{setting_seen}
use Rattle.key_device.specs.Gave.{Gave}
use Rattle.key_device.specs.Plan.{Follows}
use Rattle.key_device.specs.PlanSteps.{each}
use Rattle.key_device.specs.Recording.{inner, talk}
use Rattle.verdict_model.specs.Documents.{judged_document}
use Rattle.reader_checks.proofs.documents.judged_documents.Given as goal

-- so far each of the documents before has its verdict
abbrev pub invariant-loop-document : goal.invariant-loop-document
invariant-loop-document g l = record {
  next : (goal.iterator-loop-document g).can_next l.document-iterator;
  finite : (goal.iterator-loop-document g).is_finite l.document-iterator;
  left : drop (length l.judged.items) (documents_left l.fn.documents) ≡ documents_left l.document-iterator;
  asked : Follows (each (judged_document (setting_seen l.setting)) (take (length l.judged.items) (documents_left l.fn.documents))) (talk l.fn.device) (talk l.device) (Some (Ok l.judged.items));
  gave : Gave g.D.KeyDevice.gives g.D.KeyDevice.unasked g.D.KeyDevice.faults l.fn.device l.device;
  same : g.D.KeyDevice.faults (inner l.device) ≡ g.D.KeyDevice.faults (inner l.fn.device);
}
