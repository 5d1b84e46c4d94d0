use Rattle.std.proofs.Common.{map, take, Some, Ok}
use Rattle.key_device.specs.Gave.{Gave}
use Rattle.key_device.specs.Plan.{Follows}
use Rattle.key_device.specs.PlanSteps.{each}
use Rattle.key_device.specs.Recording.{talk}
use Rattle.wallet_answer.specs.KnownView.{known_of}
use Rattle.wallet_answer.specs.Texts.{reader_seen}
use Rattle.wallet_answer.proofs.readers.known_readers.Given as goal

-- so far the plan was followed for the documents before
abbrev pub invariant-loop-document : goal.invariant-loop-document
invariant-loop-document g l = record {
  asked : Follows (each (known_of l.readers l.moment l.transcript) (take l.document-index l.documents)) (talk l.fn.device) (talk l.device) (Some (Ok (map reader_seen l.known.items)));
  gave : Gave g.D.KeyDevice.gives g.D.KeyDevice.unasked g.D.KeyDevice.faults l.fn.device l.device;
}
