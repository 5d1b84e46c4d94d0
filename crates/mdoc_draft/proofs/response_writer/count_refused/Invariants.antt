use Rattle.std.proofs.Common.{◌≡◌, ◌≤◌, length, take}
use Rattle.mdoc_draft.specs.Entry.{refused_of}
use Rattle.mdoc_draft.proofs.response_writer.count_refused.Given as goal

-- the count so far, and no more than there were
abbrev pub invariant-loop-document : goal.invariant-loop-document
invariant-loop-document l = (l.count ≡ length (refused_of (take l.document-index l.documents))) × (l.count ≤ l.document-index)
