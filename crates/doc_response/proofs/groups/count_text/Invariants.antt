use Rattle.std.proofs.Common.{◌≡◌, ◌≤◌, take}
use Rattle.doc_response.specs.Namespaces.{count_of_text, texts}
use Rattle.doc_response.proofs.groups.count_text.Given as goal

-- the count so far, and no more than there were
abbrev pub invariant-loop-other : goal.invariant-loop-other
invariant-loop-other l = (l.count ≡ count_of_text l.text (texts (take l.other-index l.list))) × (l.count ≤ l.other-index)
