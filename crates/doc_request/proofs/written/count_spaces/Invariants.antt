use Rattle.std.proofs.Common.{◌≡◌, ◌+◌, ◌≤◌, [], drop, length, take}
use Rattle.doc_request.specs.Written.{openers}
use Rattle.doc_request.proofs.written.count_spaces.Given as goal

-- those counted and those left are all, and no more are counted than there were wishes
abbrev pub invariant-loop-place : goal.invariant-loop-place
invariant-loop-place l = (l.count + length (openers (take l.place l.wishes) (drop l.place l.wishes)) ≡ length (openers [] l.wishes)) × (l.count ≤ l.place)
