use Rattle.std.proofs.Common.{◌≡◌, ◌≤◌, length, take}
use Rattle.std.specs.Prelude.{filter}
use Rattle.doc_request.specs.Written.{is_in}
use Rattle.doc_request.proofs.written.count_names.Given as goal

-- the count so far, and no more than there were
abbrev pub invariant-loop-wish : goal.invariant-loop-wish
invariant-loop-wish l = (l.count ≡ length (filter (is_in l.ns) (take l.wish-index l.wishes))) × (l.count ≤ l.wish-index)
