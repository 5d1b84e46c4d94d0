use Rattle.std.proofs.Common.{◌≡◌, drop}
use Rattle.std.specs.List.{list_any}
use Rattle.doc_request.specs.Written.{is_in}
use Rattle.doc_request.proofs.written.has_space.Given as goal

-- the wishes that are left tell what all of them tell
abbrev pub invariant-loop-wish : goal.invariant-loop-wish
invariant-loop-wish l = list_any (is_in l.ns) (drop l.wish-index l.wishes) ≡ list_any (is_in l.ns) l.wishes
