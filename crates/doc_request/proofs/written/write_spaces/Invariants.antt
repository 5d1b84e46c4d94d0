use Rattle.std.proofs.Common.{◌≡◌, ◌++◌, [], drop, length, map, take}
use Rattle.std.specs.Prelude.{flat_map}
use Rattle.cbor_view.specs.Shortest.{shortest_head}
use Rattle.doc_request.specs.Written.{entry_bytes, opened_by, openers}
use Rattle.doc_request.proofs.written.write_spaces.Given as goal

-- the namespaces so far, and those that are left, are all
abbrev pub invariant-loop-place : goal.invariant-loop-place
invariant-loop-place l =
    l.build ++ flat_map entry_bytes (map (opened_by l.wishes) (openers (take l.place l.wishes) (drop l.place l.wishes)))
    ≡ shortest_head 5 (length (openers [] l.wishes)) ++ flat_map entry_bytes (map (opened_by l.wishes) (openers [] l.wishes))
