use Rattle.std.proofs.Common.{◌≡◌, ◌++◌, map, take}
use Rattle.std.specs.Prelude.{filter, flat_map}
use Rattle.doc_request.specs.Written.{entry_bytes, is_in, name_entry}
use Rattle.doc_request.proofs.written.put_names.Given as goal

-- the names so far
abbrev pub invariant-loop-wish : goal.invariant-loop-wish
invariant-loop-wish l = l.build ≡ l.initial.build ++ flat_map entry_bytes (map name_entry (filter (is_in l.ns) (take l.wish-index l.wishes)))
