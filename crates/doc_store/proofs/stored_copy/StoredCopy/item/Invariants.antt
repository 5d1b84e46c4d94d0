use Rattle.std.proofs.Common.{◌≡◌, [], true}
use Rattle.std.specs.Prelude.{is_some, unwrap_or}
use Rattle.cbor_view.specs.Pairs.{pairs_left}
use Rattle.mdoc_outside.specs.OptionSteps.{each}
use Rattle.doc_store.specs.Held.{held}
use Rattle.doc_store.specs.Store.{namespace}
use Rattle.doc_store.specs.StoredCopy.{copy_of}
use Rattle.doc_store.proofs.HeldItems.{held_all}
use Rattle.doc_store.proofs.stored_copy.StoredCopy.item.Given as goal

-- it is in one of the namespaces that are left
abbrev pub invariant-loop-space : goal.invariant-loop-space
invariant-loop-space l =
    (goal.iterator-loop-space).can_next l.space-iterator ×
    (goal.iterator-loop-space).is_finite l.space-iterator ×
    (is_some (each namespace (pairs_left l.space-iterator)) ≡ true) ×
    (held_all l.ns l.name (unwrap_or (each namespace (pairs_left l.space-iterator)) []) ≡ held (copy_of l.self) l.ns l.name)
