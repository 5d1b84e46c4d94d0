-- The empty store is a store.
use Rattle.std.proofs.Common.{◌≡◌, None, sym, ap, ◌∙◌}
use Rattle.doc_store.specs.Store.{store}
use Rattle.doc_store.specs.declared.laws.TheConstants.{EMPTY_STORE}
use Rattle.doc_store.proofs.StoreLemmas.{store_empty}
use Rattle.mdoc_import.proofs.command.empty_store.Goals as goal

pub unreachable-requires : goal.unreachable-requires
unreachable-requires c =
    let fault = rw c.in-Err-Form.field-0-is at c.in-Err-Form.ensures in
    let none : store EMPTY_STORE ≡ None = ap store (sym c.in_ok-bytes.ensures) ∙ fault.0 in
    let never = sym store_empty ∙ none in cc
