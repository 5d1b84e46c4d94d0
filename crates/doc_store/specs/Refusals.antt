-- Why a file is refused as a store.
use Rattle.std.specs.Prelude.{◌≡◌, ℕ, List, Some, None}
use Rattle.doc_store.specs.declared.store_fault.StoreFault.{StoreFault}
use Rattle.doc_store.specs.declared.store_fault.StoreFault.TheVariants.{Form, Memory}
use Rattle.doc_store.specs.Faults.{store_fault}
use Rattle.doc_store.specs.Store.{store}

-- The file spells no store, and the fault that is reported is its first. Want of memory is free.
abbrev pub IsFault : StoreFault → List ℕ → Type 0
IsFault (Form first) bytes = (store bytes ≡ None) × (store_fault bytes ≡ Some first)
IsFault Memory bytes = Unit {0}
