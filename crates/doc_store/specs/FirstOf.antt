-- What it is to be the first of some faults.
use Rattle.std.specs.Prelude.{◌≡◌, false, List, All, Contains}
use Rattle.doc_store.specs.Faults.{is_before}
use Rattle.doc_store.specs.declared.first_fault.Fault.{Fault}

-- It is one of them, and none stands before it.
pub record IsFirst (f : Fault) (fs : List Fault) : Type 0 where
  pub among : Contains fs f
  pub least : All (λ g. is_before g f ≡ false) fs
