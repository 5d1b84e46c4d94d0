-- What a wallet is made with.
use Rattle.std.specs.Prelude.{ℕ, ℤ, List}
use Rattle.cert_view.specs.declared.root.Root.{Root}
use Rattle.consent.specs.declared.rule.Rule.{Rule}
use Rattle.doc_store.specs.Store.{Store}

-- The store, of each of its documents the place of the copy that is shown, the holder's rules, the trusted roots of
-- readers, the size of the fragments that are sent, and the moment in seconds since 1970.
pub record Setup : Type 0 where
  pub store : Store
  pub choice : List ℕ
  pub rules : List Rule
  pub readers : List Root
  pub size : ℕ
  pub moment : ℤ

-- the same with another store
abbrev pub with_store : Setup → Store → Setup
with_store W other = record { store = other; choice = W.choice; rules = W.rules; readers = W.readers; size = W.size; moment = W.moment }
