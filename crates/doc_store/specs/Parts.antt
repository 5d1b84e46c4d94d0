-- What readings give.
use Rattle.std.specs.Prelude.{Option, unwrap_or}

-- what a reading gives, and something else where it gives nothing
abbrev pub value_or : {A B : Type 0} → B → (A → Option B) → A → B
value_or other says x = unwrap_or (says x) other
