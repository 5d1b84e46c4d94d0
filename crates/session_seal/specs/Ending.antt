-- How a session ends: the check that failed, or another cause, and the last message that is sent, if any.
use Rattle.std.specs.Prelude.{ℕ, List, Option, Some, None}
use Rattle.session_seal.specs.WrittenMessages.{status_bytes}

pub record Ending (Check : Type 0) : Type 0 where
  pub check : Check
  pub last_message : Option (List ℕ)

-- without a message, and with a status message
abbrev pub silent : {Check : Type 0} → Check → Ending Check
silent check = record { check = check; last_message = None }

abbrev pub with_status : {Check : Type 0} → Check → ℕ → Ending Check
with_status check status = record { check = check; last_message = Some (status_bytes status) }
