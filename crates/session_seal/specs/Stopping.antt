-- What becomes of a state that is consumed: the next one, the end of the session, or itself where memory was wanting.
use Rattle.std.specs.Prelude.{ℕ, ◌≡◌, List, Option, Some, None, Result, Ok, Err}
use Rattle.key_device.specs.declared.exchange.Exchange.{Exchange}
use Rattle.session_seal.specs.declared.kept.Kept.{Kept}
use Rattle.session_seal.specs.declared.session_status.SessionStatus.{SessionStatus}
use Rattle.session_seal.specs.declared.session_status.SessionStatus.TheVariants.{Encryption, Decoding, Termination}
use Rattle.session_seal.specs.declared.stop.Stop.{Stop}
use Rattle.session_seal.specs.declared.stop.Stop.TheVariants.{Ended, Back, Spent}

-- a status of ISO/IEC 18013-5, table 20
abbrev pub status_number : SessionStatus → ℕ
status_number Encryption = 10
status_number Decoding = 11
status_number Termination = 20

-- A message was opened as a definition says, or the state is as it was.
abbrev pub Opens : {S O E : Type 0} → S → Result O E → Result O (Stop S E) → Type 0
Opens state opened (Ok outcome) = opened ≡ Ok outcome
Opens state opened (Err (Ended ending)) = opened ≡ Err ending
Opens state opened (Err (Back same)) = same ≡ state
Opens state opened (Err Spent) = ⊥

-- A text was sealed: this is the next state, and the message. Or the state is as it was.
abbrev pub Seals : {S T : Type 0} → S → T × List ℕ → Result (T × List ℕ) (Kept S) → Type 0
Seals state sealed (Ok outcome) = outcome ≡ sealed
Seals state sealed (Err kept) = kept.state ≡ state

-- What a call that asks came to: nothing where memory was wanting.
abbrev pub came_to : {S O E : Type 0} → Result O (Stop S E) → Option (Result O E)
came_to (Ok outcome) = Some (Ok outcome)
came_to (Err (Ended ending)) = Some (Err ending)
came_to (Err (Back state)) = None
came_to (Err Spent) = None

-- Where memory was wanting nothing was told, and the state is as it was.
abbrev pub Keeps : {S O E : Type 0} → S → List Exchange → List Exchange → Result O (Stop S E) → Type 0
Keeps state old new (Ok outcome) = Unit {0}
Keeps state old new (Err (Ended ending)) = Unit {0}
Keeps state old new (Err (Back same)) = (same ≡ state) × (new ≡ old)
Keeps state old new (Err Spent) = ⊥
