-- What is known of the messages and of both ends.
use Rattle.std.specs.Prelude.{◌≡◌, ℕ, ◌<◌, ◌≤◌, ◌^◌, Bool, true, List, [], ◌∷◌, length, Some, IfSome, Ok}
use Rattle.cose_msgs.specs.Written.{key_bytes}
use Rattle.key_device.specs.Plan.{Walks}
use Rattle.key_device.specs.Recording.{exchange}
use Rattle.key_device.specs.declared.ask.Ask.TheVariants.{Agree}
use Rattle.key_device.specs.declared.point.Point.{Point}
use Rattle.key_device.specs.declared.told.Told.TheVariants.{Secret}
use Rattle.session_seal.specs.Messages.{SessionData, session_data, has_field, establishment}
use Rattle.session_seal.specs.Reader.{ReaderFirst, ReaderStart, ReaderSession, first_session, next_request, reader_begins, reader_opens, reader_seals}
use Rattle.session_seal.specs.Wallet.{WalletStart, WalletSession, wallet_establishes, wallet_opens, wallet_seals}
use Rattle.session_seal.specs.WrittenMessages.{session_data_bytes, establishment_bytes, last_status}

-- SessionData that can be written: it has a field, a sealed text of less than 2 ^ 32 bytes, a number of 8 bytes
pub record IsWritable (message : SessionData) : Type 0 where
  pub field : has_field message ≡ true
  pub sealed : IfSome message.sealed (λ b. length b < 2 ^ 32)
  pub status : IfSome message.status (λ n. n < 2 ^ 64)

-- both coordinates have 32 bytes
pub record HasLengths (point : Point) : Type 0 where
  pub x : length point.x ≡ 32
  pub y : length point.y ≡ 32

-- SessionData that was written is read as it was given,
abbrev pub DataIsRead : Type 0
DataIsRead = (message : SessionData) → IsWritable message → session_data (session_data_bytes message) ≡ Some message

-- and so is SessionEstablishment.
abbrev pub EstablishmentIsRead : Type 0
EstablishmentIsRead =
    (point : Point) (sealed : List ℕ) → HasLengths point → length sealed < 2 ^ 32
    → establishment (establishment_bytes (key_bytes point) sealed) ≡ Some (record { reader_key = key_bytes point; point = point; sealed = sealed })

-- both ends have one engagement and one handover
pub record SharesEngagement (wallet : WalletStart) (reader : ReaderStart) : Type 0 where
  pub engagement : wallet.engagement ≡ reader.engagement
  pub handover : wallet.handover ≡ reader.handover

-- the wallet that has the reader's session
abbrev pub wallet_of : ReaderSession → Point → WalletSession
wallet_of session key = record { transcript = session.transcript; reader_key = key; keys = session.keys; place = session.place }

-- A reader that was told a secret begins, and a wallet that is told the same opens the text and has the session:
-- both have one transcript and the same keys.
abbrev pub FirstIsOpened : Type 0
FirstIsOpened =
    (wallet : WalletStart) (reader : ReaderStart) (secret text : List ℕ)
    → SharesEngagement wallet reader → HasLengths reader.made.public → length text ≤ 2 ^ 24
    → let session = first_session reader secret in
    let first : ReaderFirst = record { session = session; reader_key = key_bytes reader.made.public } in
    Walks (wallet_establishes wallet (reader_begins first text))
    (exchange (Agree wallet.key reader.made.public) (Secret secret) ∷ []) [] []
    (Ok (wallet_of session reader.made.public, text))

-- What the reader seals next the wallet opens at the same place,
abbrev pub RequestIsOpened : Type 0
RequestIsOpened =
    (session : ReaderSession) (key : Point) (text : List ℕ) → length text ≤ 2 ^ 24
    → wallet_opens (wallet_of session key) (reader_seals session text) ≡ Ok (wallet_of session key, text)

-- and what the wallet seals next the reader opens, with the status that stands there.
abbrev pub AnswerIsOpened : Type 0
AnswerIsOpened =
    (session : ReaderSession) (key : Point) (text : List ℕ) (last : Bool) → length text ≤ 2 ^ 24
    → reader_opens session (wallet_seals (wallet_of session key) text last)
    ≡ Ok (record { session = next_request session; status = last_status last }, text)
