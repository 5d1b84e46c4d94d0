-- The wallet's end of a session (ISO/IEC 18013-5, 9.1.1.4 and 9.1.1.5).
use Rattle.std.specs.Prelude.{ℕ, ◌+◌, Bool, List, Option, Some, None, Result, Ok, Err}
use Rattle.mdoc_outside.specs.declared.end.End.TheVariants.{Wallet, Reader}
use Rattle.cose_msgs.specs.Transcript.{transcript}
use Rattle.key_device.specs.Plan.{Plan, Done, Then}
use Rattle.key_device.specs.declared.ask.Ask.TheVariants.{Agree}
use Rattle.key_device.specs.declared.point.Point.{Point}
use Rattle.key_device.specs.declared.told.Told.{Told}
use Rattle.key_device.specs.declared.told.Told.TheVariants.{Secret}
use Rattle.session_seal.specs.declared.wallet_end.WalletEnd.{WalletEnd}
use Rattle.session_seal.specs.declared.wallet_end.WalletEnd.TheVariants.{MessageForm, PeerStatus, Refused, Sealed}
use Rattle.session_seal.specs.Ending.{Ending, silent, with_status}
use Rattle.session_seal.specs.Keys.{Keys, keys}
use Rattle.session_seal.specs.Messages.{SessionData, session_data, Establishment, establishment}
use Rattle.session_seal.specs.Places.{opened_at, sealed_at}
use Rattle.session_seal.specs.WrittenMessages.{last_status, session_data_bytes}

-- before the first message: DeviceEngagement and Handover as bytes, and the number of the wallet's own key
pub record WalletStart : Type 0 where
  pub engagement : List ℕ
  pub handover : List ℕ
  pub key : ℕ

-- from then on: SessionTranscript, the reader's key, the session's keys, and the place of the message that is opened
-- or sealed next
pub record WalletSession : Type 0 where
  pub transcript : List ℕ
  pub reader_key : Point
  pub keys : Keys
  pub place : ℕ

abbrev pub WalletOpened : Type 0
WalletOpened = Result (WalletSession × List ℕ) (Ending WalletEnd)

-- the sealed text that came at the session's place is opened, or the session ends with status 10
abbrev pub with_text : WalletSession → Option (List ℕ) → WalletOpened
with_text session (Some text) = Ok (session, text)
with_text session None = Err (with_status Sealed 10)

abbrev pub wallet_text : WalletSession → List ℕ → WalletOpened
wallet_text session sealed = with_text session (opened_at session.keys.reader Reader session.place sealed)

-- a later message: one outside its form ends the session with status 11, one with a status ends it
abbrev pub wallet_fields : WalletSession → Option ℕ → Option (List ℕ) → WalletOpened
wallet_fields session (Some status) sealed = Err (silent (PeerStatus status))
wallet_fields session None (Some sealed) = wallet_text session sealed
wallet_fields session None None = Err (with_status MessageForm 11)

abbrev pub wallet_message : WalletSession → Option SessionData → WalletOpened
wallet_message session (Some message) = wallet_fields session message.status message.sealed
wallet_message session None = Err (with_status MessageForm 11)

unfoldable pub wallet_opens : WalletSession → List ℕ → WalletOpened
wallet_opens session bytes = wallet_message session (session_data bytes)

-- the first message: the device is asked for the secret, of which the keys are derived, and the text is at place 1
abbrev pub session_of : WalletStart → Establishment → List ℕ → WalletSession
session_of start message secret =
    let of = transcript start.engagement message.reader_key start.handover in
    record { transcript = of; reader_key = message.point; keys = keys secret of; place = 1 }

abbrev pub first_text : WalletStart → Establishment → Told → WalletOpened
first_text start message (Secret secret) = wallet_text (session_of start message secret) message.sealed
first_text start message told = Err (with_status Refused 10)

abbrev pub first_message : WalletStart → Option Establishment → Plan WalletOpened
first_message start None = Done (Err (with_status MessageForm 11))
first_message start (Some message) = Then (Agree start.key message.point) (λ told. Done (first_text start message told))

unfoldable pub wallet_establishes : WalletStart → List ℕ → Plan WalletOpened
wallet_establishes start bytes = first_message start (establishment bytes)

-- the answer, which may be the last one
unfoldable pub wallet_seals : WalletSession → List ℕ → Bool → List ℕ
wallet_seals session text last =
    session_data_bytes (record { sealed = Some (sealed_at session.keys.device Wallet session.place text); status = last_status last })

-- after the answer, the next message of the reader is opened at the next place
abbrev pub next_place : WalletSession → WalletSession
next_place session = record session { place = session.place + 1 }
