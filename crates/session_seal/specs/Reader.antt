-- The reader's end of a session (ISO/IEC 18013-5, 9.1.1.4 and 9.1.1.5).
use Rattle.std.specs.Prelude.{ℕ, ◌+◌, List, Option, Some, None, Result, Ok, Err}
use Rattle.mdoc_outside.specs.declared.end.End.TheVariants.{Wallet, Reader}
use Rattle.cose_msgs.specs.Transcript.{transcript}
use Rattle.cose_msgs.specs.Written.{key_bytes}
use Rattle.key_device.specs.Plan.{Plan, Done, Then}
use Rattle.key_device.specs.declared.ask.Ask.TheVariants.{Agree}
use Rattle.key_device.specs.declared.made.Made.{Made}
use Rattle.key_device.specs.declared.point.Point.{Point}
use Rattle.key_device.specs.declared.told.Told.{Told}
use Rattle.key_device.specs.declared.told.Told.TheVariants as tells
use Rattle.session_seal.specs.declared.reader_end.ReaderEnd.{ReaderEnd}
use Rattle.session_seal.specs.declared.reader_end.ReaderEnd.TheVariants.{Device, PointRefused, SessionForm, PeerStatus, Sealed}
use Rattle.session_seal.specs.Ending.{Ending, silent, with_status}
use Rattle.session_seal.specs.Keys.{Keys, keys}
use Rattle.session_seal.specs.Messages.{SessionData, session_data}
use Rattle.session_seal.specs.Places.{opened_at, sealed_at}
use Rattle.session_seal.specs.WrittenMessages.{establishment_bytes, session_data_bytes}

-- before the ends agree: DeviceEngagement and Handover as bytes, the wallet's key, and the reader's own
pub record ReaderStart : Type 0 where
  pub engagement : List ℕ
  pub handover : List ℕ
  pub peer : Point
  pub made : Made

-- from then on: SessionTranscript, the session's keys, and the place of the message that is opened or sealed next
pub record ReaderSession : Type 0 where
  pub transcript : List ℕ
  pub keys : Keys
  pub place : ℕ

-- before the first message, with the bytes of the reader's own key, which that message says
pub record ReaderFirst : Type 0 where
  pub session : ReaderSession
  pub reader_key : List ℕ

-- an answer was opened, and its message had this status
pub record ReaderAnswer : Type 0 where
  pub session : ReaderSession
  pub status : Option ℕ

-- the device is asked for the secret, of which the keys are derived
abbrev pub first_session : ReaderStart → List ℕ → ReaderSession
first_session start secret =
    let of = transcript start.engagement (key_bytes start.made.public) start.handover in
    record { transcript = of; keys = keys secret of; place = 1 }

abbrev pub reader_told : ReaderStart → Told → Result ReaderFirst (Ending ReaderEnd)
reader_told start (tells.Secret secret) = Ok (record { session = first_session start secret; reader_key = key_bytes start.made.public })
reader_told start tells.Refused = Err (silent PointRefused)
reader_told start told = Err (silent Device)

unfoldable pub reader_agrees : ReaderStart → Plan (Result ReaderFirst (Ending ReaderEnd))
reader_agrees start = Then (Agree start.made.key start.peer) (λ told. Done (reader_told start told))

-- the first message, and a later one
abbrev pub request_text : ReaderSession → List ℕ → List ℕ
request_text session text = sealed_at session.keys.reader Reader session.place text

unfoldable pub reader_begins : ReaderFirst → List ℕ → List ℕ
reader_begins first text = establishment_bytes first.reader_key (request_text first.session text)

unfoldable pub reader_seals : ReaderSession → List ℕ → List ℕ
reader_seals session text = session_data_bytes (record { sealed = Some (request_text session text); status = None })

abbrev pub ReaderOpened : Type 0
ReaderOpened = Result (ReaderAnswer × List ℕ) (Ending ReaderEnd)

-- after an answer, the next request is sealed at the next place
abbrev pub next_request : ReaderSession → ReaderSession
next_request session = record session { place = session.place + 1 }

abbrev pub with_answer : ReaderSession → Option ℕ → Option (List ℕ) → ReaderOpened
with_answer session status (Some text) = Ok (record { session = next_request session; status = status }, text)
with_answer session status None = Err (with_status Sealed 10)

-- the wallet's message: one outside its form ends the session with status 11, one without a sealed text ends it, one
-- that isn't opened ends it with status 10
abbrev pub ending_without_text : Option ℕ → Ending ReaderEnd
ending_without_text (Some status) = silent (PeerStatus status)
ending_without_text None = with_status SessionForm 11

abbrev pub reader_fields : ReaderSession → Option (List ℕ) → Option ℕ → ReaderOpened
reader_fields session (Some sealed) status = with_answer session status (opened_at session.keys.device Wallet session.place sealed)
reader_fields session None status = Err (ending_without_text status)

abbrev pub reader_message : ReaderSession → Option SessionData → ReaderOpened
reader_message session (Some message) = reader_fields session message.sealed message.status
reader_message session None = Err (with_status SessionForm 11)

unfoldable pub reader_opens : ReaderSession → List ℕ → ReaderOpened
reader_opens session bytes = reader_message session (session_data bytes)
