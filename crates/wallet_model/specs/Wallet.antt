-- The whole wallet: what it announces, its rounds over the messages of the fragments that came, how it ends, and what it
-- sends (ISO/IEC 18013-5, 8.2.1, 8.3.3.1.1 and 9.1.1).
use Rattle.std.specs.Prelude.{ℕ, List, [], ◌∷◌, ◌++◌, Option, Some, None, Result, Ok, Err}
use Rattle.std.specs.Int.{w64, to_be_bytes}
use Rattle.std.specs.List.{flat_map}
use Rattle.ble_fragments.specs.Cut.{fragments_of}
use Rattle.ble_fragments.specs.Whole.{whole}
use Rattle.ble_fragments.specs.declared.ending.Ending as lists
use Rattle.ble_fragments.specs.declared.ending.Ending.TheVariants.{Open, Peer, Bad}
use Rattle.cbor_view.specs.Shortest.{null_bytes}
use Rattle.engagement.specs.WrittenEngagement.{engagement_bytes}
use Rattle.key_device.specs.Plan.{Plan, Done, Then, Draw, bind}
use Rattle.key_device.specs.PlanSteps.{◌>>=◌}
use Rattle.key_device.specs.declared.ask.Ask.TheVariants.{Fresh}
use Rattle.key_device.specs.declared.device_fault.DeviceFault.{DeviceFault}
use Rattle.key_device.specs.declared.device_fault.DeviceFault.TheVariants.{Failed}
use Rattle.key_device.specs.declared.made.Made.{Made}
use Rattle.key_device.specs.declared.told.Told.{Told}
use Rattle.key_device.specs.declared.told.Told.TheVariants as tells
use Rattle.mdoc_outside.specs.declared.fragment.Fragment.{Fragment}
use Rattle.round_model.specs.Rounds.{Session, session, replies_of, entries_of, end_of_rounds}
use Rattle.session_seal.specs.Wallet.{WalletOpened, WalletStart, wallet_establishes}
use Rattle.session_seal.specs.declared.wallet_end.WalletEnd.{WalletEnd}
use Rattle.session_seal.specs.declared.wallet_end.WalletEnd.TheVariants.{PeerEnded, NoSession, BadFragment}
use Rattle.wallet_model.specs.Round.{round}
use Rattle.wallet_model.specs.Setup.{Setup}
use Rattle.wallet_model.specs.declared.released_at.ReleasedAt.{ReleasedAt}

-- ---- the start

-- the UUID of the peripheral server: two words, the first one first
unfoldable pub uuid : ℕ → ℕ → List ℕ
uuid first second = to_be_bytes w64 first ++ to_be_bytes w64 second

-- what is announced by a QR code: the engagement of the key that was made, and no handover
unfoldable pub announced : List ℕ → Made → WalletStart
announced id made = record { engagement = engagement_bytes made.public (Some id); handover = null_bytes; key = made.key }

abbrev pub started_with : List ℕ → Told → Result WalletStart DeviceFault
started_with id (tells.Made made) = Ok (announced id made)
started_with id told = Err Failed

-- Two words are drawn, and the device is asked for a fresh key. A wallet whose device fails doesn't start.
unfoldable pub started : Plan (Result WalletStart DeviceFault)
started = Draw (λ first. Draw (λ second. Then Fresh (λ told. Done (started_with (uuid first second) told))))

-- ---- the rounds

abbrev pub WalletRounds : Type 0
WalletRounds = Session WalletOpened ReleasedAt WalletEnd

-- The first message brings what both ends agree on, and the rounds are those of all messages, up to the first that ends
-- the session.
abbrev pub wallet_session : Setup → WalletStart → List (List ℕ) → Plan WalletRounds
wallet_session W start messages = session (wallet_establishes start) (λ first. round W) messages

-- What a wallet comes to: what it announces, and its rounds.
pub record Run : Type 0 where
  pub start : WalletStart
  pub session : WalletRounds

abbrev pub run_of : WalletStart → WalletRounds → Plan (Result Run DeviceFault)
run_of start rounds = Done (Ok (record { start = start; session = rounds }))

abbrev pub run_from : Setup → List Fragment → WalletStart → Plan (Result Run DeviceFault)
run_from W came start = bind (wallet_session W start (whole came).messages) (run_of start)

-- The whole wallet, by the fragments that came.
unfoldable pub wallet : Setup → List Fragment → Plan (Result Run DeviceFault)
wallet W came = started >>= run_from W came

-- ---- what it gives

abbrev pub replies : Run → List (List ℕ)
replies run = replies_of run.session.rounds

-- the places of all that was released
abbrev pub released_in : Run → List ReleasedAt
released_in run = entries_of run.session.rounds

-- by a reader that went away: before or after a reply
abbrev pub peer_end : List (List ℕ) → WalletEnd
peer_end [] = NoSession
peer_end (reply ∷ replies) = PeerEnded

-- by how the list of fragments ends
abbrev pub end_by_list : List (List ℕ) → lists.Ending → Option WalletEnd
end_by_list replies Open = None
end_by_list replies Peer = Some (peer_end replies)
end_by_list replies (Bad fault) = Some (BadFragment fault)

abbrev pub or_by_list : Option WalletEnd → List (List ℕ) → lists.Ending → Option WalletEnd
or_by_list (Some end) replies ending = Some end
or_by_list None replies ending = end_by_list replies ending

-- The end: that of the round that ended the session; where none did, by how the list of fragments ends.
abbrev pub end_of : Run → lists.Ending → Option WalletEnd
end_of run ending = or_by_list (end_of_rounds run.session.rounds) (replies run) ending

-- a link that is closed is as State 2
abbrev pub closed : lists.Ending → lists.Ending
closed Open = Peer
closed Peer = Peer
closed (Bad fault) = Bad fault

-- The fragments that are sent: each reply, cut.
abbrev pub sent : Setup → Run → List Fragment
sent W run = flat_map (fragments_of W.size) (replies run)
