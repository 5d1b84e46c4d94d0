-- A round of the wallet (ISO/IEC 18013-5, 9.1.1.4): what it does with the message at a place of the reader's messages, the
-- first of which is at place 1. It depends on the setup, the message and what the first message was opened to alone; no
-- state is carried from round to round.
use Rattle.std.specs.Prelude.{ℕ, ◌==◌, Bool, true, false, List, [], Option, Some, None, Ok, Err, if◌then◌else◌}
use Rattle.key_device.specs.Plan.{Plan, Done}
use Rattle.key_device.specs.PlanSteps.{mapped}
use Rattle.round_model.specs.Rounds.{Round}
use Rattle.session_seal.specs.Ending.{Ending}
use Rattle.session_seal.specs.Wallet.{WalletOpened, WalletSession, wallet_opens, wallet_seals}
use Rattle.session_seal.specs.declared.wallet_end.WalletEnd.{WalletEnd}
use Rattle.session_seal.specs.declared.wallet_end.WalletEnd.TheVariants.{Thousand}
use Rattle.wallet_model.specs.Answer.{Answer, answer}
use Rattle.wallet_model.specs.Setup.{Setup}
use Rattle.wallet_model.specs.declared.released_at.ReleasedAt.{ReleasedAt}

abbrev pub WalletRound : Type 0
WalletRound = Round ReleasedAt WalletEnd

-- The session at a place: its transcript and keys are those of the first message and of the secret that was told.
abbrev pub session_at : WalletSession → ℕ → WalletSession
session_at session place = record { transcript = session.transcript; reader_key = session.reader_key; keys = session.keys; place = place }

-- What a message is opened to: the first one to what its agreement came to, a later one by the session at its place.
abbrev pub later_opened : WalletOpened → ℕ → List ℕ → WalletOpened
later_opened (Ok first) place message = wallet_opens (session_at first.0 place) message
later_opened (Err ending) place message = Err ending

abbrev pub opened : WalletOpened → ℕ → List ℕ → WalletOpened
opened first place message = if place == 1 then first else later_opened first place message

-- The thousandth answer is the last one: it has status 20, with which the session ends.
abbrev pub is_last : ℕ → Bool
is_last place = place == 1000

abbrev pub end_if : Bool → Option WalletEnd
end_if true = Some Thousand
end_if false = None

abbrev pub answered_round : WalletSession → Answer → WalletRound
answered_round session answer = record {
  reply = Some (wallet_seals session answer.text (is_last session.place));
  entries = answer.places;
  ended = end_if (is_last session.place);
}

abbrev pub ended_round : Ending WalletEnd → WalletRound
ended_round ending = record { reply = ending.last_message; entries = []; ended = Some ending.check }

-- A message that isn't opened ends the session, with a status message or without one; else the text is answered.
abbrev pub round_of : Setup → WalletOpened → Plan WalletRound
round_of W (Ok now) = mapped (answered_round now.0) (answer W now.0 now.1)
round_of W (Err ending) = Done (ended_round ending)

unfoldable pub round : Setup → WalletOpened → ℕ → List ℕ → Plan WalletRound
round W first place message = round_of W (opened first place message)
