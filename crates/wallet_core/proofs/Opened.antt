-- What a message is opened to: the session at its place, or an end whose last message is short.
use Rattle.std.proofs.Common.{◌≡◌, ◌<◌, ◌≤◌, ℕ, List, [], ◌∷◌, length, Option, Some, None, Ok, Err, refl, subst, arith}
use Rattle.std.specs.Prelude.{IfSome}
use Rattle.cbor_maps.specs.Writing.{key_bytes, map_head}
use Rattle.key_device.specs.Plan.{Follows, Walks}
use Rattle.key_device.specs.declared.exchange.Exchange.{Exchange}
use Rattle.key_device.specs.declared.told.Told.{Told}
use Rattle.key_device.specs.declared.told.Told.TheVariants.{Secret}
use Rattle.mdoc_outside.specs.declared.end.End.TheVariants.{Reader}
use Rattle.session_seal.specs.Ending.{Ending}
use Rattle.session_seal.specs.Messages.{Establishment, SessionData, establishment, session_data}
use Rattle.session_seal.specs.Places.{opened_at}
use Rattle.session_seal.specs.Wallet.{WalletOpened, WalletSession, WalletStart, first_message, first_text, session_of, wallet_establishes, wallet_fields, wallet_message, wallet_opens, with_text}
use Rattle.session_seal.specs.WrittenMessages.{session_data_bytes, status_bytes}
use Rattle.session_seal.specs.declared.wallet_end.WalletEnd.{WalletEnd}
use Rattle.wallet_model.proofs.Always.{Always}
use Rattle.wallet_core.proofs.Followed.{followed}

abbrev pub HasRoom : Ending WalletEnd → Type 0
HasRoom ending = IfSome ending.last_message (λ m. length m ≤ 9)

encryption-error : length (status_bytes 10) ≤ 9
unfolding session_data_bytes key_bytes map_head
encryption-error = omega arith

decoding-error : length (status_bytes 11) ≤ 9
unfolding session_data_bytes key_bytes map_head
decoding-error = omega arith

-- ---- a later message

abbrev OpenedAt : WalletSession → WalletOpened → Type 0
OpenedAt session (Ok now) = now.0 ≡ session
OpenedAt session (Err ending) = HasRoom ending

of_text : (session : WalletSession) (found : Option (List ℕ)) → OpenedAt session (with_text session found)
of_text session (Some text) = refl
of_text session None = encryption-error

of_fields : (session : WalletSession) (status : Option ℕ) (sealed : Option (List ℕ)) → OpenedAt session (wallet_fields session status sealed)
of_fields session (Some status) sealed = tt
of_fields session None (Some sealed) = of_text session (opened_at session.keys.reader Reader session.place sealed)
of_fields session None None = decoding-error

of_message : (session : WalletSession) (found : Option SessionData) → OpenedAt session (wallet_message session found)
of_message session (Some message) = of_fields session message.status message.sealed
of_message session None = decoding-error

of_bytes : (session : WalletSession) (bytes : List ℕ) → OpenedAt session (wallet_opens session bytes)
unfolding wallet_opens
of_bytes session bytes = of_message session (session_data bytes)

pub later_session : (session : WalletSession) (bytes : List ℕ) (now : WalletSession × List ℕ) → wallet_opens session bytes ≡ Ok now → now.0 ≡ session
later_session session bytes now is = subst (λ (opened : WalletOpened). OpenedAt session opened) is (of_bytes session bytes)

pub later_room : (session : WalletSession) (bytes : List ℕ) (ending : Ending WalletEnd) → wallet_opens session bytes ≡ Err ending → HasRoom ending
later_room session bytes ending is = subst (λ (opened : WalletOpened). OpenedAt session opened) is (of_bytes session bytes)

-- ---- the first message

abbrev OpenedFirst : WalletOpened → Type 0
OpenedFirst (Ok now) = now.0.place ≡ 1
OpenedFirst (Err ending) = HasRoom ending

of_first_text : (session : WalletSession) (found : Option (List ℕ)) → session.place ≡ 1 → OpenedFirst (with_text session found)
of_first_text session (Some text) first = first
of_first_text session None first = encryption-error

of_told : (start : WalletStart) (message : Establishment) (told : Told) → OpenedFirst (first_text start message told)
of_told start message (Secret secret) =
    let session = session_of start message secret in
    of_first_text session (opened_at session.keys.reader Reader session.place message.sealed) refl
of_told start message told = encryption-error

of_first : (start : WalletStart) (found : Option Establishment) → Always OpenedFirst (first_message start found)
of_first start None = decoding-error
of_first start (Some message) = λ told. of_told start message told

of_first_bytes : (start : WalletStart) (bytes : List ℕ) → Always OpenedFirst (wallet_establishes start bytes)
unfolding wallet_establishes
of_first_bytes start bytes = of_first start (establishment bytes)

pub first_place : (start : WalletStart) (bytes : List ℕ) {old new : List Exchange} (now : WalletSession × List ℕ)
    → Follows (wallet_establishes start bytes) old new (Some (Ok now)) → now.0.place ≡ 1
first_place start bytes now follows = followed OpenedFirst (wallet_establishes start bytes) (of_first_bytes start bytes) follows

pub first_room : (start : WalletStart) (bytes : List ℕ) {old new : List Exchange} (ending : Ending WalletEnd)
    → Follows (wallet_establishes start bytes) old new (Some (Err ending)) → HasRoom ending
first_room start bytes ending follows = followed OpenedFirst (wallet_establishes start bytes) (of_first_bytes start bytes) follows

-- A first message that is opened was agreed on.
is_agreed : (start : WalletStart) (found : Option Establishment) (gained : List Exchange) (now : WalletSession × List ℕ)
    → Walks (first_message start found) gained [] [] (Ok now) → 0 < length gained
is_agreed start None [] now walk = absurd cc
is_agreed start None (e ∷ es) now walk = absurd walk
is_agreed start (Some message) [] now walk = absurd walk
is_agreed start (Some message) (e ∷ es) now walk = omega arith

pub agreed : (start : WalletStart) (bytes : List ℕ) (gained : List Exchange) (now : WalletSession × List ℕ)
    → Walks (wallet_establishes start bytes) gained [] [] (Ok now) → 0 < length gained
unfolding wallet_establishes
agreed start bytes gained now walk = is_agreed start (establishment bytes) gained now walk
