-- What one end seals the other one opens.
use Rattle.std.proofs.Common.{◌≡◌, ℕ, ◌<◌, ◌≤◌, ◌^◌, Bool, true, false, List, [], ◌∷◌, length, Option, Some, None, Ok, refl, sym, ap, ◌∙◌, subst, arith}
use Rattle.mdoc_outside.specs.declared.end.End.{End}
use Rattle.mdoc_outside.specs.declared.end.End.TheVariants.{Wallet, Reader}
use Rattle.aes_gcm.proofs.SealingLemmas.{sealed_opens}
use Rattle.cose_msgs.specs.Written.{key_bytes}
use Rattle.key_device.specs.Plan.{Walks}
use Rattle.key_device.specs.Recording.{exchange}
use Rattle.key_device.specs.declared.ask.Ask.TheVariants.{Agree}
use Rattle.key_device.specs.declared.told.Told.TheVariants.{Secret}
use Rattle.session_seal.specs.Laws.{AnswerIsOpened, FirstIsOpened, HasLengths, RequestIsOpened, wallet_of}
use Rattle.session_seal.specs.Messages.{Establishment, session_data}
use Rattle.session_seal.specs.Places.{iv, opened_at, sealed_at, sealed_text}
use Rattle.session_seal.specs.Reader.{ReaderStart, first_session, reader_begins, reader_message, reader_opens, reader_seals, request_text, with_answer}
use Rattle.session_seal.specs.Wallet.{WalletStart, first_message, wallet_establishes, wallet_message, wallet_opens, wallet_seals, with_text}
use Rattle.session_seal.specs.WrittenMessages.{session_data_bytes, last_status}
use Rattle.session_seal.proofs.DataWritten.{data-read}
use Rattle.session_seal.proofs.EstablishmentWritten.{establishment-read}
use Rattle.session_seal.proofs.MessageBytes.{length-sealed_text}

-- at equal key and place
opened-sealed : (key : List ℕ) (end : End) (place : ℕ) (text : List ℕ) → opened_at key end place (sealed_at key end place text) ≡ Some text
unfolding sealed_text
opened-sealed key end place text = sealed_opens key (iv end place) text

sealed-short : (key : List ℕ) (end : End) (place : ℕ) (text : List ℕ) → length text ≤ 2 ^ 24 → length (sealed_at key end place text) < 2 ^ 32
sealed-short key end place text short = omega (arith, length-sealed_text key (iv end place) text)

-- a message with a sealed text is read as it was written
with-status : (sealed : List ℕ) (last : Bool) → length sealed < 2 ^ 32
    → session_data (session_data_bytes (record { sealed = Some sealed; status = last_status last })) ≡ Some (record { sealed = Some sealed; status = last_status last })
with-status sealed true short = data-read (record { sealed = Some sealed; status = Some 20 }) (record { field = refl; sealed = short; status = omega arith })
with-status sealed false short = data-read (record { sealed = Some sealed; status = None }) (record { field = refl; sealed = short; status = tt })

pub request-opened : RequestIsOpened
unfolding wallet_opens reader_seals
request-opened session key text short =
    let sealed = request_text session text in
    ap (wallet_message (wallet_of session key)) (with-status sealed false (sealed-short session.keys.reader Reader session.place text short))
    ∙ ap (with_text (wallet_of session key)) (opened-sealed session.keys.reader Reader session.place text)

pub answer-opened : AnswerIsOpened
unfolding reader_opens wallet_seals
answer-opened session key text last short =
    let sealed = sealed_at session.keys.device Wallet session.place text in
    ap (reader_message session) (with-status sealed last (sealed-short session.keys.device Wallet session.place text short))
    ∙ ap (with_answer session (last_status last)) (opened-sealed session.keys.device Wallet session.place text)

-- the wallet that has the reader's engagement and handover
abbrev with_reader : ReaderStart → ℕ → WalletStart
with_reader reader key = record { engagement = reader.engagement; handover = reader.handover; key = key }

abbrev first_of : ReaderStart → List ℕ → List ℕ → List ℕ
first_of reader secret text = reader_begins (record { session = first_session reader secret; reader_key = key_bytes reader.made.public }) text

-- the first message is opened by such a wallet
abbrev FirstOpens : WalletStart → ReaderStart → List ℕ → List ℕ → Type 0
FirstOpens wallet reader secret text =
    Walks (wallet_establishes wallet (first_of reader secret text))
    (exchange (Agree wallet.key reader.made.public) (Secret secret) ∷ []) [] []
    (Ok (wallet_of (first_session reader secret) reader.made.public, text))

with-reader-opened : (key : ℕ) (reader : ReaderStart) (secret text : List ℕ) → HasLengths reader.made.public → length text ≤ 2 ^ 24
    → FirstOpens (with_reader reader key) reader secret text
unfolding wallet_establishes reader_begins
with-reader-opened key reader secret text is short =
    let session = first_session reader secret in
    let public = reader.made.public in
    let sealed = request_text session text in
    let few = sealed-short session.keys.reader Reader 1 text short in
    subst (λ (m : Option Establishment). Walks (first_message (with_reader reader key) m) (exchange (Agree key public) (Secret secret) ∷ []) [] [] (Ok (wallet_of session public, text)))
    (sym (establishment-read public sealed is few))
    (refl, sym (ap (with_text (wallet_of session public)) (opened-sealed session.keys.reader Reader 1 text)))

pub first-opened : FirstIsOpened
first-opened wallet reader secret text shares is short =
    subst (λ (e : List ℕ). FirstOpens (record { engagement = e; handover = wallet.handover; key = wallet.key }) reader secret text) (sym shares.engagement)
    (subst (λ (h : List ℕ). FirstOpens (record { engagement = reader.engagement; handover = h; key = wallet.key }) reader secret text) (sym shares.handover)
    (with-reader-opened wallet.key reader secret text is short))
