-- Two wallets whose stores agree ask and answer alike.
use Rattle.std.proofs.Common.{◌≡◌, ℕ, List, [], ◌∷◌, Bool, true, false, ◌&&◌, map, Option, Some, None, Result, Ok, Err, refl, sym, ◌∙◌, ap}
use Rattle.std.specs.List.{AllByRecursion, list_all}
use Rattle.std.proofs.lemmas.List.Elements.{recursion_from_All}
use Rattle.ble_fragments.specs.Whole.{whole}
use Rattle.doc_request.specs.Asked.{Asked, NotCbor, NoRequest, Documents, Document, asked}
use Rattle.doc_store.specs.Agreement.{CopyOutline, DocumentOutline, copy_outline, outline}
use Rattle.doc_store.specs.Held.{Place, item_at}
use Rattle.doc_store.specs.Store.{Copy, Store}
use Rattle.doc_store.proofs.AgreeLemmas.{same_presence}
use Rattle.key_device.specs.Plan.{Plan, Done, over_all}
use Rattle.key_device.specs.PlanSteps.{each, unless_fault}
use Rattle.key_device.specs.declared.device_fault.DeviceFault.{DeviceFault}
use Rattle.key_device.specs.declared.exchange.Exchange.{Exchange}
use Rattle.key_device.proofs.CourseLemmas.{over_same, outcome_bind}
use Rattle.mdoc_outside.specs.declared.fragment.Fragment.{Fragment}
use Rattle.round_model.specs.RoundLaws.{AnswersAlike}
use Rattle.round_model.proofs.AlikeLemmas.{are_sessions_alike, in_parts}
use Rattle.session_seal.specs.Wallet.{WalletOpened, WalletSession, WalletStart, wallet_establishes}
use Rattle.session_seal.specs.declared.wallet_end.WalletEnd.{WalletEnd}
use Rattle.wallet_model.specs.Agreement.{AgreeImplies, CopyFrame, DocumentFrame, copy_frame, frame}
use Rattle.wallet_model.specs.Answer.{Answer, answer, answer_asked, answer_request, answer_selections, answer_to_readers, answer_with, authenticated, known_readers, places_of}
use Rattle.wallet_model.specs.Laws.{AreStoresAlike, IsDeniedAbsent, places_released}
use Rattle.wallet_model.specs.Released.{Selection, choices, selections, stored_place}
use Rattle.wallet_model.specs.Round.{WalletRound, answered_round, opened, round, round_of}
use Rattle.wallet_model.specs.Setup.{Setup, with_store}
use Rattle.wallet_model.specs.Wallet.{Run, released_in, run_from, run_of, started, wallet, wallet_session}
use Rattle.wallet_model.specs.declared.released_at.ReleasedAt.{ReleasedAt}
use Rattle.wallet_model.proofs.Always.{OfValue, always_outcome}
use Rattle.wallet_model.proofs.ReaderNames.{IsReader, are_known}
use Rattle.wallet_model.proofs.SelectionsAlike.{Agreeing, is_same_at, items_same, selections_same}

-- ---- an answer

-- what the places of an answer are, where there is one
abbrev answer_places : Option Answer → List ReleasedAt
answer_places None = []
answer_places (Some given) = given.places

abbrev IsWithin : Setup → Store → List ReleasedAt → Type 0
IsWithin W other places = list_all (is_same_at W other) places ≡ true

-- the answer to selections has their places
selected_places : (session : WalletSession) (list : List Selection) (tape other : List Exchange) (words : List ℕ) (given : Answer)
    → (over_all (answer_selections session list) tape other words).outcome ≡ Some given → given.places ≡ places_of list
unfolding answer_selections
selected_places session list tape other words given is =
    let parts = in_parts (each (authenticated session) (choices list)) (λ documents. Done (answer_with list documents)) tape other words given is in
    sym (ap answer_places parts.after)

request_alike : (W : Setup) (second : Store) (session : WalletSession) (documents : List Document) (tape other : List Exchange) (words : List ℕ) (given : Answer)
    → Agreeing W second → (over_all (answer_request W session documents) tape other words).outcome ≡ Some given → IsWithin W second given.places
    → over_all (answer_request (with_store W second) session documents) tape other words ≡ over_all (answer_request W session documents) tape other words
unfolding answer_request
request_alike W second session documents tape other words given agree is fits =
    over_same readers readers (answer_to_readers W session documents) (answer_to_readers (with_store W second) session documents) tape other words refl
    (λ known came. both known (always_outcome (OfValue (AllByRecursion (IsReader W.readers))) readers tape other words known (are_known W session.transcript documents) came)
    (sym (outcome_bind readers (answer_to_readers W session documents) tape other words known came) ∙ is))
  where
    readers : Plan (Result (List (Option (List ℕ))) DeviceFault)
    readers = known_readers W session.transcript documents

    course_of : Plan Answer → Option Answer
    course_of p = (over_all p (over_all readers tape other words).left (over_all readers tape other words).left_other (over_all readers tape other words).left_words).outcome

    both : (known : Result (List (Option (List ℕ))) DeviceFault) → OfValue (AllByRecursion (IsReader W.readers)) known
        → (over_all (answer_to_readers W session documents known) (over_all readers tape other words).left (over_all readers tape other words).left_other (over_all readers tape other words).left_words).outcome ≡ Some given
        → over_all (answer_to_readers (with_store W second) session documents known) (over_all readers tape other words).left (over_all readers tape other words).left_other (over_all readers tape other words).left_words
        ≡ over_all (answer_to_readers W session documents known) (over_all readers tape other words).left (over_all readers tape other words).left_other (over_all readers tape other words).left_words
    both (Err fault) are came = refl
    both (Ok known) are came =
        ap (λ (list : List Selection). over_all (answer_selections session list) (over_all readers tape other words).left (over_all readers tape other words).left_other (over_all readers tape other words).left_words)
        (selections_same W second documents known agree are
        (ap (list_all (is_same_at W second)) (sym (selected_places session (selections W documents known) _ _ _ given came)) ∙ fits))

asked_alike : (W : Setup) (second : Store) (session : WalletSession) (asks : Asked) (tape other : List Exchange) (words : List ℕ) (given : Answer)
    → Agreeing W second → (over_all (answer_asked W session asks) tape other words).outcome ≡ Some given → IsWithin W second given.places
    → over_all (answer_asked (with_store W second) session asks) tape other words ≡ over_all (answer_asked W session asks) tape other words
asked_alike W second session NotCbor tape other words given agree is fits = refl
asked_alike W second session NoRequest tape other words given agree is fits = refl
asked_alike W second session (Documents documents) tape other words given agree is fits =
    request_alike W second session documents tape other words given agree is fits

answer_alike : (W : Setup) (second : Store) (session : WalletSession) (text : List ℕ) (tape other : List Exchange) (words : List ℕ) (given : Answer)
    → Agreeing W second → (over_all (answer W session text) tape other words).outcome ≡ Some given → IsWithin W second given.places
    → over_all (answer (with_store W second) session text) tape other words ≡ over_all (answer W session text) tape other words
unfolding answer
answer_alike W second session text tape other words given agree is fits =
    asked_alike W second session (asked text) tape other words given agree is fits

-- ---- a round

abbrev round_entries : Option WalletRound → List ReleasedAt
round_entries None = []
round_entries (Some round) = round.entries

opened_alike : (W : Setup) (second : Store) (now : WalletOpened) (tape other : List Exchange) (words : List ℕ) (given : WalletRound)
    → Agreeing W second → (over_all (round_of W now) tape other words).outcome ≡ Some given → IsWithin W second given.entries
    → over_all (round_of (with_store W second) now) tape other words ≡ over_all (round_of W now) tape other words
opened_alike W second (Ok now) tape other words given agree is fits =
    let parts = in_parts (answer W now.0 now.1) (λ answer. Done (answered_round now.0 answer)) tape other words given is in
    over_same (answer W now.0 now.1) (answer (with_store W second) now.0 now.1) (λ answer. Done (answered_round now.0 answer)) (λ answer. Done (answered_round now.0 answer)) tape other words
    (answer_alike W second now.0 now.1 tape other words parts.middle agree parts.before
    (ap (λ (round : Option WalletRound). list_all (is_same_at W second) (round_entries round)) parts.after ∙ fits))
    (λ answer came. refl)
opened_alike W second (Err ending) tape other words given agree is fits = refl

rounds_alike : (W : Setup) (second : Store) (first : WalletOpened) → Agreeing W second
    → AnswersAlike (is_same_at W second) (round W first) (round (with_store W second) first)
unfolding round
rounds_alike W second first agree place message tape other words given is fits =
    opened_alike W second (opened first place message) tape other words given agree is fits

-- ---- the whole wallet

-- the places that a run released
abbrev run_places : Option (Result Run DeviceFault) → List ReleasedAt
run_places None = []
run_places (Some (Ok run)) = released_in run
run_places (Some (Err fault)) = []

from_alike : (W : Setup) (second : Store) (came : List Fragment) (start : WalletStart) (tape other : List Exchange) (words : List ℕ) (result : Result Run DeviceFault)
    → Agreeing W second → (over_all (run_from W came start) tape other words).outcome ≡ Some result → IsWithin W second (run_places (Some result))
    → over_all (run_from (with_store W second) came start) tape other words ≡ over_all (run_from W came start) tape other words
from_alike W second came start tape other words result agree is fits =
    let messages = (whole came).messages in
    let parts = in_parts (wallet_session W start messages) (run_of start) tape other words result is in
    over_same (wallet_session W start messages) (wallet_session (with_store W second) start messages) (run_of start) (run_of start) tape other words
    (are_sessions_alike (List ℕ) WalletOpened ReleasedAt WalletEnd (is_same_at W second) (wallet_establishes start) (λ first. round W) (λ first. round (with_store W second))
    (λ message first. rounds_alike W second first agree) messages tape other words parts.middle parts.before
    (ap (λ (found : Option (Result Run DeviceFault)). list_all (is_same_at W second) (run_places found)) parts.after ∙ fits))
    (λ rounds came. refl)

-- equal items at the places of what was released
all_same : (W : Setup) (second : Store) (list : List ReleasedAt)
    → AllByRecursion (λ (place : Place). item_at W.store place ≡ item_at second place) (map (stored_place W) list) → IsWithin W second list
all_same W second [] same = refl
all_same W second (at ∷ list) same =
    both_true _ _ (items_same (item_at W.store (stored_place W at)) (item_at second (stored_place W at)) same.0) (all_same W second list same.1)
  where
    both_true : (a b : Bool) → a ≡ true → b ≡ true → (a && b) ≡ true
    both_true true b is_a is_b = is_b
    both_true false b is_a is_b = cc

run_within : (W : Setup) (second : Store) (result : Result Run DeviceFault)
    → AllByRecursion (λ (place : Place). item_at W.store place ≡ item_at second place) (places_released W result) → IsWithin W second (run_places (Some result))
run_within W second (Ok run) same = all_same W second (released_in run) same
run_within W second (Err fault) same = refl

pub is_denied_absent : IsDeniedAbsent
unfolding wallet
is_denied_absent W second came tape words result is agree =
    over_same started started (unless_fault (run_from W came)) (unless_fault (run_from (with_store W second) came)) tape [] words refl
    (λ start began. both start (sym (outcome_bind started (unless_fault (run_from W came)) tape [] words start began) ∙ is))
  where
    agreeing : Agreeing W second
    agreeing = record { frames = agree.frames; alike = agree.alike }

    within : IsWithin W second (run_places (Some result))
    within = run_within W second result (recursion_from_All (λ (place : Place). item_at W.store place ≡ item_at second place) (places_released W result) agree.items)

    both : (start : Result WalletStart DeviceFault)
        → (over_all (unless_fault (run_from W came) start) (over_all started tape [] words).left (over_all started tape [] words).left_other (over_all started tape [] words).left_words).outcome ≡ Some result
        → over_all (unless_fault (run_from (with_store W second) came) start) (over_all started tape [] words).left (over_all started tape [] words).left_other (over_all started tape [] words).left_words
        ≡ over_all (unless_fault (run_from W came) start) (over_all started tape [] words).left (over_all started tape [] words).left_other (over_all started tape [] words).left_words
    both (Ok start) goes = from_alike W second came start _ _ _ result agreeing goes within
    both (Err fault) goes = refl

-- ---- stores that agree

-- what an outline says without the names
abbrev copy_of_outline : CopyOutline → CopyFrame
copy_of_outline copy = record { key = copy.key; used = copy.used; issuer_auth = copy.issuer_auth }

abbrev frame_of_outline : DocumentOutline → DocumentFrame
frame_of_outline document = record { doc_type = document.doc_type; uses_mac = document.uses_mac; copies = map copy_of_outline document.copies }

copies_framed : (copies : List Copy) → map copy_of_outline (map copy_outline copies) ≡ map copy_frame copies
copies_framed [] = refl
copies_framed (copy ∷ copies) = ap (λ (frames : List CopyFrame). copy_frame copy ∷ frames) (copies_framed copies)

framed : (documents : Store) → map frame_of_outline (map outline documents) ≡ map frame documents
framed [] = refl
framed (document ∷ documents) =
    ap (λ (copies : List CopyFrame). record { doc_type = document.doc_type; uses_mac = document.uses_mac; copies = copies } ∷ map frame_of_outline (map outline documents)) (copies_framed document.copies)
    ∙ ap (λ (frames : List DocumentFrame). frame document ∷ frames) (framed documents)

pub agree_implies : AgreeImplies
agree_implies one other rules readers places agree = record {
  frames = sym (framed one) ∙ ap (map frame_of_outline) agree.outlines ∙ framed other;
  alike = λ wish reader document copy found known allowed. same_presence one other places agree _;
  items = agree.items;
}

pub are_stores_alike : AreStoresAlike
are_stores_alike W second came tape words result is agree =
    is_denied_absent W second came tape words result is (agree_implies W.store second W.rules W.readers (places_released W result) agree)
