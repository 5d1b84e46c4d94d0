-- Nothing is released in a round that asks no question.
use Rattle.std.proofs.Common.{◌≡◌, ℕ, List, [], ◌∷◌, Bool, true, false, cond, Option, Some, Result, Ok, Err, refl, sym, ◌∙◌, ap, subst, append-nil}
use Rattle.std.proofs.lemmas.List.{append_cancel_left}
use Rattle.std.specs.List.{flat_map}
use Rattle.doc_request.specs.Asked.{Asked, Document, Documents, NoRequest, NotCbor, asked}
use Rattle.key_device.specs.Plan.{Plan, Done, Then, Other, Draw, Follows, Walks, bind}
use Rattle.key_device.specs.PlanSteps.{each, mapped}
use Rattle.key_device.specs.declared.device_fault.DeviceFault.{DeviceFault}
use Rattle.key_device.specs.declared.exchange.Exchange.{Exchange}
use Rattle.session_seal.specs.Wallet.{WalletOpened, WalletSession, WalletStart, wallet_establishes, wallet_opens}
use Rattle.wallet_model.specs.Answer.{Answer, answer, answer_asked, answer_request, answer_selections, answer_to_readers, answer_with, authenticated, device_auth, known_readers, mac_auth, signed_auth}
use Rattle.wallet_model.specs.Released.{ReleasedDocument, Selection, choices, selections}
use Rattle.wallet_model.specs.Round.{WalletRound, round_of}
use Rattle.wallet_model.specs.Setup.{Setup}
use Rattle.wallet_model.specs.Stands as states
use Rattle.wallet_model.specs.Stands.{NodeState}
use Rattle.wallet_core.specs.RoundView.{round_seen}
use Rattle.wallet_core.specs.declared.round.Round.{Round}
use Rattle.wallet_core.specs.Rounds.{first_plan, next_plan}
use Rattle.wallet_core.specs.Answering.{IsRoundOf}

-- a fact of the outcome that a plan comes to with no question asked
abbrev UnlessAsked : {A : Type 0} → (A → Type 0) → Plan A → Type 0
UnlessAsked P (Done a) = P a
UnlessAsked P (Then ask next) = Unit {0}
UnlessAsked P (Other ask next) = Unit {0}
UnlessAsked P (Draw next) = Unit {0}

unless_bind : {A B : Type 0} (P : A → Type 0) (Q : B → Type 0) (p : Plan A) (f : A → Plan B)
    → UnlessAsked P p → ((a : A) → P a → UnlessAsked Q (f a)) → UnlessAsked Q (bind p f)
unless_bind P Q (Done a) f holds then = then a holds
unless_bind P Q (Then ask next) f holds then = tt
unless_bind P Q (Other ask next) f holds then = tt
unless_bind P Q (Draw next) f holds then = tt

abbrev Anything : {A : Type 0} → A → Type 0
Anything a = Unit {0}

abbrev Nothing : {A : Type 0} → A → Type 0
Nothing a = ⊥

unless_anything : {A : Type 0} (p : Plan A) → UnlessAsked Anything p
unless_anything (Done a) = tt
unless_anything (Then ask next) = tt
unless_anything (Other ask next) = tt
unless_anything (Draw next) = tt

unless_walks : {A : Type 0} (P : A → Type 0) (p : Plan A) (a : A) → UnlessAsked P p → Walks p [] [] [] a → P a
unless_walks P (Done x) a holds walk = subst P (sym walk) holds
unless_walks P (Then ask next) a holds walk = absurd walk
unless_walks P (Other ask next) a holds walk = absurd walk
unless_walks P (Draw next) a holds walk = absurd walk

unless_followed : {A : Type 0} (P : A → Type 0) (p : Plan A) {old new : List Exchange} (a : A) → UnlessAsked P p → Follows p old new (Some a) → new ≡ old → P a
unless_followed P p {old} a holds follows same =
    let none : follows.gained ≡ [] = append_cancel_left old follows.gained [] (sym follows.joined ∙ same ∙ sym (append-nil old)) in
    unless_walks P p a holds (subst (λ (es : List Exchange). Walks p es [] [] a) none follows.fits)

-- ---- the answer to a text

abbrev NoPlaces : Answer → Type 0
NoPlaces given = given.places ≡ []

-- a document of which something is released is authenticated by a question
device_asks : (session : WalletSession) (c : ReleasedDocument) → UnlessAsked Nothing (device_auth session c)
unfolding device_auth
device_asks session c = by c.uses_mac
  where
    by : (uses_mac : Bool) → UnlessAsked Nothing (cond uses_mac (mac_auth session c) (signed_auth session c))
    by true = tt
    by false = tt

authenticated_asks : (session : WalletSession) (c : ReleasedDocument) → UnlessAsked Nothing (authenticated session c)
unfolding authenticated
authenticated_asks session c = unless_bind Nothing Nothing (device_auth session c) _ (device_asks session c) (λ auth no. absurd no)

each_asks : (session : WalletSession) (c : ReleasedDocument) (cs : List ReleasedDocument) → UnlessAsked Nothing (each (authenticated session) (c ∷ cs))
each_asks session c cs = unless_bind Nothing Nothing (authenticated session c) _ (authenticated_asks session c) (λ document no. absurd no)

selections_unasked : (session : WalletSession) (list : List Selection) → UnlessAsked NoPlaces (answer_selections session list)
unfolding answer_selections
selections_unasked session list = by (choices list) refl
  where
    by : (chosen : List ReleasedDocument) → choices list ≡ chosen → UnlessAsked NoPlaces (mapped (answer_with list) (each (authenticated session) chosen))
    by [] is = ap (λ (found : List ReleasedDocument). flat_map (λ (c : ReleasedDocument). c.places) found) is
    by (c ∷ cs) is = unless_bind Nothing NoPlaces (each (authenticated session) (c ∷ cs)) _ (each_asks session c cs) (λ documents no. absurd no)

readers_unasked : (W : Setup) (session : WalletSession) (documents : List Document) (readers : Result (List (Option (List ℕ))) DeviceFault)
    → UnlessAsked NoPlaces (answer_to_readers W session documents readers)
readers_unasked W session documents (Ok readers) = selections_unasked session (selections W documents readers)
readers_unasked W session documents (Err fault) = refl

answer_unasked : (W : Setup) (session : WalletSession) (text : List ℕ) → UnlessAsked NoPlaces (answer W session text)
unfolding answer answer_request
answer_unasked W session text = by (asked text)
  where
    by : (found : Asked) → UnlessAsked NoPlaces (answer_asked W session found)
    by NotCbor = refl
    by NoRequest = refl
    by (Documents documents) =
        unless_bind Anything NoPlaces (known_readers W session.transcript documents) (answer_to_readers W session documents) (unless_anything _) (λ readers any. readers_unasked W session documents readers)

-- ---- a round

abbrev NoEntries : WalletRound → Type 0
NoEntries r = r.entries ≡ []

abbrev NoEntriesIn : WalletOpened × WalletRound → Type 0
NoEntriesIn pair = pair.1.entries ≡ []

round_unasked : (W : Setup) (opened : WalletOpened) → UnlessAsked NoEntries (round_of W opened)
round_unasked W (Ok now) = unless_bind NoPlaces NoEntries (answer W now.0 now.1) _ (answer_unasked W now.0 now.1) (λ given none. none)
round_unasked W (Err ending) = refl

first_unasked : (W : Setup) (start : WalletStart) (m : List ℕ) → UnlessAsked NoEntriesIn (first_plan W start m)
first_unasked W start m =
    unless_bind Anything NoEntriesIn (wallet_establishes start m) _ (unless_anything _)
    (λ opened any. unless_bind NoEntries NoEntriesIn (round_of W opened) _ (round_unasked W opened) (λ r none. none))

-- Where a round released something, a question was asked.
pub released_asked : (W : Setup) (state : NodeState) (m : List ℕ) (old new : List Exchange) (r : Round) → IsRoundOf W state m old new r
    → (r.places.items ≡ [] → ⊥) → new ≡ old → ⊥
released_asked W (states.Engaged start) m old new r is some same =
    some (unless_followed NoEntriesIn (first_plan W start m) (is.opened, round_seen r) (first_unasked W start m) is.follows same)
released_asked W (states.Open session) m old new r is some same =
    some (unless_followed NoEntries (next_plan W session m) (round_seen r) (round_unasked W (wallet_opens session m)) is.0 same)
released_asked W (states.Ended end) m old new r is some same = is
released_asked W states.Spent m old new r is some same = is
