-- How the exits of an answer follow the definition.
use Rattle.std.proofs.Common.{◌≡◌, ◌+◌, ◌<◌, ℕ, ℤ, List, [], ◌∷◌, ◌++◌, length, map, take, get_or, Option, Some, None, Result, Ok, Err, refl, sym, ap, ◌∙◌, subst, arith}
use Rattle.std.specs.Prelude.{IfOk}
use Rattle.std.proofs.lemmas.List.{length-map, length-take-le, map_more}
use Rattle.mdoc_outside.specs.declared.memory.Memory.{Memory}
use Rattle.cbor_view.specs.Parts.{Part, cbor}
use Rattle.cbor_view.specs.declared.cbor_fault.CborFault.{CborFault}
use Rattle.doc_request.specs.Asked.{Asked, Document, Documents, NoRequest, NotCbor, asked, asked_in, asked_of, request}
use Rattle.doc_request.specs.Known.{known}
use Rattle.doc_request.specs.Views.{document_seen}
use Rattle.doc_request.specs.declared.doc_ask.DocAsk.{DocAsk}
use Rattle.doc_request.specs.declared.request_fault.RequestFault.{RequestFault}
use Rattle.doc_response.specs.Draft as draft
use Rattle.doc_response.specs.declared.device_auth.DeviceAuth.{DeviceAuth}
use Rattle.key_device.specs.Plan.{Plan, Done, Follows}
use Rattle.key_device.specs.PlanSteps.{◌>>=◌, each, mapped}
use Rattle.key_device.specs.declared.device_fault.DeviceFault.{DeviceFault}
use Rattle.key_device.specs.declared.exchange.Exchange.{Exchange}
use Rattle.key_device.proofs.PlanLemmas.{cut_short, ended, halted, then_more, unasked}
use Rattle.key_device.proofs.PlanStepLemmas.{mapped_came, mapped_cut}
use Rattle.session_seal.specs.Wallet.{WalletSession}
use Rattle.wallet_answer.specs.ChoiceView.{choice_seen}
use Rattle.wallet_answer.specs.declared.released_document.ReleasedDocument as made_choice
use Rattle.wallet_model.specs.Answer.{Answer, answer, answer_asked, answer_request, answer_selections, answer_to_readers, answer_with, authenticated, document_with, known_readers, response_with, without_items}
use Rattle.wallet_model.specs.Released.{ReleasedDocument, Selection, choices, types_of_nothing}
use Rattle.wallet_model.specs.Setup.{Setup}
use Rattle.wallet_model.specs.declared.released_at.ReleasedAt.{ReleasedAt}
use Rattle.wallet_answer.specs.KnownView.{known_of}
use Rattle.wallet_answer.specs.Documents.{documents_with, response_of}
use Rattle.wallet_answer.specs.AnswerView.{answer_of, answer_seen}
use Rattle.wallet_answer.specs.Authenticated.{authenticated_choice}
use Rattle.wallet_answer.specs.Places.{places_in}
use Rattle.wallet_answer.specs.declared.answered.Answer as made

-- ---- plans over a list that is seen so

pub each_seen : {X Y Z E : Type 0} (step : Y → Plan (Result Z E)) (seen : X → Y) (xs : List X)
    → each (λ (x : X). step (seen x)) xs ≡ each step (map seen xs)
each_seen step seen [] = refl
each_seen {X} {Y} {Z} {E} step seen (x ∷ xs) =
    ap (λ (later : Plan (Result (List Z) E)). step (seen x) >>= λ (z : Z). later >>= λ (zs : List Z). Done (Ok (z ∷ zs))) (each_seen step seen xs)

-- ---- a call that asks nothing

pub done : (result : Result made.Answer Memory) (a : Answer) (talk : List Exchange) → IfOk result (λ r. answer_seen r ≡ a)
    → Follows (Done a) talk talk (answer_of result)
done (Ok r) a talk is = subst (λ (found : Answer). Follows (Done a) talk talk (Some found)) (sym is) (ended talk)
done (Err wanting) a talk is = unasked refl

-- ---- a text that is no request

not_cbor : (text : List ℕ) (fault : CborFault) → cbor text ≡ Err fault → asked text ≡ NotCbor
not_cbor text fault is = ap asked_in is

no_request : (text : List ℕ) (item : Part) (fault : RequestFault) → cbor text ≡ Ok item → request item ≡ Err fault → asked text ≡ NoRequest
no_request text item fault is refused = ap asked_in is ∙ ap asked_of refused

pub is_request : (text : List ℕ) (item : Part) (documents : List Document) → cbor text ≡ Ok item → request item ≡ Ok documents → asked text ≡ Documents documents
is_request text item documents is read = ap asked_in is ∙ ap asked_of read

by_asked : (W : Setup) (session : WalletSession) (text : List ℕ) (of : Asked) (old new : List Exchange) (outcome : Option Answer)
    → asked text ≡ of → Follows (answer_asked W session of) old new outcome → Follows (answer W session text) old new outcome
unfolding answer
by_asked W session text of old new outcome is follows =
    subst (λ (found : Asked). Follows (answer_asked W session found) old new outcome) (sym is) follows

pub answered_not_cbor : (W : Setup) (session : WalletSession) (text : List ℕ) (fault : CborFault) (talk : List Exchange) (result : Result made.Answer Memory)
    → cbor text ≡ Err fault → IfOk result (λ r. answer_seen r ≡ without_items 11) → Follows (answer W session text) talk talk (answer_of result)
answered_not_cbor W session text fault talk result is given =
    by_asked W session text NotCbor talk talk (answer_of result) (not_cbor text fault is) (done result (without_items 11) talk given)

pub answered_no_request : (W : Setup) (session : WalletSession) (text : List ℕ) (item : Part) (fault : RequestFault) (talk : List Exchange) (result : Result made.Answer Memory)
    → cbor text ≡ Ok item → request item ≡ Err fault → IfOk result (λ r. answer_seen r ≡ without_items 12) → Follows (answer W session text) talk talk (answer_of result)
answered_no_request W session text item fault talk result is refused given =
    by_asked W session text NoRequest talk talk (answer_of result) (no_request text item fault is refused) (done result (without_items 12) talk given)

pub answered_request : (W : Setup) (session : WalletSession) (text : List ℕ) (item : Part) (documents : List Document) (old new : List Exchange) (outcome : Option Answer)
    → cbor text ≡ Ok item → request item ≡ Ok documents → Follows (answer_request W session documents) old new outcome → Follows (answer W session text) old new outcome
answered_request W session text item documents old new outcome is read follows =
    by_asked W session text (Documents documents) old new outcome (is_request text item documents is read) follows

-- ---- who asks

module _ (W : Setup) (session : WalletSession) (docs : List DocAsk) (documents : List Document) (are : map document_seen docs ≡ documents) where
  asked_alike : each (known_of W.readers W.moment session.transcript) docs ≡ known_readers W session.transcript documents
  asked_alike =
      each_seen (λ (document : Document). known document session.transcript W.readers W.moment) document_seen docs
      ∙ ap (known_readers W session.transcript) are

  pub by_readers : (old mid new : List Exchange) (readers : Result (List (Option (List ℕ))) DeviceFault) (outcome : Option Answer)
      → Follows (each (known_of W.readers W.moment session.transcript) docs) old mid (Some readers)
      → Follows (answer_to_readers W session documents readers) mid new outcome
      → Follows (answer_request W session documents) old new outcome
  unfolding answer_request
  by_readers old mid new readers outcome first second =
      then_more (answer_to_readers W session documents)
      (subst (λ (p : Plan (Result (List (Option (List ℕ))) DeviceFault)). Follows p old mid (Some readers)) asked_alike first) second

  pub by_no_readers : (old new : List Exchange)
      → Follows (each (known_of W.readers W.moment session.transcript) docs) old new None
      → Follows (answer_request W session documents) old new None
  unfolding answer_request
  by_no_readers old new first =
      cut_short (answer_to_readers W session documents)
      (subst (λ (p : Plan (Result (List (Option (List ℕ))) DeviceFault)). Follows p old new None) asked_alike first)

-- ---- the device's authentications

documents-snoc : (list : List ReleasedDocument) (auths : List DeviceAuth) (choice : ReleasedDocument) (auth : DeviceAuth) → length auths ≡ length list
    → documents_with (list ++ choice ∷ []) (auths ++ auth ∷ []) ≡ documents_with list auths ++ document_with choice auth ∷ []
documents-snoc [] [] choice auth same = refl
documents-snoc [] (a ∷ auths) choice auth same = absurd (omega arith)
documents-snoc (c ∷ list) [] choice auth same = absurd (omega arith)
documents-snoc (c ∷ list) (a ∷ auths) choice auth same =
    ap (λ (later : List draft.Document). document_with c a ∷ later) (documents-snoc list auths choice auth (omega arith))

-- one authentication more
pub documents_more : {X : Type 0} (seen : X → ReleasedDocument) (xs : List X) (i : ℕ) (x : X) (auths : List DeviceAuth) (auth : DeviceAuth)
    → i < length xs → length auths ≡ i → x ≡ get_or xs i x
    → documents_with (map seen (take (i + 1) xs)) (auths ++ auth ∷ []) ≡ documents_with (map seen (take i xs)) auths ++ document_with (seen x) auth ∷ []
documents_more {X} seen xs i x auths auth within counted at =
    let taken : length auths ≡ length (map seen (take i xs)) = counted ∙ sym (length-map (take i xs) seen ∙ length-take-le i xs (omega arith)) in
    ap (λ (list : List ReleasedDocument). documents_with list (auths ++ auth ∷ [])) (map_more seen xs i x within)
    ∙ ap (λ (y : X). documents_with (map seen (take i xs) ++ seen y ∷ []) (auths ++ auth ∷ [])) (sym at)
    ∙ documents-snoc (map seen (take i xs)) auths (seen x) auth taken

-- ---- the answer of what is selected

module _ (session : WalletSession) (list : List Selection) (xs : List made_choice.ReleasedDocument) (are : map choice_seen xs ≡ choices list) where
  asked_choices : each (authenticated_choice session) xs ≡ each (authenticated session) (choices list)
  asked_choices = each_seen (authenticated session) choice_seen xs ∙ ap (each (authenticated session)) are

  pub selected_came : (old new : List Exchange) (documents : Result (List draft.Document) DeviceFault) (result : Result made.Answer Memory)
      → Follows (each (authenticated_choice session) xs) old new (Some documents)
      → IfOk result (λ a. a.text ≡ response_with list documents) → IfOk result (λ a. a.places.items ≡ places_in (map choice_seen xs))
      → Follows (answer_selections session list) old new (answer_of result)
  unfolding answer_selections
  selected_came old new documents result first text places = by result text places
    where
      came : Follows (mapped (answer_with list) (each (authenticated session) (choices list))) old new (Some (answer_with list documents))
      came =
          mapped_came (answer_with list)
          (subst (λ (p : Plan (Result (List draft.Document) DeviceFault)). Follows p old new (Some documents)) asked_choices first)

      by : (r : Result made.Answer Memory) → IfOk r (λ a. a.text ≡ response_with list documents) → IfOk r (λ a. a.places.items ≡ places_in (map choice_seen xs))
          → Follows (mapped (answer_with list) (each (authenticated session) (choices list))) old new (answer_of r)
      by (Ok a) is at =
          subst (λ (found : Answer). Follows (mapped (answer_with list) (each (authenticated session) (choices list))) old new (Some found))
          (sym (ap (λ (bytes : List ℕ). record { text = bytes; places = a.places.items }) is
          ∙ ap (λ (where_at : List ReleasedAt). record { text = response_with list documents; places = where_at }) (at ∙ ap places_in are)))
          came
      by (Err wanting) is at = halted came

  pub selected_cut : (old new : List Exchange) → Follows (each (authenticated_choice session) xs) old new None → Follows (answer_selections session list) old new None
  unfolding answer_selections
  selected_cut old new first =
      mapped_cut (answer_with list)
      (subst (λ (p : Plan (Result (List draft.Document) DeviceFault)). Follows p old new None) asked_choices first)

-- the response of what is released, by its types of which nothing is
pub full_text : (list : List Selection) (cs : List ReleasedDocument) (auths : List DeviceAuth) (types : List (List ℕ)) (result : Result made.Answer Memory)
    → types ≡ types_of_nothing list → IfOk result (λ a. a.text ≡ response_of cs auths types)
    → IfOk result (λ a. a.text ≡ response_with list (Ok (documents_with cs auths)))
full_text list cs auths types (Ok a) are is = is ∙ ap (λ (of : List (List ℕ)). response_of cs auths of) are
full_text list cs auths types (Err wanting) are is = tt

-- who asks, by the setup's moment and the session's transcript
pub asked_by : (W : Setup) (session : WalletSession) (docs : List DocAsk) (m : ℤ) (t : List ℕ) (old new : List Exchange) (outcome : Option (Result (List (Option (List ℕ))) DeviceFault))
    → Follows (each (known_of W.readers m t) docs) old new outcome → t ≡ session.transcript → m ≡ W.moment
    → Follows (each (known_of W.readers W.moment session.transcript) docs) old new outcome
asked_by W session docs m t old new outcome follows of_session at =
    subst (λ (moment : ℤ). Follows (each (known_of W.readers moment session.transcript) docs) old new outcome) at
    (subst (λ (transcript : List ℕ). Follows (each (known_of W.readers m transcript) docs) old new outcome) of_session follows)
