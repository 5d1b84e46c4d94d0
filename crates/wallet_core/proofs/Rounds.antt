-- What the round of a message adds to the rounds before it.
use Rattle.std.proofs.Common.{◌≡◌, ◌<◌, ◌+◌, ℕ, List, [], ◌∷◌, ◌++◌, length, Bool, false, Option, Some, None, Ok, Err, refl, sym, ◌∙◌, ap, subst, arith}
use Rattle.std.proofs.lemmas.Bool.Decides.{nat_tests}
use Rattle.std.specs.Prelude.{◌==◌, if◌then◌else◌}
use Rattle.key_device.proofs.PlanEquations.{bind_bind, bind_same}
use Rattle.key_device.proofs.PlanLemmas.{ended, then_more}
use Rattle.key_device.specs.Plan.{Plan, Done, Then, Other, Draw, Follows, Walks, bind}
use Rattle.key_device.specs.declared.exchange.Exchange.{Exchange}
use Rattle.round_model.specs.RoundLaws.{later_message, with_message}
use Rattle.round_model.specs.Rounds.{end_of_rounds, rounds, unless_ended}
use Rattle.session_seal.specs.Wallet.{WalletOpened, WalletSession, WalletStart, wallet_establishes, wallet_opens}
use Rattle.session_seal.specs.declared.wallet_end.WalletEnd.{WalletEnd}
use Rattle.wallet_model.proofs.Always.{Always, Anything, always_anything, always_bind}
use Rattle.wallet_model.specs.Answer.{answer}
use Rattle.wallet_model.specs.Round.{WalletRound, later_opened, round, round_of, session_at}
use Rattle.wallet_model.specs.Setup.{Setup}
use Rattle.wallet_model.specs.Wallet.{WalletRounds}
use Rattle.wallet_core.specs.Rounds.{first_plan, next_plan}
use Rattle.wallet_model.specs.Taking.{rounds_with, with_round}

-- ---- the first message

abbrev only_round : WalletOpened × WalletRound → Plan WalletRounds
only_round pair = Done (record { agreed = Some pair.0; rounds = pair.1 ∷ [] })

abbrev agreed_rounds : WalletOpened → List WalletRound → Plan WalletRounds
agreed_rounds opened list = Done (record { agreed = Some opened; rounds = list })

either_way : (opened : WalletOpened) (r : WalletRound) (found : Option WalletEnd)
    → bind (unless_ended found (Done (r ∷ [])) (Done (r ∷ []))) (agreed_rounds opened) ≡ only_round (opened, r)
either_way opened r None = refl
either_way opened r (Some end) = refl

one_round : (W : Setup) (opened : WalletOpened) (m : List ℕ)
    → bind (rounds (round W opened) 1 (m ∷ [])) (agreed_rounds opened) ≡ bind (bind (round_of W opened) (λ r. Done (opened, r))) only_round
unfolding round
one_round W opened m =
    bind_bind (round_of W opened) (λ (r : WalletRound). unless_ended r.ended (Done (r ∷ [])) (Done (r ∷ []))) (agreed_rounds opened)
    ∙ bind_same (round_of W opened) _ _ (λ r. either_way opened r r.ended)
    ∙ sym (bind_bind (round_of W opened) (λ (r : WalletRound). Done (opened, r)) only_round)

first_rounds : (W : Setup) (start : WalletStart) (m : List ℕ) (before : WalletRounds)
    → rounds_with W start [] m before ≡ bind (first_plan W start m) only_round
first_rounds W start m before =
    bind_same (wallet_establishes start m) _ _ (λ opened. one_round W opened m)
    ∙ sym (bind_bind (wallet_establishes start m) (λ (opened : WalletOpened). bind (round_of W opened) (λ (r : WalletRound). Done (opened, r))) only_round)

pub first_followed : (W : Setup) (start : WalletStart) (messages : List (List ℕ)) (m : List ℕ) (before : WalletRounds) {old new : List Exchange} (opened : WalletOpened) (r : WalletRound)
    → messages ≡ [] → before ≡ record { agreed = None; rounds = [] } → Follows (first_plan W start m) old new (Some (opened, r))
    → Follows (rounds_with W start messages m before) old new (Some (with_round opened before r))
first_followed W start messages m before {old} {new} opened r no_message no_round follows =
    subst (λ (list : List (List ℕ)). Follows (rounds_with W start list m before) old new (Some (with_round opened before r))) (sym no_message)
    (subst (λ (list : WalletRounds). Follows (rounds_with W start [] m before) old new (Some (with_round opened list r))) (sym no_round)
    (subst (λ (p : Plan WalletRounds). Follows p old new (Some (record { agreed = Some opened; rounds = r ∷ [] }))) (sym (first_rounds W start m before))
    (then_more only_round follows (ended new))))

-- ---- a later message

later_place : (k : ℕ) → (2 + k == 1) ≡ false
later_place k = grind (arith, nat_tests)

later_round : (W : Setup) (first : WalletSession) (text : List ℕ) (k : ℕ) (m : List ℕ)
    → round W (Ok (first, text)) (2 + k) m ≡ next_plan W (session_at first (2 + k)) m
unfolding round
later_round W first text k m =
    ap (λ (b : Bool). round_of W (if b then Ok (first, text) else later_opened (Ok (first, text)) (2 + k) m)) (later_place k)

add_round : (W : Setup) (k : ℕ) (m : List ℕ) (before : WalletRounds) (first : WalletSession) (text : List ℕ) {old new : List Exchange} (r : WalletRound)
    → end_of_rounds before.rounds ≡ None → Follows (next_plan W (session_at first (2 + k)) m) old new (Some r)
    → Follows (with_message (round W (Ok (first, text))) (2 + k) m before.rounds) old new (Some (before.rounds ++ r ∷ []))
add_round W k m before first text {old} {new} r none follows =
    subst (λ (found : Option WalletEnd). Follows (unless_ended found (bind (round W (Ok (first, text)) (2 + k) m) (λ now. Done (before.rounds ++ now ∷ []))) (Done before.rounds)) old new (Some (before.rounds ++ r ∷ []))) (sym none)
    (then_more (λ (now : WalletRound). Done (before.rounds ++ now ∷ []))
    (subst (λ (p : Plan WalletRound). Follows p old new (Some r)) (sym (later_round W first text k m)) follows) (ended new))

pub next_followed : (W : Setup) (start : WalletStart) (messages : List (List ℕ)) (m : List ℕ) (before : WalletRounds) (first session : WalletSession) (text : List ℕ) {old new : List Exchange} (r : WalletRound)
    → 0 < length messages → before.agreed ≡ Some (Ok (first, text)) → end_of_rounds before.rounds ≡ None → session ≡ session_at first (length messages + 1)
    → Follows (next_plan W session m) old new (Some r)
    → Follows (rounds_with W start messages m before) old new (Some (with_round (Ok (first, text)) before r))
next_followed W start [] m before first session text r some agreed none at follows = absurd (omega (arith, some))
next_followed W start (one ∷ ms) m before first session text {old} {new} r some agreed none at follows =
    subst (λ (found : Option WalletOpened). Follows (later_message (round W) (2 + length ms) m before found) old new (Some (with_round (Ok (first, text)) before r))) (sym agreed)
    (then_more (agreed_rounds (Ok (first, text)))
    (add_round W (length ms) m before first text r none (subst (λ (s : WalletSession). Follows (next_plan W s m) old new (Some r)) (at ∙ ap (session_at first) (omega arith)) follows))
    (ended new))

-- ---- the reply

-- a round after which the session goes on has a reply
abbrev pub HasReply : WalletRound → Type 0
HasReply r = r.ended ≡ None → (reply : List ℕ) × (r.reply ≡ Some reply)

abbrev HasReplyIn : WalletOpened × WalletRound → Type 0
HasReplyIn pair = HasReply pair.1

always_walks : {A : Type 0} (P : A → Type 0) (p : Plan A) (es : List Exchange) (a : A) → Always P p → Walks p es [] [] a → P a
always_walks P (Done x) [] a holds walk = subst P (sym walk) holds
always_walks P (Done x) (e ∷ es) a holds walk = absurd walk
always_walks P (Then ask next) [] a holds walk = absurd walk
always_walks P (Then ask next) (e ∷ es) a holds walk = always_walks P (next e.told) es a (holds e.told) walk.1
always_walks P (Other ask next) es a holds walk = absurd walk
always_walks P (Draw next) es a holds walk = absurd walk

round_replies : (W : Setup) (opened : WalletOpened) → Always HasReply (round_of W opened)
round_replies W (Ok now) = always_bind Anything HasReply (answer W now.0 now.1) _ (always_anything (answer W now.0 now.1)) (λ given any none. (_, refl))
round_replies W (Err ending) = λ none. absurd (cc)

pub first_reply : (W : Setup) (start : WalletStart) (m : List ℕ) {old new : List Exchange} (opened : WalletOpened) (r : WalletRound)
    → Follows (first_plan W start m) old new (Some (opened, r)) → HasReply r
first_reply W start m opened r follows =
    always_walks HasReplyIn (first_plan W start m) follows.gained (opened, r)
    (always_bind Anything HasReplyIn (wallet_establishes start m) _ (always_anything (wallet_establishes start m))
    (λ found any. always_bind HasReply HasReplyIn (round_of W found) _ (round_replies W found) (λ one has. has)))
    follows.fits

pub next_reply : (W : Setup) (session : WalletSession) (m : List ℕ) {old new : List Exchange} (r : WalletRound)
    → Follows (next_plan W session m) old new (Some r) → HasReply r
next_reply W session m r follows =
    always_walks HasReply (next_plan W session m) follows.gained r (round_replies W (wallet_opens session m)) follows.fits
