-- Fragments after the end of a session change nothing.
use Rattle.std.proofs.Common.{◌≡◌, ◌⊎◌, inl, inr, ℕ, List, [], ◌∷◌, ◌++◌, Bool, true, false, cond, Option, Some, None, Ok, refl, sym, ◌∙◌, ap, subst}
use Rattle.ble_fragments.specs.Next.{next_by, next_open, next_piece, ended_at}
use Rattle.ble_fragments.specs.Part.{Part, Piece, Start, Stop, Broken, part_of}
use Rattle.ble_fragments.specs.Whole.{Whole, is_too_long, whole}
use Rattle.ble_fragments.specs.declared.ending.Ending as lists
use Rattle.ble_fragments.specs.declared.ending.Ending.TheVariants.{Open, Peer, Bad}
use Rattle.ble_fragments.specs.declared.join_fault.JoinFault.TheVariants.{TooLong}
use Rattle.ble_fragments.proofs.OneMore.{one_more}
use Rattle.key_device.specs.Plan.{Plan, Done, Then, Other, Draw, Finished, FollowsAll, Walks}
use Rattle.key_device.specs.declared.exchange.Exchange.{Exchange}
use Rattle.mdoc_outside.specs.declared.fragment.Fragment.{Fragment}
use Rattle.round_model.specs.Rounds.{end_of_rounds, rounds}
use Rattle.session_seal.specs.Wallet.{WalletOpened, WalletStart, wallet_establishes}
use Rattle.session_seal.specs.declared.wallet_end.WalletEnd.{WalletEnd}
use Rattle.wallet_model.specs.Round.{round}
use Rattle.wallet_model.specs.Setup.{Setup}
use Rattle.wallet_model.specs.Wallet.{Run, WalletRounds, end_of, or_by_list, replies, run_from, run_of, started, wallet, wallet_session}
use Rattle.wallet_model.proofs.Always.{Always, Anything, OfValue, always_anything, always_bind, always_step}
use Rattle.wallet_model.proofs.ReaderNames.{always_value}
use Rattle.wallet_model.proofs.RoundSteps.{over_round}
use Rattle.wallet_model.proofs.RunLemmas.{followed_more, followed_same}

-- ---- what a run is, by its messages

always_walks : {A : Type 0} (P : A → Type 0) (p : Plan A) (es os : List Exchange) (ws : List ℕ) (a : A) → Always P p → Walks p es os ws a → P a
always_walks P (Done x) [] [] [] a holds walk = subst P (sym walk) holds
always_walks P (Done x) [] [] (w ∷ ws) a holds walk = absurd walk
always_walks P (Done x) [] (o ∷ os) ws a holds walk = absurd walk
always_walks P (Done x) (e ∷ es) os ws a holds walk = absurd walk
always_walks P (Then ask rest) [] os ws a holds walk = absurd walk
always_walks P (Then ask rest) (e ∷ es) os ws a holds walk = always_walks P (rest e.told) es os ws a (holds e.told) walk.1
always_walks P (Other ask rest) es [] ws a holds walk = absurd walk
always_walks P (Other ask rest) es (o ∷ os) ws a holds walk = always_walks P (rest o.told) es os ws a (holds o.told) walk.1
always_walks P (Draw rest) es os [] a holds walk = absurd walk
always_walks P (Draw rest) es os (w ∷ ws) a holds walk = always_walks P (rest w) es os ws a (holds w) walk

-- without a message there is no round, and with one there is what both ends agreed on
abbrev Shaped : List (List ℕ) → WalletRounds → Type 0
Shaped [] list = list ≡ record { agreed = None; rounds = [] }
Shaped (m ∷ ms) list = (opened : WalletOpened) × (list.agreed ≡ Some opened)

abbrev RunShaped : List (List ℕ) → Run → Type 0
RunShaped messages run = Shaped messages run.session

session_shaped : (W : Setup) (start : WalletStart) (messages : List (List ℕ)) → Always (Shaped messages) (wallet_session W start messages)
session_shaped W start [] = refl
session_shaped W start (m ∷ ms) =
    always_bind Anything (Shaped (m ∷ ms)) (wallet_establishes start m) _ (always_anything (wallet_establishes start m))
    (λ opened any. always_bind Anything (Shaped (m ∷ ms)) (rounds (round W opened) 1 (m ∷ ms)) _ (always_anything (rounds (round W opened) 1 (m ∷ ms))) (λ list any. (opened, refl)))

run_shaped : (W : Setup) (came : List Fragment) → Always (OfValue (RunShaped (whole came).messages)) (wallet W came)
unfolding wallet
run_shaped W came =
    always_step Anything (RunShaped (whole came).messages) started (run_from W came) (always_value started)
    (λ start any. always_bind (Shaped (whole came).messages) (OfValue (RunShaped (whole came).messages)) (wallet_session W start (whole came).messages) (run_of start)
    (session_shaped W start (whole came).messages) (λ list is. is))

pub shaped : (W : Setup) (came : List Fragment) (begun talk : List Exchange) (words : List ℕ) (run : Run)
    → FollowsAll (wallet W came) begun [] [] talk [] words (Finished (Ok run)) → RunShaped (whole came).messages run
shaped W came begun talk words run follows =
    always_walks (OfValue (RunShaped (whole came).messages)) (wallet W came) follows.gained follows.gained_other follows.words (Ok run) (run_shaped W came) follows.fits

-- ---- the messages with one fragment more

record OneMessage (before now : List (List ℕ)) : Type 0 where
  m : List ℕ
  is : now ≡ before ++ m ∷ []

grown_open : (of : Whole) (part : Part) → ((next_open of part).messages ≡ of.messages) ⊎ OneMessage of.messages (next_open of part).messages
grown_open of Start = inl refl
grown_open of Stop = inl refl
grown_open of (Broken fault) = inl refl
grown_open of (Piece last bytes) = by (is_too_long (of.rest ++ bytes ∷ [])) last
  where
    by : (long last : Bool) → ((cond long (ended_at of (Bad TooLong)) (next_piece last of bytes)).messages ≡ of.messages)
        ⊎ OneMessage of.messages (cond long (ended_at of (Bad TooLong)) (next_piece last of bytes)).messages
    by true last = inl refl
    by false true = inr (record { m = _; is = refl })
    by false false = inl refl

grown : (ending : lists.Ending) (of : Whole) (part : Part) → ((next_by ending of part).messages ≡ of.messages) ⊎ OneMessage of.messages (next_by ending of part).messages
grown Open of part = grown_open of part
grown Peer of part = inl refl
grown (Bad fault) of part = inl refl

fragment_grown : (came : List Fragment) (f : Fragment)
    → ((whole (came ++ f ∷ [])).messages ≡ (whole came).messages) ⊎ OneMessage (whole came).messages (whole (came ++ f ∷ [])).messages
fragment_grown came f =
    subst (λ (of : Whole). (of.messages ≡ (whole came).messages) ⊎ OneMessage (whole came).messages of.messages) (sym (one_more came f))
    (grown (whole came).ending (whole came) (part_of f))

-- a list that has ended stays as it is
closed_stays : (came : List Fragment) (f : Fragment) (ending : lists.Ending) (end : WalletEnd) (run : Run)
    → (whole came).ending ≡ ending → or_by_list None (replies run) ending ≡ Some end → whole (came ++ f ∷ []) ≡ whole came
closed_stays came f Open end run is ends = cc
closed_stays came f Peer end run is ends = one_more came f ∙ ap (λ (e : lists.Ending). next_by e (whole came) (part_of f)) is
closed_stays came f (Bad fault) end run is ends = one_more came f ∙ ap (λ (e : lists.Ending). next_by e (whole came) (part_of f)) is

-- ---- a session that has ended

-- what a further fragment leaves of the run of a session that has ended
pub record StaysEnded (W : Setup) (now : List Fragment) (begun talk : List Exchange) (words : List ℕ) (run : Run) (end : WalletEnd) : Type 0 where
  pub follows : FollowsAll (wallet W now) begun [] [] talk [] words (Finished (Ok run))
  pub ends : end_of run (whole now).ending ≡ Some end

-- the session of a run that has agreed
again : (run : Run) (opened : WalletOpened) → run.session.agreed ≡ Some opened
    → record { start = run.start; session = record { agreed = Some opened; rounds = run.session.rounds } } ≡ run
again run opened is = ap (λ (found : Option WalletOpened). record { start = run.start; session = record { agreed = found; rounds = run.session.rounds } }) (sym is)

by_round : (W : Setup) (came : List Fragment) (f : Fragment) (begun talk : List Exchange) (words : List ℕ) (run : Run) (end : WalletEnd)
    → FollowsAll (wallet W came) begun [] [] talk [] words (Finished (Ok run)) → end_of_rounds run.session.rounds ≡ Some end
    → (messages : List (List ℕ)) → (whole came).messages ≡ messages → Shaped messages run.session
    → FollowsAll (wallet W (came ++ f ∷ [])) begun [] [] talk [] words (Finished (Ok run))
by_round W came f begun talk words run end follows ends [] are is =
    let wrong : end_of_rounds run.session.rounds ≡ None = ap (λ (list : WalletRounds). end_of_rounds list.rounds) is in cc
by_round W came f begun talk words run end follows ends (first ∷ ms) are (opened, agreed) = either (fragment_grown came f)
  where
    either : ((whole (came ++ f ∷ [])).messages ≡ (whole came).messages) ⊎ OneMessage (whole came).messages (whole (came ++ f ∷ [])).messages
        → FollowsAll (wallet W (came ++ f ∷ [])) begun [] [] talk [] words (Finished (Ok run))
    either (inl same) = followed_same W came (came ++ f ∷ []) begun talk words run same follows
    either (inr one) =
        subst (λ (r : Run). FollowsAll (wallet W (came ++ f ∷ [])) begun [] [] talk [] words (Finished (Ok r))) (again run opened agreed)
        (followed_more W came (came ++ f ∷ []) one.m begun talk talk words run _ one.is follows
        (over_round W run.start (whole came).messages first ms one.m run.session talk opened are agreed end ends))

pub stays_ended : (W : Setup) (came : List Fragment) (f : Fragment) (begun talk : List Exchange) (words : List ℕ) (run : Run) (end : WalletEnd)
    → FollowsAll (wallet W came) begun [] [] talk [] words (Finished (Ok run)) → end_of run (whole came).ending ≡ Some end
    → StaysEnded W (came ++ f ∷ []) begun talk words run end
stays_ended W came f begun talk words run end follows ends = by (end_of_rounds run.session.rounds) refl
  where
    by : (found : Option WalletEnd) → end_of_rounds run.session.rounds ≡ found → StaysEnded W (came ++ f ∷ []) begun talk words run end
    by (Some found) is = record {
      follows = by_round W came f begun talk words run found follows is (whole came).messages refl (shaped W came begun talk words run follows);
      ends = ap (λ (o : Option WalletEnd). or_by_list o (replies run) (whole (came ++ f ∷ [])).ending) is
          ∙ sym (ap (λ (o : Option WalletEnd). or_by_list o (replies run) (whole came).ending) is) ∙ ends;
    }
    by None is =
        let same = closed_stays came f (whole came).ending end run refl (sym (ap (λ (o : Option WalletEnd). or_by_list o (replies run) (whole came).ending) is) ∙ ends) in
        record {
          follows = followed_same W came (came ++ f ∷ []) begun talk words run (ap (λ (of : Whole). of.messages) same) follows;
          ends = ap (λ (of : Whole). end_of run of.ending) same ∙ ends;
        }
