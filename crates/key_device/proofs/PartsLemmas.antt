-- What a run of a plan with another one after it shows of each of them.
use Rattle.std.proofs.Common.{◌≡◌, ◌⊎◌, inl, inr, ℕ, List, [], ◌∷◌, ◌++◌, Option, refl, sym, ◌∙◌, ap, subst, append_assoc}
use Rattle.key_device.proofs.AllPlanLemmas.{by_one, wrap}
use Rattle.key_device.proofs.OverLemmas.{gained_is, fits_same}
use Rattle.key_device.specs.Plan.{Plan, Done, Then, Other, Draw, bind, Walks, Begins, Starves, Fits, End, Finished, OutOfWords, OutOfMemory, end_of, FollowsAll}
use Rattle.key_device.specs.PlanLaws.{FollowsBoth, FollowsParts, IsFollowedInParts, IsBegunInParts, IsUndealtInParts, IsWalkedInParts, IsCutInParts, HasOneOutcome, NeverBothEnds}
use Rattle.key_device.specs.declared.ask.Ask.{Ask}
use Rattle.key_device.specs.declared.exchange.Exchange.{Exchange}
use Rattle.key_device.specs.declared.told.Told.{Told}

one_walk : {A : Type 0} (p : Plan A) (es os : List Exchange) (ws : List ℕ) (a b : A) → Walks p es os ws a → Walks p es os ws b → a ≡ b
one_walk (Done x) [] [] [] a b one two = one ∙ sym two
one_walk (Done x) [] [] (w ∷ ws) a b one two = absurd one
one_walk (Done x) [] (o ∷ os) ws a b one two = absurd one
one_walk (Done x) (e ∷ es) os ws a b one two = absurd one
one_walk (Then ask next) [] os ws a b one two = absurd one
one_walk (Then ask next) (e ∷ es) os ws a b one two = one_walk (next e.told) es os ws a b one.1 two.1
one_walk (Other ask next) es [] ws a b one two = absurd one
one_walk (Other ask next) es (o ∷ os) ws a b one two = one_walk (next o.told) es os ws a b one.1 two.1
one_walk (Draw next) es os [] a b one two = absurd one
one_walk (Draw next) es os (w ∷ ws) a b one two = one_walk (next w) es os ws a b one two

never_both : {A : Type 0} (p : Plan A) (es os : List Exchange) (ws : List ℕ) (a : A) → Walks p es os ws a → Starves p es os ws → ⊥
never_both (Done x) es os ws a one two = absurd two
never_both (Then ask next) [] os ws a one two = absurd one
never_both (Then ask next) (e ∷ es) os ws a one two = never_both (next e.told) es os ws a one.1 two.1
never_both (Other ask next) es [] ws a one two = absurd one
never_both (Other ask next) es (o ∷ os) ws a one two = never_both (next o.told) es os ws a one.1 two.1
never_both (Draw next) es os [] a one two = absurd one
never_both (Draw next) es os (w ∷ ws) a one two = never_both (next w) es os ws a one two

same_fits : {A : Type 0} {plan : Plan A} {one other one' other' : List Exchange} {dealt dealt' : List ℕ} {end end' : End A}
    (first : FollowsAll plan one other dealt one' other' dealt' end) (second : FollowsAll plan one other dealt one' other' dealt' end')
    → Fits plan first.gained first.gained_other first.words end'
same_fits {plan = plan} {one = one} {other = other} {dealt = dealt} {end' = end'} first second =
    fits_same plan end' (gained_is one second.gained first.gained second.joined first.joined)
    (gained_is other second.gained_other first.gained_other second.joined_other first.joined_other)
    (gained_is dealt second.words first.words second.joined_words first.joined_words) second.fits

pub has_one_outcome : (A : Type 0) → HasOneOutcome A
has_one_outcome A plan one other one' other' dealt dealt' a b first second =
    one_walk plan first.gained first.gained_other first.words a b first.fits (same_fits first second)

pub never_both_ends : (A : Type 0) → NeverBothEnds A
never_both_ends A plan one other one' other' dealt dealt' a first second =
    never_both plan first.gained first.gained_other first.words a first.fits (same_fits first second)

-- the exchanges and words of each part
pub record Parts {A B : Type 0} (p : Plan A) (f : A → Plan B) (es os : List Exchange) (ws : List ℕ) (end : End B) : Type 0 where
  pub e : List Exchange
  pub e' : List Exchange
  pub o : List Exchange
  pub o' : List Exchange
  pub w : List ℕ
  pub w' : List ℕ
  pub middle : A
  pub es_is : es ≡ e ++ e'
  pub os_is : os ≡ o ++ o'
  pub ws_is : ws ≡ w ++ w'
  pub first : Walks p e o w middle
  pub second : Fits (f middle) e' o' w' end

whole : {A B : Type 0} (x : A) (f : A → Plan B) (es os : List Exchange) (ws : List ℕ) (end : End B) → Fits (f x) es os ws end → Parts (Done x) f es os ws end
whole x f es os ws end fits =
    record { e = []; e' = es; o = []; o' = os; w = []; w' = ws; middle = x; es_is = refl; os_is = refl; ws_is = refl; first = refl; second = fits }

-- an end that isn't an outcome may lie in the first plan
abbrev pub ends_first : {A B : Type 0} → End B → Plan A → List Exchange → List Exchange → List ℕ → Type 0
ends_first (Finished b) p es os ws = ⊥
ends_first OutOfWords p es os ws = Starves p es os ws
ends_first OutOfMemory p es os ws = Begins p es os ws

then_fits : {A B : Type 0} {ask : Ask} (next : Told → Plan A) (f : A → Plan B) (e : Exchange) (es os : List Exchange) (ws : List ℕ) (end : End B)
    → Fits (bind (Then ask next) f) (e ∷ es) os ws end → (e.ask ≡ ask) × Fits (bind (next e.told) f) es os ws end
then_fits next f e es os ws (Finished b) fits = fits
then_fits next f e es os ws OutOfWords fits = fits
then_fits next f e es os ws OutOfMemory fits = fits

then_first : {A B : Type 0} {ask : Ask} (next : Told → Plan A) (e : Exchange) (es os : List Exchange) (ws : List ℕ) (end : End B)
    → e.ask ≡ ask → ends_first end (next e.told) es os ws → ends_first end (Then ask next) (e ∷ es) os ws
then_first next e es os ws (Finished b) same first = first
then_first next e es os ws OutOfWords same first = (same, first)
then_first next e es os ws OutOfMemory same first = (same, first)

other_fits : {A B : Type 0} {ask : Ask} (next : Told → Plan A) (f : A → Plan B) (o : Exchange) (es os : List Exchange) (ws : List ℕ) (end : End B)
    → Fits (bind (Other ask next) f) es (o ∷ os) ws end → (o.ask ≡ ask) × Fits (bind (next o.told) f) es os ws end
other_fits next f o es os ws (Finished b) fits = fits
other_fits next f o es os ws OutOfWords fits = fits
other_fits next f o es os ws OutOfMemory fits = fits

other_first : {A B : Type 0} {ask : Ask} (next : Told → Plan A) (o : Exchange) (es os : List Exchange) (ws : List ℕ) (end : End B)
    → o.ask ≡ ask → ends_first end (next o.told) es os ws → ends_first end (Other ask next) es (o ∷ os) ws
other_first next o es os ws (Finished b) same first = first
other_first next o es os ws OutOfWords same first = (same, first)
other_first next o es os ws OutOfMemory same first = (same, first)

draw_fits : {A B : Type 0} (next : ℕ → Plan A) (f : A → Plan B) (es os : List Exchange) (w : ℕ) (ws : List ℕ) (end : End B)
    → Fits (bind (Draw next) f) es os (w ∷ ws) end → Fits (bind (next w) f) es os ws end
draw_fits next f es os w ws (Finished b) fits = fits
draw_fits next f es os w ws OutOfWords fits = fits
draw_fits next f es os w ws OutOfMemory fits = fits

draw_first : {A B : Type 0} (next : ℕ → Plan A) (es os : List Exchange) (w : ℕ) (ws : List ℕ) (end : End B)
    → ends_first end (next w) es os ws → ends_first end (Draw next) es os (w ∷ ws)
draw_first next es os w ws (Finished b) first = first
draw_first next es os w ws OutOfWords first = first
draw_first next es os w ws OutOfMemory first = first

pub parts : {A B : Type 0} (p : Plan A) (f : A → Plan B) (es os : List Exchange) (ws : List ℕ) (end : End B)
    → Fits (bind p f) es os ws end → ends_first end p es os ws ⊎ Parts p f es os ws end
parts (Done x) f es os ws end fits = inr (whole x f es os ws end fits)
parts (Then ask next) f [] os ws (Finished b) fits = absurd fits
parts (Then ask next) f [] os ws OutOfWords fits = absurd fits
parts (Then ask next) f [] [] [] OutOfMemory fits = inl tt
parts (Then ask next) f [] [] (w ∷ ws) OutOfMemory fits = absurd fits
parts (Then ask next) f [] (o ∷ os) ws OutOfMemory fits = absurd fits
parts (Then ask next) f (e ∷ es) os ws end fits =
    let both = then_fits next f e es os ws end fits in
    elim (parts (next e.told) f es os ws end both.1) [
      | inl first ↦ inl (then_first next e es os ws end both.0 first)
      | inr rest ↦ inr (record {
        e = e ∷ rest.e;
        e' = rest.e';
        o = rest.o;
        o' = rest.o';
        w = rest.w;
        w' = rest.w';
        middle = rest.middle;
        es_is = ap (λ xs. e ∷ xs) rest.es_is;
        os_is = rest.os_is;
        ws_is = rest.ws_is;
        first = (both.0, rest.first);
        second = rest.second;
      })
    ]
parts (Other ask next) f es [] ws (Finished b) fits = absurd fits
parts (Other ask next) f es [] ws OutOfWords fits = absurd fits
parts (Other ask next) f [] [] [] OutOfMemory fits = inl tt
parts (Other ask next) f [] [] (w ∷ ws) OutOfMemory fits = absurd fits
parts (Other ask next) f (e ∷ es) [] ws OutOfMemory fits = absurd fits
parts (Other ask next) f es (o ∷ os) ws end fits =
    let both = other_fits next f o es os ws end fits in
    elim (parts (next o.told) f es os ws end both.1) [
      | inl first ↦ inl (other_first next o es os ws end both.0 first)
      | inr rest ↦ inr (record {
        e = rest.e;
        e' = rest.e';
        o = o ∷ rest.o;
        o' = rest.o';
        w = rest.w;
        w' = rest.w';
        middle = rest.middle;
        es_is = rest.es_is;
        os_is = ap (λ xs. o ∷ xs) rest.os_is;
        ws_is = rest.ws_is;
        first = (both.0, rest.first);
        second = rest.second;
      })
    ]
parts (Draw next) f es os [] (Finished b) fits = absurd fits
parts (Draw next) f [] [] [] OutOfWords fits = inl tt
parts (Draw next) f [] (o ∷ os) [] OutOfWords fits = absurd fits
parts (Draw next) f (e ∷ es) os [] OutOfWords fits = absurd fits
parts (Draw next) f [] [] [] OutOfMemory fits = inl tt
parts (Draw next) f [] (o ∷ os) [] OutOfMemory fits = absurd fits
parts (Draw next) f (e ∷ es) os [] OutOfMemory fits = absurd fits
parts (Draw next) f es os (w ∷ ws) end fits =
    elim (parts (next w) f es os ws end (draw_fits next f es os w ws end fits)) [
      | inl first ↦ inl (draw_first next es os w ws end first)
      | inr rest ↦ inr (record {
        e = rest.e;
        e' = rest.e';
        o = rest.o;
        o' = rest.o';
        w = w ∷ rest.w;
        w' = rest.w';
        middle = rest.middle;
        es_is = rest.es_is;
        os_is = rest.os_is;
        ws_is = ap (λ xs. w ∷ xs) rest.ws_is;
        first = rest.first;
        second = rest.second;
      })
    ]

follows_both : {A B : Type 0} {p : Plan A} {f : A → Plan B} {one other one' other' : List Exchange} {dealt dealt' : List ℕ} {end : End B}
    (follows : FollowsAll (bind p f) one other dealt one' other' dealt' end)
    → Parts p f follows.gained follows.gained_other follows.words end → FollowsBoth p f one other dealt one' other' dealt' end
follows_both {one = one} {other = other} {dealt = dealt} follows cut = record {
  between = one ++ cut.e;
  between_other = other ++ cut.o;
  between_words = dealt ++ cut.w;
  middle = cut.middle;
  before = record { gained = cut.e; joined = refl; gained_other = cut.o; joined_other = refl; words = cut.w; joined_words = refl; fits = cut.first };
  behind = record {
    gained = cut.e';
    joined = follows.joined ∙ ap (λ xs. one ++ xs) cut.es_is ∙ sym (append_assoc one cut.e cut.e');
    gained_other = cut.o';
    joined_other = follows.joined_other ∙ ap (λ xs. other ++ xs) cut.os_is ∙ sym (append_assoc other cut.o cut.o');
    words = cut.w';
    joined_words = follows.joined_words ∙ ap (λ xs. dealt ++ xs) cut.ws_is ∙ sym (append_assoc dealt cut.w cut.w');
    fits = cut.second;
  };
}

pub is_followed_in_parts : (A B : Type 0) → IsFollowedInParts A B
is_followed_in_parts A B first second one other one' other' dealt dealt' outcome follows =
    elim (parts first second follows.gained follows.gained_other follows.words (Finished outcome) follows.fits) [
      | inl none ↦ absurd none
      | inr cut ↦ follows_both follows cut
    ]

pub is_begun_in_parts : (A B : Type 0) → IsBegunInParts A B
is_begun_in_parts A B first second one other one' other' dealt dealt' follows =
    elim (parts first second follows.gained follows.gained_other follows.words OutOfMemory follows.fits) [
      | inl begins ↦ inl (record {
        gained = follows.gained;
        joined = follows.joined;
        gained_other = follows.gained_other;
        joined_other = follows.joined_other;
        words = follows.words;
        joined_words = follows.joined_words;
        fits = begins;
      })
      | inr cut ↦ inr (follows_both follows cut)
    ]

pub is_undealt_in_parts : (A B : Type 0) → IsUndealtInParts A B
is_undealt_in_parts A B first second one other one' other' dealt dealt' follows =
    elim (parts first second follows.gained follows.gained_other follows.words OutOfWords follows.fits) [
      | inl starves ↦ inl (record {
        gained = follows.gained;
        joined = follows.joined;
        gained_other = follows.gained_other;
        joined_other = follows.joined_other;
        words = follows.words;
        joined_words = follows.joined_words;
        fits = starves;
      })
      | inr cut ↦ inr (follows_both follows cut)
    ]

-- nothing joined is nothing and nothing
none_first : {X : Type 0} (front back : List X) → [] ≡ front ++ back → (front ≡ []) × (back ≡ [])
none_first [] back is = (refl, sym is)
none_first (x ∷ front) back is = absurd (let e : [] ≡ x ∷ (front ++ back) = is in cc)

follows_parts : {A B : Type 0} {p : Plan A} {f : A → Plan B} {old new : List Exchange} {outcome : Option B}
    → FollowsBoth p f old [] [] new [] [] (end_of outcome) → FollowsParts p f old new outcome
follows_parts {A} {B} {p} {f} {old} {new} {outcome} both =
    let o = none_first both.between_other both.behind.gained_other both.behind.joined_other in
    let w = none_first both.between_words both.behind.words both.behind.joined_words in
    record {
      between = both.between;
      middle = both.middle;
      before = wrap (subst (λ ws. FollowsAll p old [] [] both.between [] ws (Finished both.middle)) w.0
          (subst (λ os. FollowsAll p old [] [] both.between os both.between_words (Finished both.middle)) o.0 both.before));
      behind = wrap (subst (λ ws. FollowsAll (f both.middle) both.between [] ws new [] [] (end_of outcome)) w.0
          (subst (λ os. FollowsAll (f both.middle) both.between os both.between_words new [] [] (end_of outcome)) o.0 both.behind));
    }

pub is_walked_in_parts : (A B : Type 0) → IsWalkedInParts A B
is_walked_in_parts A B first second old new outcome follows =
    follows_parts (is_followed_in_parts A B first second old [] new [] [] [] outcome (by_one [] [] follows))

pub is_cut_in_parts : (A B : Type 0) → IsCutInParts A B
is_cut_in_parts A B first second old new follows =
    elim (is_begun_in_parts A B first second old [] new [] [] [] (by_one [] [] follows)) [
      | inl begins ↦ inl (wrap begins)
      | inr both ↦ inr (follows_parts both)
    ]
