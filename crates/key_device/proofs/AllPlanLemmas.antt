-- How plans over two devices and dice join, and how the talks and words of a run follow them.
use Rattle.std.proofs.Common.{◌≡◌, ℕ, List, [], ◌∷◌, ◌++◌, Option, Some, None, refl, sym, ◌∙◌, ap, subst, append_assoc, append-nil}
use Rattle.key_device.specs.Plan.{Plan, Done, Then, Other, Draw, bind, of_other, Walks, Begins, Starves, Fits, End, Finished, OutOfWords, OutOfMemory, end_of, Follows, FollowsAll}
use Rattle.key_device.specs.Recording.{exchange}
use Rattle.key_device.specs.declared.ask.Ask.{Ask}
use Rattle.key_device.specs.declared.exchange.Exchange.{Exchange}
use Rattle.key_device.specs.declared.told.Told.{Told}

-- a walk, and then one of the plan that its outcome calls for, to any end
pub fits_bind : {A B : Type 0} (p : Plan A) (f : A → Plan B) (es os : List Exchange) (ws : List ℕ) (es' os' : List Exchange) (ws' : List ℕ) (a : A) (end : End B)
    → Walks p es os ws a → Fits (f a) es' os' ws' end → Fits (bind p f) (es ++ es') (os ++ os') (ws ++ ws') end
fits_bind (Done x) f [] [] [] es' os' ws' a end first second = subst (λ y. Fits (f y) es' os' ws' end) first second
fits_bind (Done x) f [] [] (w ∷ ws) es' os' ws' a end first second = absurd first
fits_bind (Done x) f [] (o ∷ os) ws es' os' ws' a end first second = absurd first
fits_bind (Done x) f (e ∷ es) os ws es' os' ws' a end first second = absurd first
fits_bind (Then ask next) f [] os ws es' os' ws' a end first second = absurd first
fits_bind {A} {B} (Then ask next) f (e ∷ es) os ws es' os' ws' a end first second =
    step end (fits_bind (next e.told) f es os ws es' os' ws' a end first.1 second)
  where
    step : (t : End B) → Fits (bind (next e.told) f) (es ++ es') (os ++ os') (ws ++ ws') t → Fits (bind (Then ask next) f) ((e ∷ es) ++ es') (os ++ os') (ws ++ ws') t
    step (Finished b) rest = (first.0, rest)
    step OutOfWords rest = (first.0, rest)
    step OutOfMemory rest = (first.0, rest)
fits_bind (Other ask next) f es [] ws es' os' ws' a end first second = absurd first
fits_bind {A} {B} (Other ask next) f es (o ∷ os) ws es' os' ws' a end first second =
    step end (fits_bind (next o.told) f es os ws es' os' ws' a end first.1 second)
  where
    step : (t : End B) → Fits (bind (next o.told) f) (es ++ es') (os ++ os') (ws ++ ws') t → Fits (bind (Other ask next) f) (es ++ es') ((o ∷ os) ++ os') (ws ++ ws') t
    step (Finished b) rest = (first.0, rest)
    step OutOfWords rest = (first.0, rest)
    step OutOfMemory rest = (first.0, rest)
fits_bind (Draw next) f es os [] es' os' ws' a end first second = absurd first
fits_bind {A} {B} (Draw next) f es os (w ∷ ws) es' os' ws' a end first second =
    step end (fits_bind (next w) f es os ws es' os' ws' a end first second)
  where
    step : (t : End B) → Fits (bind (next w) f) (es ++ es') (os ++ os') (ws ++ ws') t → Fits (bind (Draw next) f) (es ++ es') (os ++ os') ((w ∷ ws) ++ ws') t
    step (Finished b) rest = rest
    step OutOfWords rest = rest
    step OutOfMemory rest = rest

-- no question yet
pub begins_nothing : {A : Type 0} (p : Plan A) → Begins p [] [] []
begins_nothing (Done a) = tt
begins_nothing (Then ask next) = tt
begins_nothing (Other ask next) = tt
begins_nothing (Draw next) = tt

-- the beginning of a plan is one of the plan with more after it
pub begins_front : {A B : Type 0} (p : Plan A) (f : A → Plan B) (es os : List Exchange) (ws : List ℕ) → Begins p es os ws → Begins (bind p f) es os ws
begins_front (Done x) f [] [] [] first = begins_nothing (f x)
begins_front (Done x) f [] [] (w ∷ ws) first = absurd first
begins_front (Done x) f [] (o ∷ os) ws first = absurd first
begins_front (Done x) f (e ∷ es) os ws first = absurd first
begins_front (Then ask next) f [] [] [] first = tt
begins_front (Then ask next) f [] [] (w ∷ ws) first = absurd first
begins_front (Then ask next) f [] (o ∷ os) ws first = absurd first
begins_front (Then ask next) f (e ∷ es) os ws first = (first.0, begins_front (next e.told) f es os ws first.1)
begins_front (Other ask next) f es (o ∷ os) ws first = (first.0, begins_front (next o.told) f es os ws first.1)
begins_front (Other ask next) f [] [] [] first = tt
begins_front (Other ask next) f [] [] (w ∷ ws) first = absurd first
begins_front (Other ask next) f (e ∷ es) [] ws first = absurd first
begins_front (Draw next) f es os (w ∷ ws) first = begins_front (next w) f es os ws first
begins_front (Draw next) f [] [] [] first = tt
begins_front (Draw next) f [] (o ∷ os) [] first = absurd first
begins_front (Draw next) f (e ∷ es) os [] first = absurd first

-- and so is one that lacked a word
pub starves_front : {A B : Type 0} (p : Plan A) (f : A → Plan B) (es os : List Exchange) (ws : List ℕ) → Starves p es os ws → Starves (bind p f) es os ws
starves_front (Done x) f es os ws first = absurd first
starves_front (Then ask next) f [] os ws first = absurd first
starves_front (Then ask next) f (e ∷ es) os ws first = (first.0, starves_front (next e.told) f es os ws first.1)
starves_front (Other ask next) f es [] ws first = absurd first
starves_front (Other ask next) f es (o ∷ os) ws first = (first.0, starves_front (next o.told) f es os ws first.1)
starves_front (Draw next) f es os (w ∷ ws) first = starves_front (next w) f es os ws first
starves_front (Draw next) f [] [] [] first = tt
starves_front (Draw next) f [] (o ∷ os) [] first = absurd first
starves_front (Draw next) f (e ∷ es) os [] first = absurd first

-- a whole walk is the beginning of one
pub begins_whole : {A : Type 0} (p : Plan A) (es os : List Exchange) (ws : List ℕ) (a : A) → Walks p es os ws a → Begins p es os ws
begins_whole (Done x) [] [] [] a walk = tt
begins_whole (Done x) [] [] (w ∷ ws) a walk = absurd walk
begins_whole (Done x) [] (o ∷ os) ws a walk = absurd walk
begins_whole (Done x) (e ∷ es) os ws a walk = absurd walk
begins_whole (Then ask next) [] os ws a walk = absurd walk
begins_whole (Then ask next) (e ∷ es) os ws a walk = (walk.0, begins_whole (next e.told) es os ws a walk.1)
begins_whole (Other ask next) es [] ws a walk = absurd walk
begins_whole (Other ask next) es (o ∷ os) ws a walk = (walk.0, begins_whole (next o.told) es os ws a walk.1)
begins_whole (Draw next) es os [] a walk = absurd walk
begins_whole (Draw next) es os (w ∷ ws) a walk = begins_whole (next w) es os ws a walk

-- What the run of a function that asks two devices and dice shows, at each exit: its first part came
-- to an outcome, and the rest follows what that calls for;
pub all_more : {A B : Type 0} {p : Plan A} (f : A → Plan B) {one other one' other' one'' other'' : List Exchange} {dealt dealt' dealt'' : List ℕ} {a : A} {end : End B}
    → FollowsAll p one other dealt one' other' dealt' (Finished a) → FollowsAll (f a) one' other' dealt' one'' other'' dealt'' end
    → FollowsAll (bind p f) one other dealt one'' other'' dealt'' end
all_more {A} {B} {p} f {one} {other} {one'} {other'} {one''} {other''} {dealt} {dealt'} {dealt''} {a} {end} first second = record {
  gained = first.gained ++ second.gained;
  joined = second.joined ∙ ap (λ es. es ++ second.gained) first.joined ∙ append_assoc one first.gained second.gained;
  gained_other = first.gained_other ++ second.gained_other;
  joined_other = second.joined_other ∙ ap (λ es. es ++ second.gained_other) first.joined_other ∙ append_assoc other first.gained_other second.gained_other;
  words = first.words ++ second.words;
  joined_words = second.joined_words ∙ ap (λ ws. ws ++ second.words) first.joined_words ∙ append_assoc dealt first.words second.words;
  fits = fits_bind p f first.gained first.gained_other first.words second.gained second.gained_other second.words a end first.fits second.fits;
}

-- its first part wanted memory;
pub all_cut : {A B : Type 0} {p : Plan A} (f : A → Plan B) {one other one' other' : List Exchange} {dealt dealt' : List ℕ}
    → FollowsAll p one other dealt one' other' dealt' OutOfMemory → FollowsAll (bind p f) one other dealt one' other' dealt' OutOfMemory
all_cut {p = p} f first = record {
  gained = first.gained;
  joined = first.joined;
  gained_other = first.gained_other;
  joined_other = first.joined_other;
  words = first.words;
  joined_words = first.joined_words;
  fits = begins_front p f first.gained first.gained_other first.words first.fits;
}

-- its plan was followed to an outcome, and memory was wanting then;
pub all_halted : {A : Type 0} {p : Plan A} {one other one' other' : List Exchange} {dealt dealt' : List ℕ} {a : A}
    → FollowsAll p one other dealt one' other' dealt' (Finished a) → FollowsAll p one other dealt one' other' dealt' OutOfMemory
all_halted {p = p} {a = a} first = record {
  gained = first.gained;
  joined = first.joined;
  gained_other = first.gained_other;
  joined_other = first.joined_other;
  words = first.words;
  joined_words = first.joined_words;
  fits = begins_whole p first.gained first.gained_other first.words a first.fits;
}

-- its first part lacked a word;
pub all_undealt : {A B : Type 0} {p : Plan A} (f : A → Plan B) {one other one' other' : List Exchange} {dealt dealt' : List ℕ}
    → FollowsAll p one other dealt one' other' dealt' OutOfWords → FollowsAll (bind p f) one other dealt one' other' dealt' OutOfWords
all_undealt {p = p} f first = record {
  gained = first.gained;
  joined = first.joined;
  gained_other = first.gained_other;
  joined_other = first.joined_other;
  words = first.words;
  joined_words = first.joined_words;
  fits = starves_front p f first.gained first.gained_other first.words first.fits;
}

-- there was nothing to ask;
pub all_ended : {A : Type 0} {a : A} (one other : List Exchange) (dealt : List ℕ) → FollowsAll (Done a) one other dealt one other dealt (Finished a)
all_ended one other dealt = record {
  gained = [];
  joined = sym (append-nil one);
  gained_other = [];
  joined_other = sym (append-nil other);
  words = [];
  joined_words = sym (append-nil dealt);
  fits = refl;
}

-- memory was wanting before a question;
pub all_unasked : {A : Type 0} {p : Plan A} {one other one' other' : List Exchange} {dealt dealt' : List ℕ}
    → one' ≡ one → other' ≡ other → dealt' ≡ dealt → FollowsAll p one other dealt one' other' dealt' OutOfMemory
all_unasked {p = p} {one = one} {other = other} {dealt = dealt} same same_other same_words = record {
  gained = [];
  joined = same ∙ sym (append-nil one);
  gained_other = [];
  joined_other = same_other ∙ sym (append-nil other);
  words = [];
  joined_words = same_words ∙ sym (append-nil dealt);
  fits = begins_nothing p;
}

-- the first device alone was asked;
pub by_one : {A : Type 0} {p : Plan A} {old new : List Exchange} {outcome : Option A} (other : List Exchange) (dealt : List ℕ)
    → Follows p old new outcome → FollowsAll p old other dealt new other dealt (end_of outcome)
by_one other dealt follows = record {
  gained = follows.gained;
  joined = follows.joined;
  gained_other = [];
  joined_other = sym (append-nil other);
  words = [];
  joined_words = sym (append-nil dealt);
  fits = follows.fits;
}

-- the plan of one device is that plan of the other one,
pub walks_of_other : {A : Type 0} (p : Plan A) (es os : List Exchange) (ws : List ℕ) (a : A) → Walks p es os ws a → Walks (of_other p) os es ws a
walks_of_other (Done x) [] [] [] a walk = walk
walks_of_other (Done x) [] [] (w ∷ ws) a walk = absurd walk
walks_of_other (Done x) [] (o ∷ os) ws a walk = absurd walk
walks_of_other (Done x) (e ∷ es) os ws a walk = absurd walk
walks_of_other (Then ask next) [] os ws a walk = absurd walk
walks_of_other (Then ask next) (e ∷ es) os ws a walk = (walk.0, walks_of_other (next e.told) es os ws a walk.1)
walks_of_other (Other ask next) es [] ws a walk = absurd walk
walks_of_other (Other ask next) es (o ∷ os) ws a walk = (walk.0, walks_of_other (next o.told) es os ws a walk.1)
walks_of_other (Draw next) es os [] a walk = absurd walk
walks_of_other (Draw next) es os (w ∷ ws) a walk = walks_of_other (next w) es os ws a walk

begins_of_other : {A : Type 0} (p : Plan A) (es os : List Exchange) (ws : List ℕ) → Begins p es os ws → Begins (of_other p) os es ws
begins_of_other (Done x) [] [] [] begins = tt
begins_of_other (Done x) [] [] (w ∷ ws) begins = absurd begins
begins_of_other (Done x) [] (o ∷ os) ws begins = absurd begins
begins_of_other (Done x) (e ∷ es) os ws begins = absurd begins
begins_of_other (Then ask next) [] [] [] begins = tt
begins_of_other (Then ask next) [] [] (w ∷ ws) begins = absurd begins
begins_of_other (Then ask next) [] (o ∷ os) ws begins = absurd begins
begins_of_other (Then ask next) (e ∷ es) os ws begins = (begins.0, begins_of_other (next e.told) es os ws begins.1)
begins_of_other (Other ask next) es (o ∷ os) ws begins = (begins.0, begins_of_other (next o.told) es os ws begins.1)
begins_of_other (Other ask next) [] [] [] begins = tt
begins_of_other (Other ask next) [] [] (w ∷ ws) begins = absurd begins
begins_of_other (Other ask next) (e ∷ es) [] ws begins = absurd begins
begins_of_other (Draw next) es os (w ∷ ws) begins = begins_of_other (next w) es os ws begins
begins_of_other (Draw next) [] [] [] begins = tt
begins_of_other (Draw next) [] (o ∷ os) [] begins = absurd begins
begins_of_other (Draw next) (e ∷ es) os [] begins = absurd begins

fits_of_other : {A : Type 0} (p : Plan A) (es : List Exchange) (outcome : Option A) → Fits p es [] [] (end_of outcome) → Fits (of_other p) [] es [] (end_of outcome)
fits_of_other p es None fits = begins_of_other p es [] [] fits
fits_of_other p es (Some a) fits = walks_of_other p es [] [] a fits

-- the other device alone was asked;
pub by_other : {A : Type 0} {p : Plan A} {old new : List Exchange} {outcome : Option A} (one : List Exchange) (dealt : List ℕ)
    → Follows p old new outcome → FollowsAll (of_other p) one old dealt one new dealt (end_of outcome)
by_other {p = p} {outcome = outcome} one dealt follows = record {
  gained = [];
  joined = sym (append-nil one);
  gained_other = follows.gained;
  joined_other = follows.joined;
  words = [];
  joined_words = sym (append-nil dealt);
  fits = fits_of_other p follows.gained outcome follows.fits;
}

-- the dice alone were asked;
pub by_dice : {A : Type 0} {p : Plan A} {dealt dealt' : List ℕ} {end : End A} (one other : List Exchange)
    → FollowsAll p [] [] dealt [] [] dealt' end → FollowsAll p one other dealt one other dealt' end
by_dice {p = p} {end = end} one other follows = record {
  gained = [];
  joined = sym (append-nil one);
  gained_other = [];
  joined_other = sym (append-nil other);
  words = follows.words;
  joined_words = follows.joined_words;
  fits = subst (λ os. Fits p [] os follows.words end) (sym follows.joined_other)
      (subst (λ es. Fits p es follows.gained_other follows.words end) (sym follows.joined) follows.fits);
}

-- one device was asked of those that a plan may ask.
pub wrap : {A : Type 0} {p : Plan A} {old new : List Exchange} {outcome : Option A}
    → FollowsAll p old [] [] new [] [] (end_of outcome) → Follows p old new outcome
wrap {p = p} {outcome = outcome} follows = record {
  gained = follows.gained;
  joined = follows.joined;
  fits = subst (λ ws. Fits p follows.gained [] ws (end_of outcome)) (sym follows.joined_words)
      (subst (λ os. Fits p follows.gained os follows.words (end_of outcome)) (sym follows.joined_other) follows.fits);
}

-- A word was drawn, and the rest follows it;
pub all_drawn : {A : Type 0} {next : ℕ → Plan A} {one other one' other' : List Exchange} {dealt mid dealt' : List ℕ} {end : End A} (word : ℕ)
    → mid ≡ dealt ++ word ∷ [] → FollowsAll (next word) one other mid one' other' dealt' end
    → FollowsAll (Draw next) one other dealt one' other' dealt' end
all_drawn {A} {next} {one} {other} {one'} {other'} {dealt} {mid} {dealt'} {end} word added rest = record {
  gained = rest.gained;
  joined = rest.joined;
  gained_other = rest.gained_other;
  joined_other = rest.joined_other;
  words = word ∷ rest.words;
  joined_words = rest.joined_words ∙ ap (λ ws. ws ++ rest.words) added ∙ append_assoc dealt (word ∷ []) rest.words;
  fits = step end rest.fits;
}
  where
    step : (t : End A) → Fits (next word) rest.gained rest.gained_other rest.words t → Fits (Draw next) rest.gained rest.gained_other (word ∷ rest.words) t
    step (Finished a) fits = fits
    step OutOfWords fits = fits
    step OutOfMemory fits = fits

-- a word wasn't dealt;
pub all_starved : {A : Type 0} {next : ℕ → Plan A} {one other one' other' : List Exchange} {dealt dealt' : List ℕ}
    → one' ≡ one → other' ≡ other → dealt' ≡ dealt → FollowsAll (Draw next) one other dealt one' other' dealt' OutOfWords
all_starved {one = one} {other = other} {dealt = dealt} same same_other same_words = record {
  gained = [];
  joined = same ∙ sym (append-nil one);
  gained_other = [];
  joined_other = same_other ∙ sym (append-nil other);
  words = [];
  joined_words = same_words ∙ sym (append-nil dealt);
  fits = tt;
}

-- one question was asked of the first device,
pub all_asked : {A : Type 0} {ask : Ask} {next : Told → Plan A} {one mid one' other other' : List Exchange} {dealt dealt' : List ℕ} {end : End A} (told : Told)
    → mid ≡ one ++ exchange ask told ∷ [] → FollowsAll (next told) mid other dealt one' other' dealt' end
    → FollowsAll (Then ask next) one other dealt one' other' dealt' end
all_asked {A} {ask} {next} {one} {mid} {one'} {other} {other'} {dealt} {dealt'} {end} told added rest = record {
  gained = exchange ask told ∷ rest.gained;
  joined = rest.joined ∙ ap (λ es. es ++ rest.gained) added ∙ append_assoc one (exchange ask told ∷ []) rest.gained;
  gained_other = rest.gained_other;
  joined_other = rest.joined_other;
  words = rest.words;
  joined_words = rest.joined_words;
  fits = step end rest.fits;
}
  where
    step : (t : End A) → Fits (next told) rest.gained rest.gained_other rest.words t → Fits (Then ask next) (exchange ask told ∷ rest.gained) rest.gained_other rest.words t
    step (Finished a) fits = (refl, fits)
    step OutOfWords fits = (refl, fits)
    step OutOfMemory fits = (refl, fits)

-- or of the other one.
pub all_asked_other : {A : Type 0} {ask : Ask} {next : Told → Plan A} {one one' other mid other' : List Exchange} {dealt dealt' : List ℕ} {end : End A} (told : Told)
    → mid ≡ other ++ exchange ask told ∷ [] → FollowsAll (next told) one mid dealt one' other' dealt' end
    → FollowsAll (Other ask next) one other dealt one' other' dealt' end
all_asked_other {A} {ask} {next} {one} {one'} {other} {mid} {other'} {dealt} {dealt'} {end} told added rest = record {
  gained = rest.gained;
  joined = rest.joined;
  gained_other = exchange ask told ∷ rest.gained_other;
  joined_other = rest.joined_other ∙ ap (λ es. es ++ rest.gained_other) added ∙ append_assoc other (exchange ask told ∷ []) rest.gained_other;
  words = rest.words;
  joined_words = rest.joined_words;
  fits = step end rest.fits;
}
  where
    step : (t : End A) → Fits (next told) rest.gained rest.gained_other rest.words t → Fits (Other ask next) rest.gained (exchange ask told ∷ rest.gained_other) rest.words t
    step (Finished a) fits = (refl, fits)
    step OutOfWords fits = (refl, fits)
    step OutOfMemory fits = (refl, fits)

-- all of these exits, for `using(..)` on a function that asks two devices and dice
pub ruleset all_exits = (all_more, all_cut, all_undealt, all_ended, all_unasked, all_drawn, all_starved, all_asked, all_asked_other, by_one, by_other, by_dice)
