-- A plan over tapes and words, and its walks.
use Rattle.std.proofs.Common.{◌≡◌, ℕ, List, [], ◌∷◌, ◌++◌, true, Some, None, refl, sym, ◌∙◌, ap, subst}
use Rattle.std.proofs.lemmas.List.{append_cancel_left}
use Rattle.key_device.proofs.AllPlanLemmas.{wrap}
use Rattle.key_device.proofs.SameAsk.{ask_itself}
use Rattle.key_device.specs.Plan.{Plan, Done, Then, Other, Draw, Walks, Begins, Starves, Fits, End, Finished, OutOfWords, OutOfMemory, asks, Course, over_all}
use Rattle.key_device.specs.PlanLaws.{IsOverItsTalk, BeginsWithItsTalk, FollowsWhereAllAsked, IsOverAll, IsOverAllUndealt, BeginsWithAll, FollowsAllWhereAsked}
use Rattle.key_device.specs.Tape.{same_ask, answer_of, tape_after}
use Rattle.key_device.specs.declared.ask.Ask.{Ask}
use Rattle.key_device.specs.declared.exchange.Exchange.{Exchange}

-- a tape tells each of these exchanges, in order, and leaves that
abbrev pub Tells : List Exchange → List Exchange → List Exchange → Type 0
Tells tape [] left = left ≡ tape
Tells tape (e ∷ es) left = (e.told ≡ answer_of tape e.ask) × Tells (tape_after tape e.ask) es left

-- a tape tells the exchanges at its front
pub tells_front : (es tape : List Exchange) → Tells (es ++ tape) es tape
tells_front [] tape = refl
tells_front (e ∷ es) tape =
    let next : same_ask e.ask e.ask ≡ true = ask_itself e.ask in
    (rw next refl, rw next (tells_front es tape))

-- a plan over tapes that tell a walk of it goes that way
pub over_walk : {A : Type 0} (p : Plan A) (es os : List Exchange) (ws : List ℕ) (a : A) (tape left tape' left' : List Exchange) (words : List ℕ)
    → Walks p es os ws a → Tells tape es left → Tells tape' os left'
    → over_all p tape tape' (ws ++ words) ≡ record { questions = asks es; questions_other = asks os; outcome = Some a; left = left; left_other = left'; left_words = words }
over_walk (Done x) [] [] [] a tape left tape' left' words walk tells tells' = rw (walk, tells, tells') refl
over_walk (Done x) [] [] (w ∷ ws) a tape left tape' left' words walk tells tells' = absurd walk
over_walk (Done x) [] (o ∷ os) ws a tape left tape' left' words walk tells tells' = absurd walk
over_walk (Done x) (e ∷ es) os ws a tape left tape' left' words walk tells tells' = absurd walk
over_walk (Then ask next) [] os ws a tape left tape' left' words walk tells tells' = absurd walk
over_walk {A} (Then ask next) (e ∷ es) os ws a tape left tape' left' words walk tells tells' =
    let told : e.told ≡ answer_of tape ask = tells.0 ∙ ap (answer_of tape) walk.0 in
    let behind : Tells (tape_after tape ask) es left = subst (λ q. Tells (tape_after tape q) es left) walk.0 tells.1 in
    let rest = over_walk (next e.told) es os ws a (tape_after tape ask) left tape' left' words walk.1 behind tells' in
    subst (λ (q : Ask). over_all (Then ask next) tape tape' (ws ++ words) ≡ record { questions = q ∷ asks es; questions_other = asks os; outcome = Some a; left = left; left_other = left'; left_words = words }) (sym walk.0)
    (ap (λ (c : Course A). record c { questions = ask ∷ c.questions }) (ap (λ told. over_all (next told) (tape_after tape ask) tape' (ws ++ words)) (sym told) ∙ rest))
over_walk (Other ask next) es [] ws a tape left tape' left' words walk tells tells' = absurd walk
over_walk {A} (Other ask next) es (o ∷ os) ws a tape left tape' left' words walk tells tells' =
    let told : o.told ≡ answer_of tape' ask = tells'.0 ∙ ap (answer_of tape') walk.0 in
    let behind : Tells (tape_after tape' ask) os left' = subst (λ q. Tells (tape_after tape' q) os left') walk.0 tells'.1 in
    let rest = over_walk (next o.told) es os ws a tape left (tape_after tape' ask) left' words walk.1 tells behind in
    subst (λ (q : Ask). over_all (Other ask next) tape tape' (ws ++ words) ≡ record { questions = asks es; questions_other = q ∷ asks os; outcome = Some a; left = left; left_other = left'; left_words = words }) (sym walk.0)
    (ap (λ (c : Course A). record c { questions_other = ask ∷ c.questions_other }) (ap (λ told. over_all (next told) tape (tape_after tape' ask) (ws ++ words)) (sym told) ∙ rest))
over_walk (Draw next) es os [] a tape left tape' left' words walk tells tells' = absurd walk
over_walk (Draw next) es os (w ∷ ws) a tape left tape' left' words walk tells tells' =
    over_walk (next w) es os ws a tape left tape' left' words walk tells tells'

-- one that lacks a word goes as far
pub over_starves : {A : Type 0} (p : Plan A) (es os : List Exchange) (ws : List ℕ) (tape left tape' left' : List Exchange)
    → Starves p es os ws → Tells tape es left → Tells tape' os left'
    → over_all p tape tape' ws ≡ record { questions = asks es; questions_other = asks os; outcome = None; left = left; left_other = left'; left_words = [] }
over_starves (Done x) es os ws tape left tape' left' starves tells tells' = absurd starves
over_starves (Then ask next) [] os ws tape left tape' left' starves tells tells' = absurd starves
over_starves {A} (Then ask next) (e ∷ es) os ws tape left tape' left' starves tells tells' =
    let told : e.told ≡ answer_of tape ask = tells.0 ∙ ap (answer_of tape) starves.0 in
    let behind : Tells (tape_after tape ask) es left = subst (λ q. Tells (tape_after tape q) es left) starves.0 tells.1 in
    let rest = over_starves (next e.told) es os ws (tape_after tape ask) left tape' left' starves.1 behind tells' in
    subst (λ (q : Ask). over_all (Then ask next) tape tape' ws ≡ record { questions = q ∷ asks es; questions_other = asks os; outcome = None; left = left; left_other = left'; left_words = [] }) (sym starves.0)
    (ap (λ (c : Course A). record c { questions = ask ∷ c.questions }) (ap (λ told. over_all (next told) (tape_after tape ask) tape' ws) (sym told) ∙ rest))
over_starves (Other ask next) es [] ws tape left tape' left' starves tells tells' = absurd starves
over_starves {A} (Other ask next) es (o ∷ os) ws tape left tape' left' starves tells tells' =
    let told : o.told ≡ answer_of tape' ask = tells'.0 ∙ ap (answer_of tape') starves.0 in
    let behind : Tells (tape_after tape' ask) os left' = subst (λ q. Tells (tape_after tape' q) os left') starves.0 tells'.1 in
    let rest = over_starves (next o.told) es os ws tape left (tape_after tape' ask) left' starves.1 tells behind in
    subst (λ (q : Ask). over_all (Other ask next) tape tape' ws ≡ record { questions = asks es; questions_other = q ∷ asks os; outcome = None; left = left; left_other = left'; left_words = [] }) (sym starves.0)
    (ap (λ (c : Course A). record c { questions_other = ask ∷ c.questions_other }) (ap (λ told. over_all (next told) tape (tape_after tape' ask) ws) (sym told) ∙ rest))
over_starves (Draw next) es os (w ∷ ws) tape left tape' left' starves tells tells' = over_starves (next w) es os ws tape left tape' left' starves tells tells'
over_starves (Draw next) [] [] [] tape left tape' left' starves tells tells' = rw (tells, tells') refl
over_starves (Draw next) [] (o ∷ os) [] tape left tape' left' starves tells tells' = absurd starves
over_starves (Draw next) (e ∷ es) os [] tape left tape' left' starves tells tells' = absurd starves

-- one that was begun asks those questions first
pub over_begins : {A : Type 0} (p : Plan A) (es os : List Exchange) (ws : List ℕ) (tape left tape' left' : List Exchange) (words : List ℕ)
    → Begins p es os ws → Tells tape es left → Tells tape' os left'
    → (more more' : List Ask) × ((over_all p tape tape' (ws ++ words)).questions ≡ asks es ++ more) × ((over_all p tape tape' (ws ++ words)).questions_other ≡ asks os ++ more')
over_begins p [] [] [] tape left tape' left' words begins tells tells' = ((over_all p tape tape' words).questions, (over_all p tape tape' words).questions_other, refl, refl)
over_begins (Done x) [] [] (w ∷ ws) tape left tape' left' words begins tells tells' = absurd begins
over_begins (Done x) [] (o ∷ os) ws tape left tape' left' words begins tells tells' = absurd begins
over_begins (Done x) (e ∷ es) os ws tape left tape' left' words begins tells tells' = absurd begins
over_begins (Then ask next) [] [] (w ∷ ws) tape left tape' left' words begins tells tells' = absurd begins
over_begins (Then ask next) [] (o ∷ os) ws tape left tape' left' words begins tells tells' = absurd begins
over_begins (Then ask next) (e ∷ es) os ws tape left tape' left' words begins tells tells' =
    let told : e.told ≡ answer_of tape ask = tells.0 ∙ ap (answer_of tape) begins.0 in
    let behind : Tells (tape_after tape ask) es left = subst (λ q. Tells (tape_after tape q) es left) begins.0 tells.1 in
    let rest = over_begins (next e.told) es os ws (tape_after tape ask) left tape' left' words begins.1 behind tells' in
    let way = ap (λ told. over_all (next told) (tape_after tape ask) tape' (ws ++ words)) told in
    (rest.0, rest.1, ap (λ c. ask ∷ c.questions) (sym way) ∙ ap (λ qs. ask ∷ qs) rest.2 ∙ ap (λ q. q ∷ asks es ++ rest.0) (sym begins.0), ap (λ c. c.questions_other) (sym way) ∙ rest.3)
over_begins (Other ask next) es (o ∷ os) ws tape left tape' left' words begins tells tells' =
    let told : o.told ≡ answer_of tape' ask = tells'.0 ∙ ap (answer_of tape') begins.0 in
    let behind : Tells (tape_after tape' ask) os left' = subst (λ q. Tells (tape_after tape' q) os left') begins.0 tells'.1 in
    let rest = over_begins (next o.told) es os ws tape left (tape_after tape' ask) left' words begins.1 tells behind in
    let way = ap (λ told. over_all (next told) tape (tape_after tape' ask) (ws ++ words)) told in
    (rest.0, rest.1, ap (λ c. c.questions) (sym way) ∙ rest.2, ap (λ c. ask ∷ c.questions_other) (sym way) ∙ ap (λ qs. ask ∷ qs) rest.3 ∙ ap (λ q. q ∷ asks os ++ rest.1) (sym begins.0))
over_begins (Other ask next) [] [] (w ∷ ws) tape left tape' left' words begins tells tells' = absurd begins
over_begins (Other ask next) (e ∷ es) [] ws tape left tape' left' words begins tells tells' = absurd begins
over_begins (Draw next) es os (w ∷ ws) tape left tape' left' words begins tells tells' = over_begins (next w) es os ws tape left tape' left' words begins tells tells'
over_begins (Draw next) [] (o ∷ os) [] tape left tape' left' words begins tells tells' = absurd begins
over_begins (Draw next) (e ∷ es) os [] tape left tape' left' words begins tells tells' = absurd begins

-- what was gained is what was gained
pub gained_is : {X : Type 0} {new : List X} (old one two : List X) → new ≡ old ++ one → new ≡ old ++ two → one ≡ two
gained_is old one two is same = append_cancel_left old one two (sym is ∙ same)

-- the same fit of other lists
pub fits_same : {A : Type 0} (p : Plan A) {es es' os os' : List Exchange} {ws ws' : List ℕ} (end : End A)
    → es ≡ es' → os ≡ os' → ws ≡ ws' → Fits p es os ws end → Fits p es' os' ws' end
fits_same p {es} {es'} {os} {os'} {ws} {ws'} end e o w fits =
    subst (λ xs. Fits p es' os' xs end) w (subst (λ xs. Fits p es' xs ws end) o (subst (λ xs. Fits p xs os ws end) e fits))

pub is_over_all : (A : Type 0) → IsOverAll A
is_over_all A plan one es one' tape other os other' tape' dealt ws dealt' words outcome follows e o w =
    over_walk plan es os ws outcome (es ++ tape) tape (os ++ tape') tape' words
    (fits_same plan (Finished outcome) (gained_is one follows.gained es follows.joined e) (gained_is other follows.gained_other os follows.joined_other o) (gained_is dealt follows.words ws follows.joined_words w) follows.fits)
    (tells_front es tape) (tells_front os tape')

pub is_over_all_undealt : (A : Type 0) → IsOverAllUndealt A
is_over_all_undealt A plan one es one' tape other os other' tape' dealt ws dealt' follows e o w =
    over_starves plan es os ws (es ++ tape) tape (os ++ tape') tape'
    (fits_same plan OutOfWords (gained_is one follows.gained es follows.joined e) (gained_is other follows.gained_other os follows.joined_other o) (gained_is dealt follows.words ws follows.joined_words w) follows.fits)
    (tells_front es tape) (tells_front os tape')

pub begins_with_all : (A : Type 0) → BeginsWithAll A
begins_with_all A plan one es one' tape other os other' tape' dealt ws dealt' words follows e o w =
    over_begins plan es os ws (es ++ tape) tape (os ++ tape') tape' words
    (fits_same plan OutOfMemory (gained_is one follows.gained es follows.joined e) (gained_is other follows.gained_other os follows.joined_other o) (gained_is dealt follows.words ws follows.joined_words w) follows.fits)
    (tells_front es tape) (tells_front os tape')

pub is_over_its_talk : (A : Type 0) → IsOverItsTalk A
is_over_its_talk A plan old gained new tape outcome follows is =
    over_walk plan gained [] [] outcome (gained ++ tape) tape [] [] []
    (fits_same plan (Finished outcome) (gained_is old follows.gained gained follows.joined is) refl refl follows.fits) (tells_front gained tape) refl

pub begins_with_its_talk : (A : Type 0) → BeginsWithItsTalk A
begins_with_its_talk A plan old gained new tape follows is =
    let begun = over_begins plan gained [] [] (gained ++ tape) tape [] [] []
    (fits_same plan OutOfMemory (gained_is old follows.gained gained follows.joined is) refl refl follows.fits) (tells_front gained tape) refl in
    (begun.0, begun.2)

-- The converse: a plan that over tapes and words asks exactly their questions walks them.
pub record Asks {A : Type 0} (p : Plan A) (es os : List Exchange) (ws : List ℕ) (a : A) : Type 0 where
  pub questions : (over_all p es os ws).questions ≡ asks es
  pub others : (over_all p es os ws).questions_other ≡ asks os
  pub outcome : (over_all p es os ws).outcome ≡ Some a
  pub words : (over_all p es os ws).left_words ≡ []

-- a tape whose next question is that tells what stands there
next_is : (e : Exchange) (es : List Exchange) (ask : Ask) → e.ask ≡ ask → (answer_of (e ∷ es) ask ≡ e.told) × (tape_after (e ∷ es) ask ≡ es)
next_is e es ask is =
    let next : same_ask e.ask ask ≡ true = rw is (ask_itself ask) in
    (rw next refl, rw next refl)

pub walk_of_asked : {A : Type 0} (p : Plan A) (es os : List Exchange) (ws : List ℕ) (a : A) → Asks p es os ws a → Walks p es os ws a
walk_of_asked (Done x) [] [] [] a asked = let is : Some x ≡ Some a = asked.outcome in cc
walk_of_asked (Done x) [] [] (w ∷ ws) a asked = absurd (let is : w ∷ ws ≡ [] = asked.words in cc)
walk_of_asked (Done x) [] (o ∷ os) ws a asked = absurd (let is : [] ≡ o.ask ∷ asks os = asked.others in cc)
walk_of_asked (Done x) (e ∷ es) os ws a asked = absurd (let is : [] ≡ e.ask ∷ asks es = asked.questions in cc)
walk_of_asked (Then ask next) [] os ws a asked = absurd (let is : ask ∷ (over_all (next (answer_of [] ask)) (tape_after [] ask) os ws).questions ≡ [] = asked.questions in cc)
walk_of_asked (Then ask next) (e ∷ es) os ws a asked =
    let both : ask ∷ (over_all (next (answer_of (e ∷ es) ask)) (tape_after (e ∷ es) ask) os ws).questions ≡ e.ask ∷ asks es = asked.questions in
    let same : e.ask ≡ ask = cc in
    let at = next_is e es ask same in
    let way : over_all (next (answer_of (e ∷ es) ask)) (tape_after (e ∷ es) ask) os ws ≡ over_all (next e.told) es os ws = rw (at.0, at.1) refl in
    let rest : (over_all (next (answer_of (e ∷ es) ask)) (tape_after (e ∷ es) ask) os ws).questions ≡ asks es = cc in (
      same,
      walk_of_asked (next e.told) es os ws a (record {
        questions = ap (λ c. c.questions) (sym way) ∙ rest;
        others = ap (λ c. c.questions_other) (sym way) ∙ asked.others;
        outcome = ap (λ c. c.outcome) (sym way) ∙ asked.outcome;
        words = ap (λ c. c.left_words) (sym way) ∙ asked.words;
      }),
    )
walk_of_asked (Other ask next) es [] ws a asked = absurd (let is : ask ∷ (over_all (next (answer_of [] ask)) es (tape_after [] ask) ws).questions_other ≡ [] = asked.others in cc)
walk_of_asked (Other ask next) es (o ∷ os) ws a asked =
    let both : ask ∷ (over_all (next (answer_of (o ∷ os) ask)) es (tape_after (o ∷ os) ask) ws).questions_other ≡ o.ask ∷ asks os = asked.others in
    let same : o.ask ≡ ask = cc in
    let at = next_is o os ask same in
    let way : over_all (next (answer_of (o ∷ os) ask)) es (tape_after (o ∷ os) ask) ws ≡ over_all (next o.told) es os ws = rw (at.0, at.1) refl in
    let rest : (over_all (next (answer_of (o ∷ os) ask)) es (tape_after (o ∷ os) ask) ws).questions_other ≡ asks os = cc in (
      same,
      walk_of_asked (next o.told) es os ws a (record {
        questions = ap (λ c. c.questions) (sym way) ∙ asked.questions;
        others = ap (λ c. c.questions_other) (sym way) ∙ rest;
        outcome = ap (λ c. c.outcome) (sym way) ∙ asked.outcome;
        words = ap (λ c. c.left_words) (sym way) ∙ asked.words;
      }),
    )
walk_of_asked (Draw next) es os [] a asked = absurd (let is : None ≡ Some a = asked.outcome in cc)
walk_of_asked (Draw next) es os (w ∷ ws) a asked =
    walk_of_asked (next w) es os ws a (record { questions = asked.questions; others = asked.others; outcome = asked.outcome; words = asked.words })

pub follows_all_where_asked : (A : Type 0) → FollowsAllWhereAsked A
follows_all_where_asked A plan es os one other ws dealt outcome is = record {
  gained = es;
  joined = refl;
  gained_other = os;
  joined_other = refl;
  words = ws;
  joined_words = refl;
  fits = walk_of_asked plan es os ws outcome (record {
    questions = ap (λ c. c.questions) is;
    others = ap (λ c. c.questions_other) is;
    outcome = ap (λ c. c.outcome) is;
    words = ap (λ c. c.left_words) is;
  });
}

pub follows_where_all_asked : (A : Type 0) → FollowsWhereAllAsked A
follows_where_all_asked A plan tape old outcome is = wrap (follows_all_where_asked A plan tape [] old [] [] [] outcome is)
