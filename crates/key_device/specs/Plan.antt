-- A definition that asks questions is a plan of them: each question, with how it goes on after
-- each answer. It may ask two devices, the first and the other one, and draw words of dice. A run
-- follows its plan where its talks gained exactly the plan's questions, and its dice the words.
use Rattle.std.specs.Prelude.{◌≡◌, ℕ, List, [], ◌∷◌, ◌++◌, Option, Some, None, map}
use Rattle.key_device.specs.Tape.{answer_of, tape_after}
use Rattle.key_device.specs.declared.ask.Ask.{Ask}
use Rattle.key_device.specs.declared.exchange.Exchange.{Exchange}
use Rattle.key_device.specs.declared.told.Told.{Told}

pub data Plan (A : Type 0) : Type 0 where
  -- an outcome, with no more questions
  Done : A → Plan A
  -- a question to the first device, and how the plan goes on after what was told
  Then : Ask → (Told → Plan A) → Plan A
  -- a question to the other device
  Other : Ask → (Told → Plan A) → Plan A
  -- a word of the dice
  Draw : (ℕ → Plan A) → Plan A

-- a plan, and then the one that its outcome calls for
abbrev pub bind : {A B : Type 0} → Plan A → (A → Plan B) → Plan B
bind (Done a) f = f a
bind (Then ask next) f = Then ask (λ told. bind (next told) f)
bind (Other ask next) f = Other ask (λ told. bind (next told) f)
bind (Draw next) f = Draw (λ word. bind (next word) f)

-- a plan of one device, asked of the other one
abbrev pub of_other : {A : Type 0} → Plan A → Plan A
of_other (Done a) = Done a
of_other (Then ask next) = Other ask (λ told. of_other (next told))
of_other (Other ask next) = Then ask (λ told. of_other (next told))
of_other (Draw next) = Draw (λ word. of_other (next word))

-- The exchanges with the first device, those with the other one and the words are all of the plan's,
-- each in order, with answers under which its outcome is this.
abbrev pub Walks : {A : Type 0} → Plan A → List Exchange → List Exchange → List ℕ → A → Type 0
Walks (Done a) [] [] [] outcome = outcome ≡ a
Walks (Then ask next) (e ∷ es) os ws outcome = (e.ask ≡ ask) × Walks (next e.told) es os ws outcome
Walks (Other ask next) es (o ∷ os) ws outcome = (o.ask ≡ ask) × Walks (next o.told) es os ws outcome
Walks (Draw next) es os (w ∷ ws) outcome = Walks (next w) es os ws outcome
Walks plan es os ws outcome = ⊥

-- they are the plan's up to some point
abbrev pub Begins : {A : Type 0} → Plan A → List Exchange → List Exchange → List ℕ → Type 0
Begins (Done a) [] [] [] = Unit {0}
Begins (Then ask next) (e ∷ es) os ws = (e.ask ≡ ask) × Begins (next e.told) es os ws
Begins (Then ask next) [] [] [] = Unit {0}
Begins (Other ask next) es (o ∷ os) ws = (o.ask ≡ ask) × Begins (next o.told) es os ws
Begins (Other ask next) [] [] [] = Unit {0}
Begins (Draw next) es os (w ∷ ws) = Begins (next w) es os ws
Begins (Draw next) [] [] [] = Unit {0}
Begins plan es os ws = ⊥

-- they are all of the plan's up to a word that wasn't dealt
abbrev pub Starves : {A : Type 0} → Plan A → List Exchange → List Exchange → List ℕ → Type 0
Starves (Then ask next) (e ∷ es) os ws = (e.ask ≡ ask) × Starves (next e.told) es os ws
Starves (Other ask next) es (o ∷ os) ws = (o.ask ≡ ask) × Starves (next o.told) es os ws
Starves (Draw next) es os (w ∷ ws) = Starves (next w) es os ws
Starves (Draw next) [] [] [] = Unit {0}
Starves plan es os ws = ⊥

-- how a run ended: it came to an outcome, a word wasn't dealt, or memory was wanting
pub data End (A : Type 0) : Type 0 where
  Finished : A → End A
  OutOfWords : End A
  OutOfMemory : End A

abbrev pub end_of : {A : Type 0} → Option A → End A
end_of (Some outcome) = Finished outcome
end_of None = OutOfMemory

-- Of a run that came to an outcome they are all, of one that wanted memory the first.
abbrev pub Fits : {A : Type 0} → Plan A → List Exchange → List Exchange → List ℕ → End A → Type 0
Fits plan es os ws (Finished outcome) = Walks plan es os ws outcome
Fits plan es os ws OutOfWords = Starves plan es os ws
Fits plan es os ws OutOfMemory = Begins plan es os ws

-- What the talk with one device gained are the plan's questions.
pub record Follows {A : Type 0} (plan : Plan A) (old new : List Exchange) (outcome : Option A) : Type 0 where
  pub gained : List Exchange
  pub joined : new ≡ old ++ gained
  pub fits : Fits plan gained [] [] (end_of outcome)

-- What the talks with both devices and the words dealt gained are the plan's.
pub record FollowsAll {A : Type 0} (plan : Plan A)
    (one other : List Exchange) (dealt : List ℕ) (one' other' : List Exchange) (dealt' : List ℕ)
    (end : End A) : Type 0 where
  pub gained : List Exchange
  pub joined : one' ≡ one ++ gained
  pub gained_other : List Exchange
  pub joined_other : other' ≡ other ++ gained_other
  pub words : List ℕ
  pub joined_words : dealt' ≡ dealt ++ words
  pub fits : Fits plan gained gained_other words end

-- the questions of exchanges
abbrev pub asks : List Exchange → List Ask
asks exchanges = map (λ e. e.ask) exchanges

-- a plan's questions over tapes and words, its outcome where the words sufficed, and what is left
pub record Course (A : Type 0) : Type 0 where
  pub questions : List Ask
  pub questions_other : List Ask
  pub outcome : Option A
  pub left : List Exchange
  pub left_other : List Exchange
  pub left_words : List ℕ

abbrev pub with_question : {A : Type 0} → Ask → Course A → Course A
with_question ask course = record course { questions = ask ∷ course.questions }

abbrev pub with_question_other : {A : Type 0} → Ask → Course A → Course A
with_question_other ask course = record course { questions_other = ask ∷ course.questions_other }

-- the plan where each device answers from its tape, and the words are these, in order
abbrev pub over_all : {A : Type 0} → Plan A → List Exchange → List Exchange → List ℕ → Course A
over_all (Done a) tape other words =
    record { questions = []; questions_other = []; outcome = Some a; left = tape; left_other = other; left_words = words }
over_all (Then ask next) tape other words =
    with_question ask (over_all (next (answer_of tape ask)) (tape_after tape ask) other words)
over_all (Other ask next) tape other words =
    with_question_other ask (over_all (next (answer_of other ask)) tape (tape_after other ask) words)
over_all (Draw next) tape other (w ∷ ws) = over_all (next w) tape other ws
over_all (Draw next) tape other [] =
    record { questions = []; questions_other = []; outcome = None; left = tape; left_other = other; left_words = [] }

-- the plan of one device, which answers from its tape
abbrev pub over : {A : Type 0} → Plan A → List Exchange → Course A
over plan tape = over_all plan tape [] []
