-- Laws of plans.
use Rattle.std.specs.Prelude.{◌≡◌, ◌⊎◌, ℕ, List, [], ◌∷◌, ◌++◌, Option, Some, None}
use Rattle.key_device.specs.Plan.{Plan, bind, Follows, FollowsAll, End, Finished, OutOfWords, OutOfMemory, asks, Course, over, over_all}
use Rattle.key_device.specs.PlanSteps.{folded}
use Rattle.key_device.specs.declared.ask.Ask.{Ask}
use Rattle.key_device.specs.declared.exchange.Exchange.{Exchange}

-- what a plan of one device asked and came to over a tape
abbrev pub course_of : {A : Type 0} → List Ask → A → List Exchange → Course A
course_of questions outcome left =
    record { questions = questions; questions_other = []; outcome = Some outcome; left = left; left_other = []; left_words = [] }

-- A law: a plan that was followed to an outcome comes, over each tape that begins with what the
-- talk gained, by the same questions to the same outcome, and leaves the rest of the tape.
abbrev pub IsOverItsTalk : Type 0 → Type 0
IsOverItsTalk A =
    (plan : Plan A) (old gained new tape : List Exchange) (outcome : A)
    → Follows plan old new (Some outcome) → new ≡ old ++ gained
    → over plan (gained ++ tape) ≡ course_of (asks gained) outcome tape

-- A law: where memory was wanting, the plan's questions over such a tape begin with the talk's.
abbrev pub BeginsWithItsTalk : Type 0 → Type 0
BeginsWithItsTalk A =
    (plan : Plan A) (old gained new tape : List Exchange)
    → Follows plan old new None → new ≡ old ++ gained
    → (more : List Ask) × ((over plan (gained ++ tape)).questions ≡ asks gained ++ more)

-- A law, the converse: where a plan over a tape asks exactly the tape's questions, the tape is a talk
-- that follows the plan.
abbrev pub FollowsWhereAllAsked : Type 0 → Type 0
FollowsWhereAllAsked A =
    (plan : Plan A) (tape old : List Exchange) (outcome : A)
    → over plan tape ≡ course_of (asks tape) outcome []
    → Follows plan old (old ++ tape) (Some outcome)

-- The three laws, over both devices and the words: of an outcome,
abbrev pub IsOverAll : Type 0 → Type 0
IsOverAll A =
    (plan : Plan A) (one es one' tape other os other' tape' : List Exchange) (dealt ws dealt' words : List ℕ) (outcome : A)
    → FollowsAll plan one other dealt one' other' dealt' (Finished outcome)
    → one' ≡ one ++ es → other' ≡ other ++ os → dealt' ≡ dealt ++ ws
    → over_all plan (es ++ tape) (os ++ tape') (ws ++ words)
    ≡ record { questions = asks es; questions_other = asks os; outcome = Some outcome; left = tape; left_other = tape'; left_words = words }

-- of a word that wasn't dealt, where no more words come,
abbrev pub IsOverAllUndealt : Type 0 → Type 0
IsOverAllUndealt A =
    (plan : Plan A) (one es one' tape other os other' tape' : List Exchange) (dealt ws dealt' : List ℕ)
    → FollowsAll plan one other dealt one' other' dealt' OutOfWords
    → one' ≡ one ++ es → other' ≡ other ++ os → dealt' ≡ dealt ++ ws
    → over_all plan (es ++ tape) (os ++ tape') ws
    ≡ record { questions = asks es; questions_other = asks os; outcome = None; left = tape; left_other = tape'; left_words = [] }

-- of want of memory,
abbrev pub BeginsWithAll : Type 0 → Type 0
BeginsWithAll A =
    (plan : Plan A) (one es one' tape other os other' tape' : List Exchange) (dealt ws dealt' words : List ℕ)
    → FollowsAll plan one other dealt one' other' dealt' OutOfMemory
    → one' ≡ one ++ es → other' ≡ other ++ os → dealt' ≡ dealt ++ ws
    → (more more' : List Ask)
    × ((over_all plan (es ++ tape) (os ++ tape') (ws ++ words)).questions ≡ asks es ++ more)
    × ((over_all plan (es ++ tape) (os ++ tape') (ws ++ words)).questions_other ≡ asks os ++ more')

-- and the converse.
abbrev pub FollowsAllWhereAsked : Type 0 → Type 0
FollowsAllWhereAsked A =
    (plan : Plan A) (es os one other : List Exchange) (ws dealt : List ℕ) (outcome : A)
    → over_all plan es os ws
    ≡ record { questions = asks es; questions_other = asks os; outcome = Some outcome; left = []; left_other = []; left_words = [] }
    → FollowsAll plan one other dealt (one ++ es) (other ++ os) (dealt ++ ws) (Finished outcome)

-- A law: the talks and words gained say the outcome,
abbrev pub HasOneOutcome : Type 0 → Type 0
HasOneOutcome A =
    (plan : Plan A) (one other one' other' : List Exchange) (dealt dealt' : List ℕ) (a b : A)
    → FollowsAll plan one other dealt one' other' dealt' (Finished a)
    → FollowsAll plan one other dealt one' other' dealt' (Finished b) → a ≡ b

-- and that there is one.
abbrev pub NeverBothEnds : Type 0 → Type 0
NeverBothEnds A =
    (plan : Plan A) (one other one' other' : List Exchange) (dealt dealt' : List ℕ) (a : A)
    → FollowsAll plan one other dealt one' other' dealt' (Finished a)
    → FollowsAll plan one other dealt one' other' dealt' OutOfWords → ⊥

-- a plan was followed, and then the one that its outcome calls for
pub record FollowsBoth {A B : Type 0} (first : Plan A) (second : A → Plan B)
    (one other : List Exchange) (dealt : List ℕ) (one' other' : List Exchange) (dealt' : List ℕ) (end : End B) : Type 0 where
  pub between : List Exchange
  pub between_other : List Exchange
  pub between_words : List ℕ
  pub middle : A
  pub before : FollowsAll first one other dealt between between_other between_words (Finished middle)
  pub behind : FollowsAll (second middle) between between_other between_words one' other' dealt' end

-- A law: where a plan with another one after it was followed to an outcome, each of them was.
abbrev pub IsFollowedInParts : Type 0 → Type 0 → Type 0
IsFollowedInParts A B =
    (first : Plan A) (second : A → Plan B) (one other one' other' : List Exchange) (dealt dealt' : List ℕ) (outcome : B)
    → FollowsAll (bind first second) one other dealt one' other' dealt' (Finished outcome)
    → FollowsBoth first second one other dealt one' other' dealt' (Finished outcome)

-- A law: where memory was wanting, or a word, that was in the first one, or the first one came to an
-- outcome and it was in the second.
abbrev pub IsBegunInParts : Type 0 → Type 0 → Type 0
IsBegunInParts A B =
    (first : Plan A) (second : A → Plan B) (one other one' other' : List Exchange) (dealt dealt' : List ℕ)
    → FollowsAll (bind first second) one other dealt one' other' dealt' OutOfMemory
    → FollowsAll first one other dealt one' other' dealt' OutOfMemory
    ⊎ FollowsBoth first second one other dealt one' other' dealt' OutOfMemory

abbrev pub IsUndealtInParts : Type 0 → Type 0 → Type 0
IsUndealtInParts A B =
    (first : Plan A) (second : A → Plan B) (one other one' other' : List Exchange) (dealt dealt' : List ℕ)
    → FollowsAll (bind first second) one other dealt one' other' dealt' OutOfWords
    → FollowsAll first one other dealt one' other' dealt' OutOfWords
    ⊎ FollowsBoth first second one other dealt one' other' dealt' OutOfWords

-- one device was asked a plan, and then the one that its outcome calls for
pub record FollowsParts {A B : Type 0} (first : Plan A) (second : A → Plan B) (old new : List Exchange) (outcome : Option B) : Type 0 where
  pub between : List Exchange
  pub middle : A
  pub before : Follows first old between (Some middle)
  pub behind : Follows (second middle) between new outcome

-- The two laws, of one device.
abbrev pub IsWalkedInParts : Type 0 → Type 0 → Type 0
IsWalkedInParts A B =
    (first : Plan A) (second : A → Plan B) (old new : List Exchange) (outcome : B)
    → Follows (bind first second) old new (Some outcome) → FollowsParts first second old new (Some outcome)

abbrev pub IsCutInParts : Type 0 → Type 0 → Type 0
IsCutInParts A B =
    (first : Plan A) (second : A → Plan B) (old new : List Exchange)
    → Follows (bind first second) old new None
    → Follows first old new None ⊎ FollowsParts first second old new None

-- A law: steps over a list with one more at its end are those over the list, and then that one.
abbrev pub StepsOnAtTheEnd : Type 0 → Type 0 → Type 0
StepsOnAtTheEnd S X =
    (step : S → X → Plan S) (state : S) (xs : List X) (x : X)
    → folded step state (xs ++ x ∷ []) ≡ bind (folded step state xs) (λ next. step next x)
