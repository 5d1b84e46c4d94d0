-- The course of a plan after a plan.
use Rattle.std.proofs.Common.{◌≡◌, ℕ, List, [], ◌∷◌, ◌++◌, Option, Some, None, refl, sym, ◌∙◌, ap}
use Rattle.key_device.specs.Plan.{Plan, Done, Then, Other, Draw, bind, Course, with_question, with_question_other, over_all}
use Rattle.key_device.specs.Tape.{answer_of, tape_after}
use Rattle.key_device.specs.declared.ask.Ask.{Ask}
use Rattle.key_device.specs.declared.exchange.Exchange.{Exchange}

-- questions after questions
abbrev pub after_questions : {B : Type 0} → List Ask → List Ask → Course B → Course B
after_questions qs os course = record course { questions = qs ++ course.questions; questions_other = os ++ course.questions_other }

-- how a course goes on: over what it left, by the plan that its outcome calls for
abbrev pub went_on : {A B : Type 0} → (A → Plan B) → Course A → Option A → Course B
went_on f course None =
    record { questions = course.questions; questions_other = course.questions_other; outcome = None; left = course.left; left_other = course.left_other; left_words = course.left_words }
went_on f course (Some a) =
    after_questions course.questions course.questions_other (over_all (f a) course.left course.left_other course.left_words)

question_on : {A B : Type 0} (f : A → Plan B) (ask : Ask) (course : Course A) (outcome : Option A)
    → with_question ask (went_on f course outcome) ≡ went_on f (with_question ask course) outcome
question_on f ask course None = refl
question_on f ask course (Some a) = refl

question_other_on : {A B : Type 0} (f : A → Plan B) (ask : Ask) (course : Course A) (outcome : Option A)
    → with_question_other ask (went_on f course outcome) ≡ went_on f (with_question_other ask course) outcome
question_other_on f ask course None = refl
question_other_on f ask course (Some a) = refl

-- a plan with another one after it, over tapes and words
pub over_bind : {A B : Type 0} (p : Plan A) (f : A → Plan B) (tape other : List Exchange) (words : List ℕ)
    → over_all (bind p f) tape other words ≡ went_on f (over_all p tape other words) (over_all p tape other words).outcome
over_bind (Done a) f tape other words = refl
over_bind (Then ask next) f tape other words =
    let rest = over_all (next (answer_of tape ask)) (tape_after tape ask) other words in
    ap (with_question ask) (over_bind (next (answer_of tape ask)) f (tape_after tape ask) other words) ∙ question_on f ask rest rest.outcome
over_bind (Other ask next) f tape other words =
    let rest = over_all (next (answer_of other ask)) tape (tape_after other ask) words in
    ap (with_question_other ask) (over_bind (next (answer_of other ask)) f tape (tape_after other ask) words) ∙ question_other_on f ask rest rest.outcome
over_bind (Draw next) f tape other (w ∷ ws) = over_bind (next w) f tape other ws
over_bind (Draw next) f tape other [] = refl

went_on_same : {A B : Type 0} (f g : A → Plan B) (course : Course A) (outcome : Option A)
    → ((a : A) → outcome ≡ Some a → over_all (g a) course.left course.left_other course.left_words ≡ over_all (f a) course.left course.left_other course.left_words)
    → went_on g course outcome ≡ went_on f course outcome
went_on_same f g course None same = refl
went_on_same f g course (Some a) same = ap (after_questions course.questions course.questions_other) (same a refl)

-- plans of one course with plans of one course after them are of one course
pub over_same : {A B : Type 0} (p q : Plan A) (f g : A → Plan B) (tape other : List Exchange) (words : List ℕ)
    → over_all q tape other words ≡ over_all p tape other words
    → ((a : A) → (over_all p tape other words).outcome ≡ Some a
    → over_all (g a) (over_all p tape other words).left (over_all p tape other words).left_other (over_all p tape other words).left_words
    ≡ over_all (f a) (over_all p tape other words).left (over_all p tape other words).left_other (over_all p tape other words).left_words)
    → over_all (bind q g) tape other words ≡ over_all (bind p f) tape other words
over_same p q f g tape other words same rest =
    over_bind q g tape other words
    ∙ ap (λ course. went_on g course course.outcome) same
    ∙ went_on_same f g (over_all p tape other words) (over_all p tape other words).outcome rest
    ∙ sym (over_bind p f tape other words)

-- the outcome of a plan after one that came to this outcome
pub outcome_bind : {A B : Type 0} (p : Plan A) (f : A → Plan B) (tape other : List Exchange) (words : List ℕ) (a : A)
    → (over_all p tape other words).outcome ≡ Some a
    → (over_all (bind p f) tape other words).outcome
    ≡ (over_all (f a) (over_all p tape other words).left (over_all p tape other words).left_other (over_all p tape other words).left_words).outcome
outcome_bind {A} {B} p f tape other words a is =
    let course = over_all p tape other words in
    ap (λ (c : Course B). c.outcome) (over_bind p f tape other words)
    ∙ ap (λ (outcome : Option A). (went_on f course outcome).outcome) is
