-- The first check of an element that fails.
use Rattle.std.proofs.Common.{◌≡◌, ◌<◌, ℕ, List, Bool, true, false, not, Option, Some, None, refl, subst, arith}
use Rattle.std.specs.Str.{bytes_eq}
use Rattle.std.proofs.lemmas.Slice.Eq.{bytes_eq-Decides}
use Rattle.mdoc_outside.specs.OptionSteps.{unless}
use Rattle.verdict_model.specs.Elements.{digest_check, if_differs, or_next}
use Rattle.verdict_laws.specs.FirstCheck.{IsFirst, NoneFails, place, Fails}
use Rattle.verdict_model.specs.declared.element_check.ElementCheck.{ElementCheck}
use Rattle.verdict_model.specs.declared.element_check.ElementCheck.TheVariants as checks

-- the first check that fails, by what is asked
abbrev later_checks : Bool → Bool → Option ElementCheck
later_checks repeated requested = or_next (unless (not repeated) checks.Repeated) (unless requested checks.NotRequested)

abbrev pub checked : List ℕ → Option (List ℕ) → Bool → Bool → Option ElementCheck
checked digest at repeated requested = or_next (digest_check digest at) (later_checks repeated requested)

equal_of : (kept digest : List ℕ) → bytes_eq kept digest ≡ true → kept ≡ digest
equal_of kept digest is = (bytes_eq-Decides kept digest).0 is

differ_of : (kept digest : List ℕ) → bytes_eq kept digest ≡ false → kept ≡ digest → ⊥
differ_of kept digest is same = cc ((bytes_eq-Decides kept digest).1 same)

-- ---- before a place none fails

before_digest : (digest : List ℕ) (at : Option (List ℕ)) (repeated requested : Bool) (other : ElementCheck) → place other < 1 → Fails digest at repeated requested other → ⊥
before_digest digest at repeated requested checks.ItemForm less failed = failed
before_digest digest at repeated requested checks.NoDigest less failed = absurd (omega arith)
before_digest digest at repeated requested (checks.DigestDiffers kept made) less failed = absurd (omega arith)
before_digest digest at repeated requested checks.Repeated less failed = absurd (omega arith)
before_digest digest at repeated requested checks.NotRequested less failed = absurd (omega arith)

before_differs : (digest kept : List ℕ) (repeated requested : Bool) (other : ElementCheck) → place other < 2 → Fails digest (Some kept) repeated requested other → ⊥
before_differs digest kept repeated requested checks.ItemForm less failed = failed
before_differs digest kept repeated requested checks.NoDigest less failed = cc
before_differs digest kept repeated requested (checks.DigestDiffers own made) less failed = absurd (omega arith)
before_differs digest kept repeated requested checks.Repeated less failed = absurd (omega arith)
before_differs digest kept repeated requested checks.NotRequested less failed = absurd (omega arith)

before_repeated : (digest kept : List ℕ) (repeated requested : Bool) → kept ≡ digest → (other : ElementCheck) → place other < 3 → Fails digest (Some kept) repeated requested other → ⊥
before_repeated digest kept repeated requested same checks.ItemForm less failed = failed
before_repeated digest kept repeated requested same checks.NoDigest less failed = cc
before_repeated digest kept repeated requested same (checks.DigestDiffers own made) less failed = failed.2 (cc)
before_repeated digest kept repeated requested same checks.Repeated less failed = absurd (omega arith)
before_repeated digest kept repeated requested same checks.NotRequested less failed = absurd (omega arith)

before_requested : (digest kept : List ℕ) (requested : Bool) → kept ≡ digest → (other : ElementCheck) → place other < 4 → Fails digest (Some kept) false requested other → ⊥
before_requested digest kept requested same checks.ItemForm less failed = failed
before_requested digest kept requested same checks.NoDigest less failed = cc
before_requested digest kept requested same (checks.DigestDiffers own made) less failed = failed.2 (cc)
before_requested digest kept requested same checks.Repeated less failed = cc
before_requested digest kept requested same checks.NotRequested less failed = absurd (omega arith)

none_fails : (digest kept : List ℕ) → kept ≡ digest → NoneFails (Fails digest (Some kept) false true)
none_fails digest kept same checks.ItemForm failed = failed
none_fails digest kept same checks.NoDigest failed = cc
none_fails digest kept same (checks.DigestDiffers own made) failed = failed.2 (cc)
none_fails digest kept same checks.Repeated failed = cc
none_fails digest kept same checks.NotRequested failed = cc

-- ---- a refusal is by the first

pub one_of : (one check : ElementCheck) → Some one ≡ Some check → one ≡ check
one_of one check is = cc

first_later : (digest kept : List ℕ) (repeated requested : Bool) (check : ElementCheck) → kept ≡ digest
    → later_checks repeated requested ≡ Some check → IsFirst (Fails digest (Some kept) repeated requested) place check
first_later digest kept true requested check same is =
    subst (IsFirst (Fails digest (Some kept) true requested) place) (one_of checks.Repeated check is)
    (record { fails = refl; before = before_repeated digest kept true requested same })
first_later digest kept false false check same is =
    subst (IsFirst (Fails digest (Some kept) false false) place) (one_of checks.NotRequested check is)
    (record { fails = refl; before = before_requested digest kept false same })
first_later digest kept false true check same is = cc

first_of_digest : (differs : Bool) (digest kept : List ℕ) (repeated requested : Bool) (check : ElementCheck) → bytes_eq kept digest ≡ differs
    → or_next (if_differs differs kept digest) (later_checks repeated requested) ≡ Some check → IsFirst (Fails digest (Some kept) repeated requested) place check
first_of_digest true digest kept repeated requested check same is = first_later digest kept repeated requested check (equal_of kept digest same) is
first_of_digest false digest kept repeated requested check other is =
    subst (IsFirst (Fails digest (Some kept) repeated requested) place) (one_of (checks.DigestDiffers kept digest) check is)
    (record { fails = (refl, refl, differ_of kept digest other); before = before_differs digest kept repeated requested })

pub refused_by_first : (digest : List ℕ) (at : Option (List ℕ)) (repeated requested : Bool) (check : ElementCheck)
    → checked digest at repeated requested ≡ Some check → IsFirst (Fails digest at repeated requested) place check
refused_by_first digest None repeated requested check is =
    subst (IsFirst (Fails digest None repeated requested) place) (one_of checks.NoDigest check is)
    (record { fails = refl; before = before_digest digest None repeated requested })
refused_by_first digest (Some kept) repeated requested check is = first_of_digest (bytes_eq kept digest) digest kept repeated requested check refl is

-- ---- what fails first refuses

-- the digest passes where neither of its checks fails
digest_passes : (digest : List ℕ) (at : Option (List ℕ)) (repeated requested : Bool)
    → (Fails digest at repeated requested checks.NoDigest → ⊥) → ((kept made : List ℕ) → Fails digest at repeated requested (checks.DigestDiffers kept made) → ⊥)
    → digest_check digest at ≡ None
digest_passes digest None repeated requested there same = absurd (there refl)
digest_passes digest (Some kept) repeated requested there same = by_test (bytes_eq kept digest) refl where
  by_test : (test : Bool) → bytes_eq kept digest ≡ test → if_differs test kept digest ≡ None
  by_test true is = refl
  by_test false is = absurd (same kept digest (refl, refl, differ_of kept digest is))

false_of : (test : Bool) → (test ≡ true → ⊥) → test ≡ false
false_of true never = absurd (never refl)
false_of false never = refl

true_of : (test : Bool) → (test ≡ false → ⊥) → test ≡ true
true_of true never = refl
true_of false never = absurd (never refl)

test_differs : (test : Bool) (kept digest : List ℕ) → bytes_eq kept digest ≡ test → (kept ≡ digest → ⊥) → bytes_eq kept digest ≡ false
test_differs true kept digest is differ = absurd (differ (equal_of kept digest is))
test_differs false kept digest is differ = is

pub first_refuses : (digest : List ℕ) (at : Option (List ℕ)) (repeated requested : Bool) (check : ElementCheck)
    → IsFirst (Fails digest at repeated requested) place check → checked digest at repeated requested ≡ Some check
first_refuses digest at repeated requested checks.ItemForm first = absurd first.fails
first_refuses digest at repeated requested checks.NoDigest first = rw first.fails refl
first_refuses digest at repeated requested (checks.DigestDiffers kept made) first =
    let other : bytes_eq kept digest ≡ false = test_differs (bytes_eq kept digest) kept digest refl (λ same. first.fails.2 (cc)) in
    rw (first.fails.0, other, first.fails.1) refl
first_refuses digest at repeated requested checks.Repeated first =
    let passes = digest_passes digest at repeated requested (first.before checks.NoDigest (omega arith)) (λ kept made. first.before (checks.DigestDiffers kept made) (omega arith)) in
    rw (passes, first.fails) refl
first_refuses digest at repeated requested checks.NotRequested first =
    let passes = digest_passes digest at repeated requested (first.before checks.NoDigest (omega arith)) (λ kept made. first.before (checks.DigestDiffers kept made) (omega arith)) in
    rw (passes, false_of repeated (first.before checks.Repeated (omega arith)), first.fails) refl

-- ---- and where none fails, none refuses

pub accepted_where_none : (digest : List ℕ) (at : Option (List ℕ)) (repeated requested : Bool)
    → NoneFails (Fails digest at repeated requested) → checked digest at repeated requested ≡ None
accepted_where_none digest at repeated requested none =
    let passes = digest_passes digest at repeated requested (none checks.NoDigest) (λ kept made. none (checks.DigestDiffers kept made)) in
    rw (passes, false_of repeated (none checks.Repeated), true_of requested (none checks.NotRequested)) refl

accepted_digest : (differs : Bool) (digest kept : List ℕ) (repeated requested : Bool) → bytes_eq kept digest ≡ differs
    → or_next (if_differs differs kept digest) (later_checks repeated requested) ≡ None → NoneFails (Fails digest (Some kept) repeated requested)
accepted_digest true digest kept false true same is = none_fails digest kept (equal_of kept digest same)
accepted_digest true digest kept true requested same is = cc
accepted_digest true digest kept false false same is = cc
accepted_digest false digest kept repeated requested same is = cc

pub none_where_accepted : (digest : List ℕ) (at : Option (List ℕ)) (repeated requested : Bool)
    → checked digest at repeated requested ≡ None → NoneFails (Fails digest at repeated requested)
none_where_accepted digest None repeated requested is = cc
none_where_accepted digest (Some kept) repeated requested is = accepted_digest (bytes_eq kept digest) digest kept repeated requested refl is
