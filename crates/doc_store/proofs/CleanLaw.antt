-- Lists of faults that have none, against readings that give something.
use Rattle.std.proofs.Common.{◌≡◌, ℕ, suc, zero, Bool, true, false, cond, not, ◌&&◌, List, [], ◌∷◌, ◌++◌, map, length, Option, Some, None, refl, sym, ap, ◌∙◌, arith}
use Rattle.std.specs.Prelude.{is_some, is_none, flat_map, slice_get, nat_le}
use Rattle.std.specs.List.{AllByRecursion}
use Rattle.std.proofs.lemmas.Bool.Decides.{nat_tests}
use Rattle.cbor_view.specs.PartialItem.{PartialItem}
use Rattle.mdoc_outside.specs.OptionSteps.{◌>>=◌, where_true, each}
use Rattle.mdoc_outside.specs.declared.limit_name.LimitName.{LimitName}
use Rattle.mdoc_outside.specs.ListSteps.{unless}
use Rattle.doc_store.specs.declared.first_fault.Fault.{Fault}
use Rattle.doc_store.specs.Faults.{is_before, earlier_fault, first_fault, beyond, beyond_at}

abbrev pub is_clean : List Fault → Bool
is_clean [] = true
is_clean (f ∷ fs) = false

-- ---- tests

pub and_true : (b : Bool) → (b && true) ≡ b
and_true true = refl
and_true false = refl

pub and_false : (b : Bool) → (b && false) ≡ false
and_false true = refl
and_false false = refl

pub and_assoc : (a b c : Bool) → ((a && b) && c) ≡ (a && (b && c))
and_assoc true b c = refl
and_assoc false b c = refl

pub and_same : (a b c d : Bool) → a ≡ b → c ≡ d → (a && c) ≡ (b && d)
and_same a b c d one other = cc

pub from_zero : (n : ℕ) → nat_le 0 n ≡ true
from_zero n = grind (arith, nat_tests)

-- ---- the first fault of a list

earlier_some : (f : Fault) (o : Option Fault) → is_some (earlier_fault f o) ≡ true
earlier_some f None = refl
earlier_some f (Some other) = by (is_before other f) where
  by : (b : Bool) → is_some (cond b (Some other) (Some f)) ≡ true
  by true = refl
  by false = refl

-- there is none exactly where the list has none
pub clean_first : (fs : List Fault) → is_none (first_fault fs) ≡ is_clean fs
clean_first [] = refl
clean_first (f ∷ fs) = ap not (earlier_some f (first_fault fs))

pub clean_joined : (xs ys : List Fault) → is_clean (xs ++ ys) ≡ (is_clean xs && is_clean ys)
clean_joined [] ys = refl
clean_joined (x ∷ xs) ys = refl

pub clean_unless : (b : Bool) (f : Fault) → is_clean (unless b f) ≡ b
clean_unless true f = refl
clean_unless false f = refl

none_past : {A : Type 0} (xs : List A) (n : ℕ) → is_none (slice_get xs n) ≡ nat_le (length xs) n
none_past [] n = sym (from_zero n)
none_past (x ∷ xs) zero = grind (arith, nat_tests)
none_past (x ∷ xs) (suc n) =
    let more : nat_le (length xs) n ≡ nat_le (suc (length xs)) (suc n) = grind (arith, nat_tests) in
    none_past xs n ∙ more

clean_beyond_at : (limit : LimitName) (most : ℕ) (o : Option PartialItem) → is_clean (beyond_at limit most o) ≡ is_none o
clean_beyond_at limit most None = refl
clean_beyond_at limit most (Some g) = refl

-- a limit on a list
pub clean_beyond : (limit : LimitName) (most : ℕ) (gs : List PartialItem) → is_clean (beyond limit most gs) ≡ nat_le (length gs) most
clean_beyond limit most gs = clean_beyond_at limit most (slice_get gs most) ∙ none_past gs most

-- ---- readings step by step

pub some_where : {A : Type 0} (b : Bool) (x : A) → is_some (where_true b x) ≡ b
some_where true x = refl
some_where false x = refl

pub some_each : {A B : Type 0} (step : A → Option B) (x : A) (xs : List A) → is_some (each step (x ∷ xs)) ≡ (is_some (step x) && is_some (each step xs))
some_each {A} {B} step x xs = go (step x) (each step xs) where
  go : (o : Option B) (rest : Option (List B)) → is_some (o >>= λ y. rest >>= λ ys. Some (y ∷ ys)) ≡ (is_some o && is_some rest)
  go None rest = refl
  go (Some y) None = refl
  go (Some y) (Some ys) = refl

-- what a step reads of each of a list, and what is wrong with each
pub clean_each : {A B G : Type 0} (Known : A → Type 0) (see : A → G) (faults : G → List Fault) (step : A → Option B) →
    ((x : A) → Known x → is_clean (faults (see x)) ≡ is_some (step x)) → (xs : List A) → AllByRecursion Known xs →
    is_clean (flat_map faults (map see xs)) ≡ is_some (each step xs)
clean_each Known see faults step law [] known = refl
clean_each Known see faults step law (x ∷ xs) known =
    clean_joined (faults (see x)) (flat_map faults (map see xs))
    ∙ and_same _ _ _ _ (law x known.0) (clean_each Known see faults step law xs known.1)
    ∙ sym (some_each step x xs)
