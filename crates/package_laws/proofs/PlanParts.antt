-- What a walk to a value shows of a plan that goes on after a value, of one that another device is asked, and of one that
-- is made so many times.
use Rattle.std.proofs.Common.{◌≡◌, ℕ, zero, suc, List, [], ◌∷◌, ◌++◌, length, Result, Ok, Err, refl, sym, ap, subst}
use Rattle.std.specs.List.{AllByRecursion}
use Rattle.key_device.specs.HasLine.{HasLine}
use Rattle.key_device.specs.Plan.{Plan, Done, Then, Other, Draw, Walks, bind, of_other}
use Rattle.key_device.specs.PlanSteps.{◌>>=◌, times, unless_fault}
use Rattle.key_device.specs.declared.exchange.Exchange.{Exchange}

-- each exchange is within the values of its type
abbrev pub AreLines : List Exchange → Type 0
AreLines es = AllByRecursion HasLine es

pub lines-front : (es es' : List Exchange) → AreLines (es ++ es') → AreLines es
lines-front [] es' all = tt
lines-front (e ∷ es) es' all = (all.0, lines-front es es' all.1)

pub lines-after : (es es' : List Exchange) → AreLines (es ++ es') → AreLines es'
lines-after [] es' all = all
lines-after (e ∷ es) es' all = lines-after es es' all.1

-- ---- values

abbrev value : {A E : Type 0} → A → Result A E
value x = Ok x

abbrev failure : {A E : Type 0} → E → Result A E
failure fault = Err fault

pub same-value : {A E : Type 0} (x y : A) → value {E = E} x ≡ value {E = E} y → x ≡ y
same-value x y e = cc

-- an outcome that nothing was asked for
pub done-walk : {A : Type 0} (x y : A) (es os : List Exchange) (ws : List ℕ) → Walks (Done x) es os ws y → y ≡ x
done-walk x y [] [] [] walk = walk
done-walk x y [] [] (w ∷ ws) walk = absurd walk
done-walk x y [] (o ∷ os) ws walk = absurd walk
done-walk x y (e ∷ es) os ws walk = absurd walk

-- ---- a plan after the outcome of another

record Split {A B : Type 0} (p : Plan A) (f : A → Plan B) (es os : List Exchange) (ws : List ℕ) (b : B) : Type 0 where
  e : List Exchange
  e' : List Exchange
  o : List Exchange
  o' : List Exchange
  w : List ℕ
  w' : List ℕ
  middle : A
  es_is : es ≡ e ++ e'
  os_is : os ≡ o ++ o'
  first : Walks p e o w middle
  second : Walks (f middle) e' o' w' b

split : {A B : Type 0} (p : Plan A) (f : A → Plan B) (es os : List Exchange) (ws : List ℕ) (b : B) → Walks (bind p f) es os ws b → Split p f es os ws b
split (Done x) f es os ws b walk = record { e = []; e' = es; o = []; o' = os; w = []; w' = ws; middle = x; es_is = refl; os_is = refl; first = refl; second = walk }
split (Then ask next) f [] os ws b walk = absurd walk
split (Then ask next) f (e ∷ es) os ws b walk =
    let rest = split (next e.told) f es os ws b walk.1 in
    record {
      e = e ∷ rest.e;
      e' = rest.e';
      o = rest.o;
      o' = rest.o';
      w = rest.w;
      w' = rest.w';
      middle = rest.middle;
      es_is = ap (λ (x : List Exchange). e ∷ x) rest.es_is;
      os_is = rest.os_is;
      first = (walk.0, rest.first);
      second = rest.second;
    }
split (Other ask next) f es [] ws b walk = absurd walk
split (Other ask next) f es (o ∷ os) ws b walk =
    let rest = split (next o.told) f es os ws b walk.1 in
    record {
      e = rest.e;
      e' = rest.e';
      o = o ∷ rest.o;
      o' = rest.o';
      w = rest.w;
      w' = rest.w';
      middle = rest.middle;
      es_is = rest.es_is;
      os_is = ap (λ (x : List Exchange). o ∷ x) rest.os_is;
      first = (walk.0, rest.first);
      second = rest.second;
    }
split (Draw next) f es os [] b walk = absurd walk
split (Draw next) f es os (w ∷ ws) b walk =
    let rest = split (next w) f es os ws b walk in
    record {
      e = rest.e;
      e' = rest.e';
      o = rest.o;
      o' = rest.o';
      w = w ∷ rest.w;
      w' = rest.w';
      middle = rest.middle;
      es_is = rest.es_is;
      os_is = rest.os_is;
      first = rest.first;
      second = rest.second;
    }

-- and after its value
pub record Bound {A B E : Type 0} (p : Plan (Result A E)) (f : A → Plan (Result B E)) (es os : List Exchange) (ws : List ℕ) (b : B) : Type 0 where
  pub e : List Exchange
  pub e' : List Exchange
  pub o : List Exchange
  pub o' : List Exchange
  pub w : List ℕ
  pub w' : List ℕ
  pub value : A
  pub es_is : es ≡ e ++ e'
  pub os_is : os ≡ o ++ o'
  pub first : Walks p e o w (Ok value)
  pub second : Walks (f value) e' o' w' (Ok b)

failed : {B E : Type 0} (fault : E) (b : B) (es os : List Exchange) (ws : List ℕ) → Walks (Done (failure {A = B} fault)) es os ws (value b) → ⊥
failed fault b es os ws walk = let same = done-walk (failure fault) (value b) es os ws walk in cc

bound-by : {A B E : Type 0} (p : Plan (Result A E)) (f : A → Plan (Result B E)) (es os : List Exchange) (ws : List ℕ) (b : B) (e e' o o' : List Exchange) (w w' : List ℕ) (m : Result A E)
    → es ≡ e ++ e' → os ≡ o ++ o' → Walks p e o w m → Walks (unless_fault f m) e' o' w' (Ok b) → Bound p f es os ws b
bound-by p f es os ws b e e' o o' w w' (Ok a) es_is os_is first second =
    record { e = e; e' = e'; o = o; o' = o'; w = w; w' = w'; value = a; es_is = es_is; os_is = os_is; first = first; second = second }
bound-by p f es os ws b e e' o o' w w' (Err fault) es_is os_is first second = absurd (failed fault b e' o' w' second)

pub bound : {A B E : Type 0} (p : Plan (Result A E)) (f : A → Plan (Result B E)) (es os : List Exchange) (ws : List ℕ) (b : B) → Walks (p >>= f) es os ws (Ok b) → Bound p f es os ws b
bound p f es os ws b walk =
    let rest = split p (unless_fault f) es os ws (Ok b) walk in
    bound-by p f es os ws b rest.e rest.e' rest.o rest.o' rest.w rest.w' rest.middle rest.es_is rest.os_is rest.first rest.second

-- ---- a plan of the other device

pub swapped : {A : Type 0} (p : Plan A) (es os : List Exchange) (ws : List ℕ) (a : A) → Walks (of_other p) es os ws a → Walks p os es ws a
swapped (Done x) [] [] [] a walk = walk
swapped (Done x) [] [] (w ∷ ws) a walk = absurd walk
swapped (Done x) [] (o ∷ os) ws a walk = absurd walk
swapped (Done x) (e ∷ es) os ws a walk = absurd walk
swapped (Then ask next) es [] ws a walk = absurd walk
swapped (Then ask next) es (o ∷ os) ws a walk = (walk.0, swapped (next o.told) es os ws a walk.1)
swapped (Other ask next) [] os ws a walk = absurd walk
swapped (Other ask next) (e ∷ es) os ws a walk = (walk.0, swapped (next e.told) es os ws a walk.1)
swapped (Draw next) es os [] a walk = absurd walk
swapped (Draw next) es os (w ∷ ws) a walk = swapped (next w) es os ws a walk

-- ---- a plan so many times

-- so many values, for each of which something holds
pub record AllCame {Y : Type 0} (Q : Y → Type 0) (count : ℕ) (ys : List Y) : Type 0 where
  pub number : length ys ≡ count
  pub all : AllByRecursion Q ys

abbrev pub Known : {Y E : Type 0} → Plan (Result Y E) → (Y → Type 0) → Type 0
Known {Y} p Q = (es os : List Exchange) (ws : List ℕ) (y : Y) → AreLines es → AreLines os → Walks p es os ws (Ok y) → Q y

pub times-came : {Y E : Type 0} (p : Plan (Result Y E)) (Q : Y → Type 0) → Known p Q → (count : ℕ) (es os : List Exchange) (ws : List ℕ) (ys : List Y)
    → AreLines es → AreLines os → Walks (times count p) es os ws (Ok ys) → AllCame Q count ys
times-came p Q known zero es os ws ys own others walk =
    let same : ys ≡ [] = same-value ys [] (done-walk (Ok []) (Ok ys) es os ws walk) in
    subst (AllCame Q 0) (sym same) (record { number = refl; all = tt })
times-came {Y} {E} p Q known (suc count) es os ws ys own others walk =
    let one = bound p _ es os ws ys walk in
    let rest = bound (times count p) _ one.e' one.o' one.w' ys one.second in
    let same : ys ≡ one.value ∷ rest.value = same-value ys (one.value ∷ rest.value) (done-walk (Ok (one.value ∷ rest.value)) (Ok ys) rest.e' rest.o' rest.w' rest.second) in
    let lines = subst AreLines one.es_is own in
    let other_lines = subst AreLines one.os_is others in
    let behind = subst AreLines rest.es_is (lines-after one.e one.e' lines) in
    let other_after = subst AreLines rest.os_is (lines-after one.o one.o' other_lines) in
    let first : Q one.value = known one.e one.o one.w one.value (lines-front one.e one.e' lines) (lines-front one.o one.o' other_lines) one.first in
    let more = times-came p Q known count rest.e rest.o rest.w rest.value (lines-front rest.e rest.e' behind) (lines-front rest.o rest.o' other_after) rest.first in
    subst (AllCame Q (suc count)) (sym same) (record { number = ap suc more.number; all = (first, more.all) })
