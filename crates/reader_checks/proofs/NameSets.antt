-- The names of elements, as one after the other is added.
use Rattle.std.proofs.Common.{◌≡◌, ℕ, ◌&&◌, ◌||◌, not, Bool, true, false, cond, if◌then◌else◌, List, [], ◌∷◌, filter, Bor, Option, Some, None, refl, sym, ap, ◌∙◌}
use Rattle.std.specs.BTreeMap as tree
use Rattle.std.specs.BTreeMap.{BTreeMap}
use Rattle.std.specs.BTreeSet.{BTreeSet, Updates}
use Rattle.std.specs.Cmp.Lexicographic.{slice_cmp}
use Rattle.std.specs.Ordering.{nat_cmp}
use Rattle.std.specs.Str.{bytes_eq}
use Rattle.std.proofs.lemmas.Map.Text.{btree_map_updates_str, is_eq-slice_cmp}
use Rattle.reader_checks.specs.ElementNames.{is_in}

-- ---- one after the other

pub or_none : (b : Bool) → (b || false) ≡ b
or_none true = refl
or_none false = refl

pub joined : (a b c : Bool) → ((a || b) || c) ≡ (a || (b || c))
joined true b c = refl
joined false b c = refl

-- a verdict that refuses adds none
pub refused_adds : (h a b : Bool) → (h || a && b && false) ≡ h
refused_adds true a b = refl
refused_adds false true true = refl
refused_adds false true false = refl
refused_adds false false b = refl

pub accepted_adds : (h a b : Bool) → (h || a && b && true) ≡ (h || a && b)
accepted_adds true a b = refl
accepted_adds false true true = refl
accepted_adds false true false = refl
accepted_adds false false b = refl

-- ---- a set with one name more

either : (b c : Bool) → cond b true c ≡ (c || b)
either true true = refl
either true false = refl
either false c = sym (or_none c)

pub one_named : (old new : BTreeSet (Bor (List ℕ))) (name : Bor (List ℕ)) → Updates (λ x y. slice_cmp nat_cmp x.now y.now) old new name true →
    (other : List ℕ) → is_in new other ≡ (is_in old other || bytes_eq name.now other)
one_named old new name given other =
    given.0 (record { ref_ptr = (0, 0); now = other })
    ∙ rw (is_eq-slice_cmp name.now other) (either (bytes_eq name.now other) (is_in old other))

-- ---- what is under one key more

module _ {V : Type 0} (look : Option V → Bool) (old new : BTreeMap (Bor (List ℕ)) V) where
  choice : (b : Bool) (w v : Option V) → look (cond b w v) ≡ (if b then look w else look v)
  choice true w v = refl
  choice false w v = refl

  pub one_changed : (key : List ℕ) (w : Option V) →
      tree.UpdatesBy (λ x y. slice_cmp nat_cmp x.now y.now) (λ (k : Bor (List ℕ)). slice_cmp nat_cmp key k.now) old new w → (own : List ℕ) →
      look (tree.get_by (λ k. slice_cmp nat_cmp own k.now) new) ≡ (if bytes_eq key own then look w else look (tree.get_by (λ k. slice_cmp nat_cmp own k.now) old))
  one_changed key w given own =
      ap look (btree_map_updates_str key old new w given own)
      ∙ choice (bytes_eq key own) w (tree.get_by (λ k. slice_cmp nat_cmp own k.now) old)

pub taken_out : (b old new : Bool) → new ≡ (if b then false else old) → new ≡ (not b && old)
taken_out true old new is = is
taken_out false old new is = is

-- what there is after what is under a key was taken out, had more added and was put back
pub put_back : (key own : List ℕ) (old mid new all more there : Bool) →
    (bytes_eq key own ≡ true → there ≡ old) → mid ≡ (not (bytes_eq key own) && old) → all ≡ (there || more) →
    new ≡ (if bytes_eq key own then all else mid) → new ≡ (old || bytes_eq key own && more)
put_back key own old mid new all more there same left added is = is ∙ go (bytes_eq key own) same left where
  go : (b : Bool) → (b ≡ true → there ≡ old) → mid ≡ (not b && old) → (if b then all else mid) ≡ (old || b && more)
  go true same left = added ∙ ap (λ o. o || more) (same refl)
  go false same left = left ∙ sym (or_none old)

-- ---- tests that tell the same

pub same_filter : {X : Type 0} (p q : X → Bool) → ((x : X) → p x ≡ q x) → (xs : List X) → filter p xs ≡ filter q xs
same_filter p q same [] = refl
same_filter p q same (x ∷ xs) = rw (same x, same_filter p q same xs) refl
