-- The names that were seen, as a set and as a list.
use denote.Ref.{Bor}
use Rattle.std.proofs.Common.{◌≡◌, ℕ, Bool, true, false, cond, not, List, [], ◌∷◌, map, Ordering, Option, Some, None, ap, sym, refl, ◌∙◌}
use Rattle.std.specs.Prelude.{◌||◌, ◌&&◌, is_some}
use Rattle.std.specs.BTreeMap.{is_at}
use Rattle.std.specs.BTreeSet.{BTreeSet, contains, Updates}
use Rattle.std.specs.Cmp.Lexicographic.{slice_cmp}
use Rattle.std.specs.List.{list_any}
use Rattle.std.specs.Ordering.{nat_cmp}
use Rattle.std.specs.Str.{bytes_eq}
use Rattle.std.proofs.lemmas.Cmp.{nat_list_eq_equiv}
use Rattle.std.proofs.lemmas.Map.Text.{is_eq-slice_cmp}
use Rattle.cbor_view.specs.PartialItem.{PartialItem}
use Rattle.doc_store.specs.declared.first_fault.Fault.{Fault}
use Rattle.doc_store.specs.declared.names.Names.{Names}
use Rattle.doc_store.specs.Fields.{are_distinct}
use Rattle.doc_store.specs.Names.{names_seen, was_seen, repeats_left}
use Rattle.doc_store.specs.Faults.{repeats_after}

-- ---- the set

abbrev text_order : Bor (List ℕ) → Bor (List ℕ) → Ordering
text_order one other = slice_cmp nat_cmp one.now other.now

-- a set of texts finds what is in their list
set_finds : (name : List ℕ) (keys : List (Bor (List ℕ))) →
    list_any (is_at (λ (key : Bor (List ℕ)). slice_cmp nat_cmp name key.now)) keys ≡ list_any (bytes_eq name) (map (λ key. key.now) keys)
set_finds name [] = refl
set_finds name (key ∷ keys) = rw (is_eq-slice_cmp name key.now, set_finds name keys) refl

-- whether it is there, by whether it is new
pub before_added : (set : BTreeSet (Bor (List ℕ))) (name : Bor (List ℕ)) (added : Bool) → added ≡ not (contains text_order set name) →
    not added ≡ list_any (bytes_eq name.now) (map (λ key. key.now) set.keys)
before_added set name added given = twice (contains text_order set name) added given ∙ set_finds name.now set.keys where
  twice : (b a : Bool) → a ≡ not b → not a ≡ b
  twice true a e = rw e refl
  twice false a e = rw e refl

either : (b c : Bool) → cond b true c ≡ (b || c)
either true c = refl
either false c = refl

-- what is there once it was added
pub after_added : (old new : BTreeSet (Bor (List ℕ))) (name : Bor (List ℕ)) → Updates text_order old new name true → (other : List ℕ) →
    list_any (bytes_eq other) (map (λ key. key.now) new.keys) ≡ (bytes_eq other name.now || list_any (bytes_eq other) (map (λ key. key.now) old.keys))
after_added old new name given other =
    sym (set_finds other new.keys)
    ∙ (given.0 (record { ref_ptr = (0, 0); now = other })
    ∙ rw (is_eq-slice_cmp name.now other, set_finds other old.keys, nat_list_eq_equiv.symm other name.now) (either (bytes_eq name.now other) (list_any (bytes_eq other) (map (λ key. key.now) old.keys))))

-- ---- what stands again

-- whether two lists have the same names
abbrev pub AreSame : List (List ℕ) → List (List ℕ) → Type 0
AreSame seen others = (name : List ℕ) → list_any (bytes_eq name) seen ≡ list_any (bytes_eq name) others

with_one : (x : List ℕ) (seen others : List (List ℕ)) → AreSame seen others → AreSame (x ∷ seen) (x ∷ others)
with_one x seen others same name = ap (λ b. bytes_eq name x || b) (same name)

-- what was seen counts by its names alone
pub repeats-same : (xs : List (List ℕ × PartialItem)) (seen others : List (List ℕ)) → AreSame seen others → repeats_after seen xs ≡ repeats_after others xs
repeats-same [] seen others same = refl
repeats-same (x ∷ xs) seen others same = rw (same x.0, repeats-same xs (x.0 ∷ seen) (x.0 ∷ others) (with_one x.0 seen others same)) refl

-- a name that is new
pub repeats-next : (seen new : List (List ℕ)) (x : List ℕ × PartialItem) (xs : List (List ℕ × PartialItem)) → list_any (bytes_eq x.0) seen ≡ false →
    ((name : List ℕ) → list_any (bytes_eq name) new ≡ (bytes_eq name x.0 || list_any (bytes_eq name) seen)) → repeats_after seen (x ∷ xs) ≡ repeats_after new xs
repeats-next seen new x xs unseen given = rw unseen (repeats-same xs (x.0 ∷ seen) new (λ name. sym (given name)))

pub new_name : (first : Option Fault) (old new : Names) (x : List ℕ × PartialItem) (others : List (List ℕ × PartialItem)) → is_some first ≡ false → was_seen old x.0 ≡ false →
    ((name : List ℕ) → was_seen new name ≡ (bytes_eq name x.0 || was_seen old name)) → repeats_left first old (x ∷ others) ≡ repeats_left first new others
new_name None old new x others none unseen given = repeats-next (names_seen old) (names_seen new) x others unseen given
new_name (Some f) old new x others none unseen given = cc

-- ---- names of which no two are equal

-- whether each of the names is new: none of those that were seen, nor of those before it
abbrev pub are_new : List (List ℕ) → List (List ℕ) → Bool
are_new seen [] = true
are_new seen (name ∷ names) = not (list_any (bytes_eq name) seen) && are_new (name ∷ seen) names

-- whether none of the names was seen
abbrev are_unseen : List (List ℕ) → List (List ℕ) → Bool
are_unseen seen [] = true
are_unseen seen (name ∷ names) = not (list_any (bytes_eq name) seen) && are_unseen seen names

regroup : (e a p q : Bool) → (not (e || a) && (p && not q)) ≡ ((not a && p) && not (e || q))
regroup true true p q = refl
regroup true false true q = refl
regroup true false false q = refl
regroup false true p q = refl
regroup false false p q = refl

unseen_more : (x : List ℕ) (seen names : List (List ℕ)) → are_unseen (x ∷ seen) names ≡ (are_unseen seen names && not (list_any (bytes_eq x) names))
unseen_more x seen [] = refl
unseen_more x seen (name ∷ names) =
    ap (λ b. not (bytes_eq name x || list_any (bytes_eq name) seen) && b) (unseen_more x seen names)
    ∙ (regroup (bytes_eq name x) (list_any (bytes_eq name) seen) (are_unseen seen names) (list_any (bytes_eq x) names)
    ∙ ap (λ e. (not (list_any (bytes_eq name) seen) && are_unseen seen names) && not (e || list_any (bytes_eq x) names)) (nat_list_eq_equiv.symm name x))

regroup_three : (a p q d : Bool) → (not a && ((p && not q) && d)) ≡ ((not a && p) && (not q && d))
regroup_three true p q d = refl
regroup_three false true q d = refl
regroup_three false false q d = refl

new_is : (seen names : List (List ℕ)) → are_new seen names ≡ (are_unseen seen names && are_distinct names)
new_is seen [] = refl
new_is seen (name ∷ names) =
    ap (λ b. not (list_any (bytes_eq name) seen) && b) (new_is (name ∷ seen) names ∙ ap (λ b. b && are_distinct names) (unseen_more name seen names))
    ∙ regroup_three (list_any (bytes_eq name) seen) (are_unseen seen names) (list_any (bytes_eq name) names) (are_distinct names)

none_seen : (names : List (List ℕ)) → are_unseen [] names ≡ true
none_seen [] = refl
none_seen (name ∷ names) = none_seen names

-- where none was seen before, they are new where no two are equal
pub new_from_none : (names : List (List ℕ)) → are_new [] names ≡ are_distinct names
new_from_none names = new_is [] names ∙ ap (λ b. b && are_distinct names) (none_seen names)
