-- Items by their names, as one after the other is added.
use Rattle.std.proofs.Common.{◌≡◌, ℕ, ◌&&◌, Bool, true, false, cond, if◌then◌else◌, List, ◌∷◌, Bor, Option, Some, None, refl, sym, ap, ◌∙◌}
use Rattle.std.specs.Prelude.{find, is_some, option_map}
use Rattle.std.specs.Option.{option_or}
use Rattle.std.specs.BTreeMap.{BTreeMap, get_by, UpdatesBy}
use Rattle.std.specs.Cmp.Lexicographic.{slice_cmp}
use Rattle.std.specs.Ordering.{nat_cmp}
use Rattle.std.specs.Str.{bytes_eq}
use Rattle.std.proofs.lemmas.Map.Text.{btree_map_updates_str}
use Rattle.std.proofs.lemmas.Slice.Eq.{bytes_eq-Decides}
use Rattle.mdoc_outside.specs.Borrowed.{content}
use Rattle.doc_store.specs.Held.{is_item}
use Rattle.wallet_answer.specs.Found.{named_item}

-- ---- the first of some items

pub first_alone : (one : Option (List ℕ)) → option_or one None ≡ one
first_alone None = refl
first_alone (Some raw) = refl

-- what is no item adds none
pub none_more : (one : Option (List ℕ)) (b : Bool) (raw : List ℕ) → one ≡ option_or one (if b && false then Some raw else None)
none_more None true raw = refl
none_more None false raw = refl
none_more (Some own) b raw = refl

abbrev pub found_in : List ℕ → List ℕ → List (List ℕ × List ℕ) → Option (List ℕ)
found_in ns name stored = option_map (λ (s : List ℕ × List ℕ). s.1) (find (is_item ns name) stored)

-- an item more, before those that are left of a list
pub first_more : (ns name : List ℕ) (one : Option (List ℕ)) (stored : List ℕ × List ℕ) (later : List (List ℕ × List ℕ)) →
    option_or (option_or one (if is_item ns name stored then Some stored.1 else None)) (found_in ns name later) ≡ option_or one (found_in ns name (stored ∷ later))
first_more ns name (Some raw) stored later = refl
first_more ns name None stored later = go (is_item ns name stored) where
  go : (b : Bool) → option_or (if b then Some stored.1 else None) (found_in ns name later)
      ≡ option_map (λ (s : List ℕ × List ℕ). s.1) (cond b (Some stored) (find (is_item ns name) later))
  go true = refl
  go false = refl

-- ---- under one key more

module _ {X : Type 0} (look : Option X → Option (List ℕ)) (old new : BTreeMap (Bor (List ℕ)) X) where
  choice : (b : Bool) (w v : Option X) → look (cond b w v) ≡ (if b then look w else look v)
  choice true w v = refl
  choice false w v = refl

  pub one_changed : (key : List ℕ) (w : Option X) →
      UpdatesBy (λ x y. slice_cmp nat_cmp x.now y.now) (λ (k : Bor (List ℕ)). slice_cmp nat_cmp key k.now) old new w → (own : List ℕ) →
      look (get_by (λ k. slice_cmp nat_cmp own k.now) new) ≡ (if bytes_eq key own then look w else look (get_by (λ k. slice_cmp nat_cmp own k.now) old))
  one_changed key w given own =
      ap look (btree_map_updates_str key old new w given own)
      ∙ choice (bytes_eq key own) w (get_by (λ k. slice_cmp nat_cmp own k.now) old)

-- ---- an item more of a namespace

abbrev at_name : BTreeMap (Bor (List ℕ)) (Bor (List ℕ)) → List ℕ → Option (Bor (List ℕ))
at_name items name = get_by (λ own. slice_cmp nat_cmp name own.now) items

none_yet : (found : Option (Bor (List ℕ))) → is_some found ≡ false → option_map content found ≡ None
none_yet None is = refl
none_yet (Some raw) is = absurd (cc)

one_yet : (found : Option (Bor (List ℕ))) (raw : List ℕ) → is_some found ≡ true → option_map content found ≡ option_or (option_map content found) (Some raw)
one_yet None raw is = absurd (cc)
one_yet (Some own) raw is = refl

pub one_added : (old new : BTreeMap (Bor (List ℕ)) (Bor (List ℕ))) (name : List ℕ) (raw : Bor (List ℕ)) → is_some (at_name old name) ≡ false →
    UpdatesBy (λ x y. slice_cmp nat_cmp x.now y.now) (λ (k : Bor (List ℕ)). slice_cmp nat_cmp name k.now) old new (Some raw) →
    (own : List ℕ) → named_item new own ≡ option_or (named_item old own) (if bytes_eq name own then Some raw.now else None)
one_added old new name raw none given own = one_changed (option_map content) old new name (Some raw) given own ∙ go (bytes_eq name own) refl where
  go : (b : Bool) → bytes_eq name own ≡ b → (if b then Some raw.now else named_item old own) ≡ option_or (named_item old own) (if b then Some raw.now else None)
  go true e = ap (λ found. option_or found (Some raw.now)) (sym (ap (named_item old) (sym ((bytes_eq-Decides name own).0 e)) ∙ none_yet (at_name old name) none))
  go false e = sym (first_alone (named_item old own))

pub one_there : (old : BTreeMap (Bor (List ℕ)) (Bor (List ℕ))) (name raw : List ℕ) → is_some (at_name old name) ≡ true →
    (own : List ℕ) → named_item old own ≡ option_or (named_item old own) (if bytes_eq name own then Some raw else None)
one_there old name raw some own = go (bytes_eq name own) refl where
  go : (b : Bool) → bytes_eq name own ≡ b → named_item old own ≡ option_or (named_item old own) (if b then Some raw else None)
  go true e = one_yet (at_name old own) raw (ap (λ key. is_some (at_name old key)) (sym ((bytes_eq-Decides name own).0 e)) ∙ some)
  go false e = sym (first_alone (named_item old own))

-- ---- the items of a namespace

-- what a namespace has after its items were taken out, had one added and were put back
pub put_back : (ns space : List ℕ) (old mid new all own : Option (List ℕ)) (b : Bool) (raw : List ℕ) →
    (bytes_eq ns space ≡ true → own ≡ old) → mid ≡ (if bytes_eq ns space then None else old) → all ≡ option_or own (if b then Some raw else None) →
    new ≡ (if bytes_eq ns space then all else mid) → new ≡ option_or old (if bytes_eq ns space && b then Some raw else None)
put_back ns space old mid new all own b raw same left more is = is ∙ go (bytes_eq ns space) same left where
  go : (c : Bool) → (c ≡ true → own ≡ old) → mid ≡ (if c then None else old) → (if c then all else mid) ≡ option_or old (if c && b then Some raw else None)
  go true same left = more ∙ ap (λ o. option_or o (if b then Some raw else None)) (same refl)
  go false same left = left ∙ sym (first_alone old)
