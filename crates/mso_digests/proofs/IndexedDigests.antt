-- Digests by their namespaces and digest identifiers, as one after the other is added.
use Rattle.std.proofs.Common.{◌≡◌, ℕ, ◌==◌, Bool, true, false, cond, if◌then◌else◌, List, Bor, Option, Some, None, refl, sym, ap, ◌∙◌}
use Rattle.std.specs.Prelude.{is_some, option_map}
use Rattle.std.specs.Option.{option_or}
use Rattle.std.specs.Bool.{one_answer}
use Rattle.std.specs.BTreeMap.{BTreeMap, get, get_by, Updates, UpdatesBy}
use Rattle.std.specs.Cmp.{Equal-is, nat_cmp_is}
use Rattle.std.specs.Cmp.Lexicographic.{slice_cmp}
use Rattle.std.specs.Ordering.{is_eq, nat_cmp}
use Rattle.std.specs.declared.cmp.Ordering.TheVariants.{Equal}
use Rattle.std.specs.Str.{bytes_eq}
use Rattle.std.proofs.lemmas.Bool.{eqb-true, eq-eqb}
use Rattle.std.proofs.lemmas.Map.Lookups.{exact_unsigned}
use Rattle.std.proofs.lemmas.Map.Text.{btree_map_updates_str}
use Rattle.mdoc_outside.specs.Borrowed.{content}
use Rattle.mso_digests.specs.Indexed.{numbered, numbered_in}
use Rattle.mso_digests.specs.Nested.{chosen}

-- ---- the first of some digests

pub first_alone : (one : Option (List ℕ)) → option_or one None ≡ one
first_alone None = refl
first_alone (Some digest) = refl

pub first_joined : (one two later : Option (List ℕ)) → option_or (option_or one two) later ≡ option_or one (option_or two later)
first_joined None two later = refl
first_joined (Some digest) two later = refl

pub first_chosen : (one : Option (List ℕ)) (id : ℕ) (number : Option ℕ) (digest later : Option (List ℕ)) →
    option_or (option_or one (chosen id number digest None)) later ≡ option_or one (chosen id number digest later)
first_chosen (Some d) id number digest later = refl
first_chosen None id None digest later = refl
first_chosen None id (Some n) None later = refl
first_chosen None id (Some n) (Some d) later = elim (n == id) as (λ b. option_or (if b then Some d else None) later ≡ (if b then Some d else later)) [
  | true ↦ refl
  | false ↦ refl
]

-- ---- under one digest identifier more

same-number : (k id : ℕ) → is_eq (nat_cmp k id) ≡ (k == id)
same-number k id = one_answer (is_eq (nat_cmp k id)) (k == id)
    ((λ h. exact_unsigned k id ((Equal-is (nat_cmp k id)).0 h)), (λ (same : k ≡ id). ap is_eq (sym (nat_cmp_is k id Equal same))))
    (eqb-true k id, eq-eqb k id)

none-yet : (found : Option (Bor (List ℕ))) (d : List ℕ) → is_some found ≡ false → Some d ≡ option_or (option_map content found) (Some d)
none-yet None d none = refl
none-yet (Some found) d none = absurd (cc)

one-yet : (found : Option (Bor (List ℕ))) (d : List ℕ) → is_some found ≡ true → option_map content found ≡ option_or (option_map content found) (Some d)
one-yet None d some = absurd (cc)
one-yet (Some found) d some = refl

pub one_added : (old new : BTreeMap ℕ (Bor (List ℕ))) (k : ℕ) (d : Bor (List ℕ)) → is_some (get nat_cmp old k) ≡ false →
    Updates nat_cmp old new k (Some d) → (id : ℕ) → numbered new id ≡ option_or (numbered old id) (chosen id (Some k) (Some d.now) None)
one_added old new k d none given id =
    ap (option_map content) (given.0 id ∙ ap (λ b. cond b (Some d) (get nat_cmp old id)) (same-number k id)) ∙ go (k == id) refl where
      go : (b : Bool) → (k == id) ≡ b → option_map content (cond b (Some d) (get nat_cmp old id)) ≡ option_or (numbered old id) (if b then Some d.now else None)
      go true e = none-yet (get nat_cmp old id) d.now (ap (λ n. is_some (get nat_cmp old n)) (sym (eqb-true k id e)) ∙ none)
      go false e = sym (first_alone (numbered old id))

pub one_there : (old : BTreeMap ℕ (Bor (List ℕ))) (k : ℕ) (d : List ℕ) → is_some (get nat_cmp old k) ≡ true →
    (id : ℕ) → numbered old id ≡ option_or (numbered old id) (chosen id (Some k) (Some d) None)
one_there old k d some id = go (k == id) refl where
  go : (b : Bool) → (k == id) ≡ b → numbered old id ≡ option_or (numbered old id) (if b then Some d else None)
  go true e = one-yet (get nat_cmp old id) d (ap (λ n. is_some (get nat_cmp old n)) (sym (eqb-true k id e)) ∙ some)
  go false e = sym (first_alone (numbered old id))

-- ---- under one namespace more

module _ (old new : BTreeMap (Bor (List ℕ)) (BTreeMap ℕ (Bor (List ℕ)))) where
  abbrev under : BTreeMap (Bor (List ℕ)) (BTreeMap ℕ (Bor (List ℕ))) → List ℕ → ℕ → Option (List ℕ)
  under namespaces ns id = numbered_in (get_by (λ name. slice_cmp nat_cmp ns name.now) namespaces) id

  abbrev Changes : List ℕ → Option (BTreeMap ℕ (Bor (List ℕ))) → Type 0
  Changes name w = UpdatesBy (λ x y. slice_cmp nat_cmp x.now y.now) (λ (k : Bor (List ℕ)). slice_cmp nat_cmp name k.now) old new w

  choice : (b : Bool) (w v : Option (BTreeMap ℕ (Bor (List ℕ)))) (id : ℕ) → numbered_in (cond b w v) id ≡ (if b then numbered_in w id else numbered_in v id)
  choice true w v id = refl
  choice false w v id = refl

  pub one_changed : (name : List ℕ) (w : Option (BTreeMap ℕ (Bor (List ℕ)))) → Changes name w → (ns : List ℕ) (id : ℕ) →
      under new ns id ≡ (if bytes_eq name ns then numbered_in w id else under old ns id)
  one_changed name w given ns id =
      ap (λ found. numbered_in found id) (btree_map_updates_str name old new w given ns)
      ∙ choice (bytes_eq name ns) w (get_by (λ found. slice_cmp nat_cmp ns found.now) old) id

-- what a namespace has after its digests were taken out, had others added and were put back
pub put_back : (name ns : List ℕ) (old mid new all added : Option (List ℕ)) (own : Option (List ℕ)) →
    (bytes_eq name ns ≡ true → own ≡ old) → mid ≡ (if bytes_eq name ns then None else old) → all ≡ option_or own added →
    new ≡ (if bytes_eq name ns then all else mid) → new ≡ option_or old (if bytes_eq name ns then added else None)
put_back name ns old mid new all added own same left more is = is ∙ go (bytes_eq name ns) same left where
  go : (b : Bool) → (b ≡ true → own ≡ old) → mid ≡ (if b then None else old) → (if b then all else mid) ≡ option_or old (if b then added else None)
  go true same left = more ∙ ap (λ o. option_or o added) (same refl)
  go false same left = left ∙ sym (first_alone old)
