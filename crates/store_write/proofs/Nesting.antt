-- The parts of an item are nested less deep than the item.
use Rattle.std.proofs.Common.{◌≡◌, ℕ, suc, ◌≤◌, ◌<◌, ◌^◌, nat_lt, if◌then◌else◌, Bool, true, false, List, [], ◌∷◌, length, Option, Some, None, Ok, refl, sym, ap, ◌∙◌, subst, arith, IsOk}
use Rattle.std.specs.List.{AllByRecursion}
use Rattle.std.proofs.lemmas.Bool.Decides.{nat_tests}
use Rattle.mdoc_outside.specs.declared.key_name.KeyName.{KeyName}
use Rattle.mdoc_outside.specs.KeyName.{key_text}
use Rattle.cbor_view.specs.Label.{Label, Words, is_label, values_of, only_of, entries_or_none}
use Rattle.cbor_view.specs.Parts.{Part, tree_in, items_in, pairs_in}
use Rattle.cbor_view.specs.PartialSpelling.{StandInRow, keys_and_values}
use Rattle.cbor_view.specs.declared.cbor_kind.CborKind.TheVariants.{Length}
use Rattle.cbor_view.specs.Reading.{head_at, item_at, reads, stop, tree_of, tree_or_null, typed}
use Rattle.cbor_view.specs.Spelling.{AllSpelled, IsHead, PairsSpelled, Spelled, Spells}
use Rattle.cbor_view.specs.Tree.{Tree, Array, Map, Trees, none, more, Pairs, no_pair, pair, count, pair_count, levels, levels_of_all, levels_of_pairs}
use Rattle.cbor_view.proofs.HeadReading.{typed-again}
use Rattle.cbor_view.proofs.PartsInRow.{items-made, pairs-made}
use Rattle.cbor_view.proofs.ReadParts.{IsRead, BothRead, items_read, pairs_read}
use Rattle.cbor_view.proofs.Splitting.{is-read}
use Rattle.cbor_view.proofs.WholeReading.{one-tree, reads-read, reads-spells, spells-reads}
use Rattle.cbor_maps.specs.Reading.{entry}

-- an item that was read, of so many levels at most
pub record IsDeep (d : ℕ) (p : Part) : Type 0 where
  pub read : IsRead p
  pub nesting : levels (tree_in p) ≤ d

abbrev pub BothDeep : ℕ → Part × Part → Type 0
BothDeep d e = IsDeep d e.0 × IsDeep d e.1

abbrev AtMost : ℕ → Part → Type 0
AtMost d p = levels (tree_in p) ≤ d

abbrev BothAtMost : ℕ → Part × Part → Type 0
BothAtMost d e = AtMost d e.0 × AtMost d e.1

-- ---- the tree of a row of parts

tree-is : (t : Tree) (p : Part) → Spelled t p.bytes → levels t ≤ 32 → tree_in p ≡ t
unfolding tree_of
tree-is t p s l = ap tree_or_null (spells-reads p.bytes t (record { spelled = s; nesting = l }))

record Row (parts : List Part) (body : List ℕ) : Type 0 where
  trees : Trees
  spelled : AllSpelled trees body
  counted : count trees ≡ length parts
  nesting : levels_of_all trees ≤ 31
  each : (d : ℕ) → levels_of_all trees ≤ d → AllByRecursion (AtMost d) parts

row : (parts : List Part) (file after : Part) → StandInRow 1 parts after file → after.bytes ≡ [] → Row parts file.bytes
row [] file after is end = record {
  trees = none;
  spelled = ap (λ (p : Part). p.bytes) (sym is) ∙ end;
  counted = refl;
  nesting = omega arith;
  each = λ d h. tt;
}
row (p ∷ ps) file after is end =
    let f = is.first in
    let nesting = f.nesting in
    let rest = row ps is.mid after is.others end in
    let deepest = rest.nesting in
    let same : tree_in p ≡ f.tree = tree-is f.tree p f.spelled (omega arith) in
    record {
      trees = more f.tree rest.trees;
      spelled = record { front = p.bytes; rest = is.mid.bytes; first = f.spelled; second = rest.spelled; whole = f.bytes };
      counted = ap suc rest.counted;
      nesting = omega arith;
      each = λ d h. (rw same (omega arith), rest.each d (omega arith));
    }

record RowOfPairs (entries : List (Part × Part)) (body : List ℕ) : Type 0 where
  pairs : Pairs
  spelled : PairsSpelled pairs body
  counted : pair_count pairs ≡ length entries
  nesting : levels_of_pairs pairs ≤ 31
  each : (d : ℕ) → levels_of_pairs pairs ≤ d → AllByRecursion (BothAtMost d) entries

row-of-pairs : (entries : List (Part × Part)) (file after : Part) → StandInRow 1 (keys_and_values entries) after file → after.bytes ≡ [] → RowOfPairs entries file.bytes
row-of-pairs [] file after is end = record {
  pairs = no_pair;
  spelled = ap (λ (p : Part). p.bytes) (sym is) ∙ end;
  counted = refl;
  nesting = omega arith;
  each = λ d h. tt;
}
row-of-pairs (e ∷ es) file after is end =
    let k = is.first in
    let v = is.others.first in
    let one = k.nesting in
    let other = v.nesting in
    let rest = row-of-pairs es is.others.mid after is.others.others end in
    let deepest = rest.nesting in
    let same : tree_in e.0 ≡ k.tree = tree-is k.tree e.0 k.spelled (omega arith) in
    let same_value : tree_in e.1 ≡ v.tree = tree-is v.tree e.1 v.spelled (omega arith) in
    record {
      pairs = pair k.tree v.tree rest.pairs;
      spelled = record {
        front = e.0.bytes;
        rest = is.mid.bytes;
        first = k.spelled;
        second = record { front = e.1.bytes; rest = is.others.mid.bytes; first = v.spelled; second = rest.spelled; whole = v.bytes };
        whole = k.bytes;
      };
      counted = ap suc rest.counted;
      nesting = omega arith;
      each = λ d h. ((rw same (omega arith), rw same_value (omega arith)), rest.each d (omega arith));
    }

-- ---- how many parts there are

-- a count of more than 32 bits is a fault
array-stops : (n : ℕ) (bytes body : List ℕ) → head_at bytes ≡ Ok (typed 4 n, body) → nat_lt n (2 ^ 32) ≡ false → item_at 32 bytes ≡ stop Length (length bytes)
unfolding item_at
array-stops n bytes body at many = rw at (rw many refl)

map-stops : (n : ℕ) (bytes body : List ℕ) → head_at bytes ≡ Ok (typed 5 n, body) → nat_lt n (2 ^ 32) ≡ false → item_at 32 bytes ≡ stop Length (length bytes)
unfolding item_at
map-stops n bytes body at many = rw at (rw many refl)

limited : (n : ℕ) (bytes : List ℕ) → IsOk (reads bytes) → (nat_lt n (2 ^ 32) ≡ false → item_at 32 bytes ≡ stop Length (length bytes)) → n < 2 ^ 32
limited n bytes ok stops = go (nat_lt n (2 ^ 32)) refl where
  go : (b : Bool) → nat_lt n (2 ^ 32) ≡ b → n < 2 ^ 32
  go true small = grind (arith, nat_tests)
  go false many =
      let read = reads-read bytes (tree_of bytes) (is-read bytes ok) in
      let fault = stops many in
      absurd (cc)

-- ---- the parts of an array and of a map

weaker : (d : ℕ) (ps : List Part) → AllByRecursion IsRead ps → AllByRecursion (AtMost d) ps → AllByRecursion (IsDeep d) ps
weaker d [] read deep = tt
weaker d (p ∷ ps) read deep = (record { read = read.0; nesting = deep.0 }, weaker d ps read.1 deep.1)

weaker-pairs : (d : ℕ) (es : List (Part × Part)) → AllByRecursion BothRead es → AllByRecursion (BothAtMost d) es → AllByRecursion (BothDeep d) es
weaker-pairs d [] read deep = tt
weaker-pairs d (e ∷ es) read deep =
    ((record { read = read.0.0; nesting = deep.0.0 }, record { read = read.0.1; nesting = deep.0.1 }), weaker-pairs d es read.1 deep.1)

pub spelling-of : (p : Part) → IsRead p → Spells p.bytes (tree_in p)
spelling-of p read = reads-spells p.bytes (tree_in p) read.are (is-read p.bytes read.ok)

pub items-deep : (d : ℕ) (p : Part) (parts : List Part) → IsDeep (suc d) p → items_in p ≡ Some parts → AllByRecursion (IsDeep d) parts
items-deep d p parts deep is =
    let s = spelling-of p deep.read in
    let made = items-made (tree_in p) p parts s.spelled s.nesting is in
    let r = row parts made.body made.after made.row made.next in
    let at : head_at p.bytes ≡ Ok (typed 4 (length parts), made.body.bytes) = ap head_at made.bytes ∙ typed-again (typed 4 (length parts)) made.head made.body.bytes made.spelled in
    let few = limited (length parts) p.bytes deep.read.ok (array-stops (length parts) p.bytes made.body.bytes at) in
    let counted = r.counted in
    let nesting = r.nesting in
    let head : IsHead 4 (count r.trees) made.head = rw counted made.spelled in
    let again : Spells p.bytes (Array r.trees) = record {
      spelled = (rw counted few, record { front = made.head; rest = made.body.bytes; first = head; second = r.spelled; whole = made.bytes });
      nesting = omega arith;
    } in
    let same = one-tree p.bytes (tree_in p) (Array r.trees) s again in
    let deepest : levels (Array r.trees) ≤ suc d = subst (λ (t : Tree). levels t ≤ suc d) same deep.nesting in
    weaker d parts (items_read p parts deep.read is) (r.each d (omega arith))

pub pairs-deep : (d : ℕ) (p : Part) (es : List (Part × Part)) → IsDeep (suc d) p → pairs_in p ≡ Some es → AllByRecursion (BothDeep d) es
pairs-deep d p es deep is =
    let s = spelling-of p deep.read in
    let made = pairs-made (tree_in p) p es s.spelled s.nesting is in
    let r = row-of-pairs es made.body made.after made.row made.next in
    let at : head_at p.bytes ≡ Ok (typed 5 (length es), made.body.bytes) = ap head_at made.bytes ∙ typed-again (typed 5 (length es)) made.head made.body.bytes made.spelled in
    let few = limited (length es) p.bytes deep.read.ok (map-stops (length es) p.bytes made.body.bytes at) in
    let counted = r.counted in
    let nesting = r.nesting in
    let head : IsHead 5 (pair_count r.pairs) made.head = rw counted made.spelled in
    let again : Spells p.bytes (Map r.pairs) = record {
      spelled = (rw counted few, record { front = made.head; rest = made.body.bytes; first = head; second = r.spelled; whole = made.bytes });
      nesting = omega arith;
    } in
    let same = one-tree p.bytes (tree_in p) (Map r.pairs) s again in
    let deepest : levels (Map r.pairs) ≤ suc d = subst (λ (t : Tree). levels t ≤ suc d) same deep.nesting in
    weaker-pairs d es (pairs_read p es deep.read is) (r.each d (omega arith))

-- ---- the value under a key

values-deep : (d : ℕ) (label : Label) (es : List (Part × Part)) → AllByRecursion (BothDeep d) es → AllByRecursion (IsDeep d) (values_of tree_in label es)
values-deep d label [] deep = tt
values-deep d label (e ∷ es) deep = either (is_label label (tree_in e.0)) (values-deep d label es deep.1) where
  either : (b : Bool) → AllByRecursion (IsDeep d) (values_of tree_in label es) → AllByRecursion (IsDeep d) (if b then e.1 ∷ values_of tree_in label es else values_of tree_in label es)
  either true rest = (deep.0.1, rest)
  either false rest = rest

only-deep : (d : ℕ) (ps : List Part) (q : Part) → AllByRecursion (IsDeep d) ps → only_of ps ≡ Ok (Some q) → IsDeep d q
only-deep d [] q deep e = absurd (cc)
only-deep d (p ∷ []) q deep e = let same : p ≡ q = cc in subst (IsDeep d) same deep.0
only-deep d (p ∷ (r ∷ ps)) q deep e = absurd (cc)

pub entry-deep : (d : ℕ) (map q : Part) (name : KeyName) → IsDeep (suc d) map → entry map name ≡ Ok (Some q) → IsDeep d q
unfolding entry
entry-deep d map q name deep e = go (pairs_in map) refl e where
  go : (o : Option (List (Part × Part))) → pairs_in map ≡ o → only_of (values_of tree_in (Words (key_text name)) (entries_or_none o)) ≡ Ok (Some q) → IsDeep d q
  go None is e = absurd (cc)
  go (Some es) is e = only-deep d (values_of tree_in (Words (key_text name)) es) q (values-deep d (Words (key_text name)) es (pairs-deep d map es deep is)) e
