-- The parts of an item stand within it.
use Rattle.std.proofs.Common.{◌≡◌, ℕ, zero, suc, ◌+◌, ◌-◌, ◌≤◌, List, [], ◌∷◌, ◌++◌, length, take, drop, true, false, if◌then◌else◌, Option, Some, None, option_map, Ok, Err, refl, sym, ap, ◌∙◌, subst, arith, IfSome}
use Rattle.std.specs.List.{AllByRecursion}
use Rattle.std.proofs.lemmas.List.{append_assoc, append-nil, length-append, take-append-drop, length-take-le}
use Rattle.cbor_view.specs.Label.{Label, is_label, values_of, only_of, entries_or_none}
use Rattle.cbor_view.specs.Reading.{item_at, past_or_none, size}
use Rattle.cbor_view.specs.Parts.{Part, LiesIn, BothLieIn, tree_in, first_part, after_first, parts_at, entries_at, pairs_in, entry_in}
use Rattle.cbor_view.specs.declared.view.View.{View}
use Rattle.cbor_view.specs.View.{part, tree}
use Rattle.cbor_view.specs.Opening.{EndsWith}

pub within-within : (a b c : Part) → LiesIn a b → LiesIn b c → LiesIn a c
within-within a b c f g = record {
  before = f.before ++ g.before;
  after = g.after ++ f.after;
  whole = f.whole ∙ ap (λ x. f.before ++ (x ++ f.after)) g.whole
      ∙ ap (λ x. f.before ++ x) (append_assoc g.before (c.bytes ++ g.after) f.after ∙ ap (λ x. g.before ++ x) (append_assoc c.bytes g.after f.after))
      ∙ sym (append_assoc f.before g.before (c.bytes ++ (g.after ++ f.after)));
  place = omega (arith, f.place, g.place, length-append f.before g.before);
}

pub body-lies : (at : ℕ) (bytes rest : List ℕ) → EndsWith bytes rest → LiesIn (record { at = at; bytes = bytes }) (record { at = at + (length bytes - length rest); bytes = rest })
body-lies at bytes rest e = record {
  before = e.front;
  after = [];
  whole = e.whole ∙ ap (λ x. e.front ++ x) (sym (append-nil rest));
  place = omega (arith, ap length e.whole, length-append e.front rest);
}

size-within : (bytes : List ℕ) → size bytes ≤ length bytes
unfolding size
size-within bytes = elim (item_at 32 bytes) as (λ r. past_or_none (length bytes) r ≤ length bytes) [ Ok x ↦ omega arith | Err s ↦ omega arith ]

first-lies : (p : Part) → LiesIn p (first_part p)
first-lies p = record { before = []; after = drop (size p.bytes) p.bytes; whole = sym (take-append-drop (size p.bytes) p.bytes); place = omega arith }

after-lies : (p : Part) → LiesIn p (after_first p)
after-lies p = record {
  before = take (size p.bytes) p.bytes;
  after = [];
  whole = sym (take-append-drop (size p.bytes) p.bytes) ∙ ap (λ x. take (size p.bytes) p.bytes ++ x) (sym (append-nil (drop (size p.bytes) p.bytes)));
  place = omega (arith, length-take-le (size p.bytes) p.bytes (size-within p.bytes));
}

pub parts-lie : (n : ℕ) (all p : Part) → LiesIn all p → AllByRecursion (LiesIn all) (parts_at n p)
unfolding parts_at
parts-lie zero all p l = tt
parts-lie (suc n) all p l = (within-within all p (first_part p) l (first-lies p), parts-lie n all (after_first p) (within-within all p (after_first p) l (after-lies p)))

pub entries-lie : (n : ℕ) (all p : Part) → LiesIn all p → AllByRecursion (BothLieIn all) (entries_at n p)
unfolding entries_at
entries-lie zero all p l = tt
entries-lie (suc n) all p l =
    let q = after_first p in
    let m = within-within all p q l (after-lies p) in
    ((within-within all p (first_part p) l (first-lies p), within-within all q (first_part q) m (first-lies q)), entries-lie n all (after_first q) (within-within all q (after_first q) m (after-lies q)))

pub values-lie : (all : Part) (label : Label) (es : List (Part × Part)) → AllByRecursion (BothLieIn all) es → AllByRecursion (LiesIn all) (values_of tree_in label es)
values-lie all label [] l = tt
values-lie all label (e ∷ es) l = elim (is_label label (tree_in e.0)) as (λ b. AllByRecursion (LiesIn all) (if b then e.1 ∷ values_of tree_in label es else values_of tree_in label es)) [ true ↦ (l.0.1, values-lie all label es l.1) | false ↦ values-lie all label es l.1 ]

pub only-lies : (all : Part) (ps : List Part) (o : Option Part) → AllByRecursion (LiesIn all) ps → only_of ps ≡ Ok o → IfSome o (LiesIn all)
only-lies all [] o l e = let q : o ≡ None = cc in subst (λ x. IfSome x (LiesIn all)) (sym q) tt
only-lies all (p ∷ []) o l e = let q : o ≡ Some p = cc in subst (λ x. IfSome x (LiesIn all)) (sym q) l.0
only-lies all (p ∷ (q ∷ ps)) o l e = absurd (cc)

part-lies : (all : Part) (o : Option View) → IfSome (option_map part o) (LiesIn all) → IfSome o (λ v. LiesIn all (part v))
part-lies all None l = tt
part-lies all (Some v) l = l

pub found-lies : (all : Part) (label : Label) (es : List (Part × Part)) (o : Option View) → AllByRecursion (BothLieIn all) es → Some es ≡ pairs_in all → entry_in label all ≡ Ok (option_map part o) → IfSome o (λ v. LiesIn all (part v))
found-lies all label es o l at_offset e = part-lies all o (only-lies all (values_of tree_in label es) (option_map part o) (values-lie all label es l) (ap (λ x. only_of (values_of tree_in label (entries_or_none x))) at_offset ∙ e))

pub seen-tree : (o : Option View) → option_map tree_in (option_map part o) ≡ option_map tree o
seen-tree None = refl
seen-tree (Some v) = refl
