-- Reading all of the bytes, and the laws of spellings.
use Rattle.std.proofs.Common.{◌≡◌, ℕ, ◌-◌, ◌<◌, ◌≤◌, if◌then◌else◌, ◌==◌, List, [], ◌∷◌, ◌++◌, length, true, false, Result, Ok, Err, refl, sym, ap, ◌∙◌, subst, arith, IsOk, is_ok}
use Rattle.std.proofs.lemmas.Bool.Decides.{nat_tests}
use Rattle.std.proofs.lemmas.List.{append-nil}
use Rattle.cbor_view.specs.declared.cbor_kind.CborKind.TheVariants.{Trailing}
use Rattle.cbor_view.specs.declared.cbor_fault.CborFault.{CborFault}
use Rattle.cbor_view.specs.declared.stop.Stop.{Stop}
use Rattle.cbor_view.specs.Tree.{Tree}
use Rattle.cbor_view.specs.Spelling.{Spells}
use Rattle.cbor_view.specs.Reading.{item_at, past, at_offset, nothing_after, stop, reads, tree_of, tree_or_null}
use Rattle.cbor_view.specs.Parts.{cbor, part_of}
use Rattle.cbor_view.proofs.HeadReading.{AreBytes}
use Rattle.cbor_view.proofs.ItemReading.{item-again, item-sound}
use Rattle.cbor_view.proofs.Steps.{first-of, failed}

pub nothing : (xs : List ℕ) → length xs ≡ 0 → xs ≡ []
nothing [] e = refl
nothing (x ∷ xs) e = absurd (omega arith)

pub reads-ok : (bytes : List ℕ) (t : Tree) → item_at 32 bytes ≡ Ok (t, []) → reads bytes ≡ Ok t
unfolding reads
reads-ok bytes t e = rw e refl

alone-ok : (r : Result (Tree × List ℕ) Stop) (len : ℕ) (t : Tree) → at_offset len (nothing_after r) ≡ Ok t → r ≡ Ok (t, [])
alone-ok (Ok x) len t e = elim (length x.1 == 0) as (λ b. (length x.1 == 0) ≡ b → at_offset len (if b then Ok x.0 else stop Trailing (length x.1)) ≡ Ok t → ◌≡◌ {A = Result (Tree × List ℕ) Stop} (Ok x) (Ok (t, []))) [
  | true ↦ λ b e. let zero_len : length x.1 ≡ 0 = grind (arith, nat_tests) in let r : x.1 ≡ [] = nothing x.1 zero_len in let q : x.0 ≡ t = cc in ap (λ (y : Tree). Ok (y, x.1)) q ∙ ap (λ (y : List ℕ). Ok (t, y)) r
  | false ↦ λ b e. absurd (cc)
] refl e
alone-ok (Err s) len t e = absurd (cc)

pub reads-read : (bytes : List ℕ) (t : Tree) → reads bytes ≡ Ok t → item_at 32 bytes ≡ Ok (t, [])
unfolding reads
reads-read bytes t e = alone-ok (item_at 32 bytes) (length bytes) t e

pub spells-reads : (bytes : List ℕ) (t : Tree) → Spells bytes t → reads bytes ≡ Ok t
spells-reads bytes t s = reads-ok bytes t (ap (item_at 32) (sym (append-nil bytes)) ∙ item-again t 32 bytes [] s.spelled s.nesting)

pub reads-spells : (bytes : List ℕ) (t : Tree) → AreBytes bytes → reads bytes ≡ Ok t → Spells bytes t
reads-spells bytes t are e =
    let s = (item-sound 32).each bytes [] t are (reads-read bytes t e) in
    let same : bytes ≡ s.front = s.whole ∙ append-nil s.front in
    subst (λ x. Spells x t) (sym same) (record { spelled = s.spelled; nesting = s.nesting })

pub no-spelling : (bytes : List ℕ) (fault : CborFault) → reads bytes ≡ Err fault → (t : Tree) → Spells bytes t → ⊥
no-spelling bytes fault e t s = let r = spells-reads bytes t s in cc

-- ---- what the walk tells

pub whole-ok : (bytes : List ℕ) → past (item_at 32 bytes) ≡ Ok [] → reads bytes ≡ Ok (tree_of bytes)
unfolding tree_of
whole-ok bytes e = let f = first-of (item_at 32 bytes) [] e in let r = reads-ok bytes f.0 f.1 in r ∙ ap (λ x. Ok (tree_or_null x)) (sym r)

pub whole-trailing : (bytes rest : List ℕ) → past (item_at 32 bytes) ≡ Ok rest → (rest ≡ [] → ⊥) → reads bytes ≡ Err (record { kind = Trailing; at = length bytes - length rest })
unfolding reads
whole-trailing bytes rest e h =
    let f = first-of (item_at 32 bytes) rest e in
    let t : (length rest == 0) ≡ false = elim (length rest == 0) as (λ b. (length rest == 0) ≡ b → b ≡ false) [ true ↦ λ z. absurd (h (nothing rest (grind (arith, nat_tests)))) | false ↦ λ z. refl ] refl in
    rw f.1 (rw t refl)

pub whole-fault : (bytes : List ℕ) (s : Stop) → past (item_at 32 bytes) ≡ Err s → reads bytes ≡ Err (record { kind = s.kind; at = length bytes - s.left })
unfolding reads
whole-fault bytes s e = rw (failed (item_at 32 bytes) s e) refl

-- ---- the laws

pub one-tree : (bytes : List ℕ) (t u : Tree) → Spells bytes t → Spells bytes u → t ≡ u
one-tree bytes t u s r = let a = spells-reads bytes t s in let b = spells-reads bytes u r in cc

pub no-prefix : (front rest : List ℕ) (t u : Tree) → Spells front t → Spells (front ++ rest) u → rest ≡ []
no-prefix front rest t u s r =
    let a = item-again t 32 front rest s.spelled s.nesting in
    let b = reads-read (front ++ rest) u (spells-reads (front ++ rest) u r) in
    let e : ◌≡◌ {A = Result (Tree × List ℕ) Stop} (Ok (t, rest)) (Ok (u, [])) = sym a ∙ b in
    let q : (t, rest) ≡ (u, []) = cc in
    let f : Tree × List ℕ → List ℕ = λ x. x.1 in
    ap f q

-- ---- the same for `cbor`

pub part-ok : (bytes : List ℕ) → reads bytes ≡ Ok (tree_of bytes) → IsOk (reads bytes)
part-ok bytes e = ap is_ok e

pub part-fault : (bytes : List ℕ) (fault : CborFault) → reads bytes ≡ Err fault → cbor bytes ≡ Err fault
part-fault bytes fault e = ap (part_of bytes) e

pub short : (xs : List ℕ) → length xs < 1 → xs ≡ []
short xs h = nothing xs (omega arith)

pub long : (xs : List ℕ) → 1 ≤ length xs → xs ≡ [] → ⊥
long xs h e = let z : length xs ≡ 0 = ap length e in omega arith
