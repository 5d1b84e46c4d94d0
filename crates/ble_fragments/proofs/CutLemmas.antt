-- Messages that were cut, and joined again.
use Rattle.std.proofs.Common.{◌≡◌, ℕ, zero, suc, ◌+◌, ◌-◌, ◌*◌, ◌<◌, ◌≤◌, List, [], ◌∷◌, ◌++◌, length, map, take, drop, max, Bool, true, false, nat_lt, ◌||◌, if◌then◌else◌, refl, ap, sym, ◌∙◌, arith, append_assoc, length-append, length-drop}
use Rattle.std.proofs.lemmas.Bool.{ltb-true, le-ltb, ltb-false}
use Rattle.std.proofs.lemmas.List.{append-nil, take-append-drop}
use Rattle.std.proofs.lemmas.List.Folds.{concat-append}
use Rattle.std.proofs.lemmas.Grind.{div_ceil_times}
use Rattle.std.proofs.Math.Nat.{lt_of_mul-lt-mul_right}
use Rattle.std.specs.Int.{div_ceil}
use Rattle.std.specs.List.{All, concat, flat_map}
use Rattle.mdoc_outside.specs.declared.fragment.Fragment.{Fragment}
use Rattle.ble_fragments.specs.declared.ending.Ending.TheVariants.{Open, Bad}
use Rattle.ble_fragments.specs.declared.join_fault.JoinFault.TheVariants.{TooLong}
use Rattle.ble_fragments.specs.Cut.{Cut, cut, pieces, fragment_of, fragments_of}
use Rattle.ble_fragments.specs.CutLaws.{CountsPieces, IsWithinLimits, JoinsCuts, PiecesJoin}
use Rattle.ble_fragments.specs.Joins.{is_over}
use Rattle.ble_fragments.specs.Next.{continued, next, next_open, next_piece, ended_at}
use Rattle.ble_fragments.specs.Part.{part_of, Piece}
use Rattle.ble_fragments.specs.Whole.{Whole, whole, is_too_long}
use Rattle.ble_fragments.proofs.CutPieces.{else_if, then_if}
use Rattle.ble_fragments.proofs.Limits.{too_long_is_over}
use Rattle.ble_fragments.proofs.OneMore.{continues}

-- an open list with these messages and this rest
abbrev open_with : List (List ℕ) → List (List ℕ) → Whole
open_with ms rest = record { messages = ms; rest = rest; ending = Open }

continued-append : (w : Whole) (a b : List Fragment) → continued w (a ++ b) ≡ continued (continued w a) b
continued-append w [] b = refl
continued-append w (f ∷ fs) b = continued-append (next w (part_of f)) fs b

both_false : (a b : Bool) → a ≡ false → b ≡ false → (a || b) ≡ false
both_false a b h i = rw (h, i) refl

fits : (ms rest : List (List ℕ)) (piece : List ℕ) → length rest + 1 ≤ 65536 → length (concat rest) + length piece ≤ 1048576 → is_too_long (rest ++ piece ∷ []) ≡ false
unfolding is_over
fits ms rest piece h i =
    too_long_is_over (open_with ms rest) piece
    ∙ both_false _ _ (le-ltb 65536 (length rest + 1) (omega arith)) (le-ltb 1048576 (length (concat rest) + length piece) (omega arith))

concat-more : (rest : List (List ℕ)) (piece : List ℕ) → concat (rest ++ piece ∷ []) ≡ concat rest ++ piece
concat-more rest piece = concat-append rest (piece ∷ []) ∙ ap (λ (x : List ℕ). concat rest ++ x) (append-nil piece)

last_piece : (ms rest : List (List ℕ)) (piece : List ℕ) → length rest + 1 ≤ 65536 → length (concat rest) + length piece ≤ 1048576 → next_open (open_with ms rest) (Piece true piece) ≡ open_with (ms ++ (concat rest ++ piece) ∷ []) []
last_piece ms rest piece h i =
    ap (λ (b : Bool). if b then ended_at (open_with ms rest) (Bad TooLong) else next_piece true (open_with ms rest) piece) (fits ms rest piece h i)
    ∙ ap (λ (m : List ℕ). open_with (ms ++ m ∷ []) []) (concat-more rest piece)

further_piece : (ms rest : List (List ℕ)) (piece : List ℕ) → length rest + 1 ≤ 65536 → length (concat rest) + length piece ≤ 1048576 → next_open (open_with ms rest) (Piece false piece) ≡ open_with ms (rest ++ piece ∷ [])
further_piece ms rest piece h i =
    ap (λ (b : Bool). if b then ended_at (open_with ms rest) (Bad TooLong) else next_piece false (open_with ms rest) piece) (fits ms rest piece h i)

-- the pieces of one message, after the rest that stands there
one_message : (k n : ℕ) (m : List ℕ) (ms rest : List (List ℕ)) → length rest + length (pieces k n m) ≤ 65536 → length (concat rest) + length m ≤ 1048576 → continued (open_with ms rest) (map fragment_of (pieces k n m)) ≡ open_with (ms ++ (concat rest ++ m) ∷ []) []
one_message zero n m ms rest h i = last_piece ms rest m h i
one_message (suc k) n m ms rest h i = by_test k n m ms rest (nat_lt n (length m)) refl h i
    (λ ms2 rest2 h2 i2. one_message k n (drop n m) ms2 rest2 h2 i2)
  where
    by_test : (k n : ℕ) (m : List ℕ) (ms rest : List (List ℕ)) (b : Bool) → nat_lt n (length m) ≡ b → length rest + length (pieces (suc k) n m) ≤ 65536 → length (concat rest) + length m ≤ 1048576
        → ((ms2 rest2 : List (List ℕ)) → length rest2 + length (pieces k n (drop n m)) ≤ 65536 → length (concat rest2) + length (drop n m) ≤ 1048576 → continued (open_with ms2 rest2) (map fragment_of (pieces k n (drop n m))) ≡ open_with (ms2 ++ (concat rest2 ++ drop n m) ∷ []) [])
        → continued (open_with ms rest) (map fragment_of (pieces (suc k) n m)) ≡ open_with (ms ++ (concat rest ++ m) ∷ []) []
    by_test k n m ms rest true e h i later =
        let first : pieces (suc k) n m ≡ record { bytes = take n m; is_last = false } ∷ pieces k n (drop n m) = then_if (nat_lt n (length m)) _ _ e in
        let counted : length (pieces (suc k) n m) ≡ suc (length (pieces k n (drop n m))) = ap length first in
        let halves : length (take n m) + length (drop n m) ≡ length m = sym (length-append (take n m) (drop n m)) ∙ ap length (take-append-drop n m) in
        let longer : length (rest ++ take n m ∷ []) ≡ length rest + 1 = length-append rest (take n m ∷ []) in
        let fuller : length (concat (rest ++ take n m ∷ [])) ≡ length (concat rest) + length (take n m) = ap length (concat-more rest (take n m)) ∙ length-append (concat rest) (take n m) in
        ap (λ (ps : List Cut). continued (open_with ms rest) (map fragment_of ps)) first
        ∙ ap (λ (w : Whole). continued w (map fragment_of (pieces k n (drop n m)))) (further_piece ms rest (take n m) (omega arith) (omega arith))
        ∙ later ms (rest ++ take n m ∷ []) (omega arith) (omega arith)
        ∙ ap (λ (x : List ℕ). open_with (ms ++ x ∷ []) [])
        (ap (λ (x : List ℕ). x ++ drop n m) (concat-more rest (take n m))
        ∙ append_assoc (concat rest) (take n m) (drop n m)
        ∙ ap (λ (x : List ℕ). concat rest ++ x) (take-append-drop n m))
    by_test k n m ms rest false e h i later =
        let only : pieces (suc k) n m ≡ record { bytes = m; is_last = true } ∷ [] = else_if (nat_lt n (length m)) _ _ (λ t. let both : true ≡ false = sym t ∙ e in cc) in
        let counted : length (pieces (suc k) n m) ≡ 1 = ap length only in
        ap (λ (ps : List Cut). continued (open_with ms rest) (map fragment_of ps)) only
        ∙ last_piece ms rest m (omega arith) i

all_messages : (size : ℕ) (messages ms : List (List ℕ)) → All (IsWithinLimits size) messages → continued (open_with ms []) (flat_map (fragments_of size) messages) ≡ open_with (ms ++ messages) []
unfolding cut
all_messages size [] ms a = ap (λ (x : List (List ℕ)). open_with x []) (sym (append-nil ms))
all_messages size (m ∷ more) ms a =
    let here : IsWithinLimits size m = a 0 m (omega arith) in
    continued-append (open_with ms []) (fragments_of size m) (flat_map (fragments_of size) more)
    ∙ ap (λ (w : Whole). continued w (flat_map (fragments_of size) more)) (one_message (length m) (size - 1) m ms [] (omega (arith, here.fragments)) (omega (arith, here.bytes)))
    ∙ all_messages size more (ms ++ m ∷ []) (λ k d l. a (suc k) d (omega arith))
    ∙ ap (λ (x : List (List ℕ)). open_with x []) (append_assoc ms (m ∷ []) more)

empty : whole [] ≡ open_with [] []
unfolding whole
empty = refl

pub joins_cuts : JoinsCuts
joins_cuts size messages s a =
    continues [] (flat_map (fragments_of size) messages)
    ∙ ap (λ (w : Whole). continued w (flat_map (fragments_of size) messages)) empty
    ∙ all_messages size messages [] a

joined_pieces : (k n : ℕ) (m : List ℕ) → concat (map (λ (piece : Cut). piece.bytes) (pieces k n m)) ≡ m
joined_pieces zero n m = append-nil m
joined_pieces (suc k) n m = by_test k n m (nat_lt n (length m)) refl (joined_pieces k n (drop n m))
  where
    by_test : (k n : ℕ) (m : List ℕ) (b : Bool) → nat_lt n (length m) ≡ b → concat (map (λ (piece : Cut). piece.bytes) (pieces k n (drop n m))) ≡ drop n m → concat (map (λ (piece : Cut). piece.bytes) (pieces (suc k) n m)) ≡ m
    by_test k n m true e later =
        ap (λ (ps : List Cut). concat (map (λ (piece : Cut). piece.bytes) ps)) (then_if (nat_lt n (length m)) _ _ e)
        ∙ ap (λ (x : List ℕ). take n m ++ x) later
        ∙ take-append-drop n m
    by_test k n m false e later =
        ap (λ (ps : List Cut). concat (map (λ (piece : Cut). piece.bytes) ps)) (else_if (nat_lt n (length m)) _ _ (λ t. let both : true ≡ false = sym t ∙ e in cc))
        ∙ append-nil m

pub pieces_join : PiecesJoin
unfolding cut
pieces_join size m s = joined_pieces (length m) (size - 1) m

-- a number of pieces that hold the message is not below one that fills less than a piece more
least_quotient : (a c d n : ℕ) → a ≤ c * n → d * n < a + n → d ≤ c
least_quotient a c d n h i =
    let below : d * n < suc c * n = omega arith in
    let less : d < suc c = lt_of_mul-lt-mul_right n below in
    omega arith

one_piece : (a n : ℕ) → 1 ≤ n → a ≤ n → 1 ≡ max 1 (div_ceil a n)
one_piece a n s h =
    let bounds : (a ≤ div_ceil a n * n) × (div_ceil a n * n < a + n) = div_ceil_times a n (omega arith) in
    let most : div_ceil a n ≤ 1 = least_quotient a 1 (div_ceil a n) n (omega arith) bounds.1 in
    omega arith

positive : (x d n : ℕ) → 0 < x → x ≤ d * n → 0 < d
positive x zero n h i = omega arith
positive x (suc d) n h i = omega arith

one_piece_more : (a n : ℕ) → 1 ≤ n → n < a → suc (max 1 (div_ceil (a - n) n)) ≡ max 1 (div_ceil a n)
one_piece_more a n s h =
    let all : (a ≤ div_ceil a n * n) × (div_ceil a n * n < a + n) = div_ceil_times a n (omega arith) in
    let less : (a - n ≤ div_ceil (a - n) n * n) × (div_ceil (a - n) n * n < (a - n) + n) = div_ceil_times (a - n) n (omega arith) in
    let some : 0 < div_ceil (a - n) n = positive (a - n) (div_ceil (a - n) n) n (omega arith) less.0 in
    let up : suc (div_ceil (a - n) n) ≤ div_ceil a n = least_quotient a (div_ceil a n) (suc (div_ceil (a - n) n)) n all.0 (omega (arith, less.1)) in
    let down : div_ceil a n ≤ suc (div_ceil (a - n) n) = least_quotient a (suc (div_ceil (a - n) n)) (div_ceil a n) n (omega (arith, less.0)) all.1 in
    omega arith

counted_pieces : (k n : ℕ) (m : List ℕ) → 1 ≤ n → length m ≤ k → length (pieces k n m) ≡ max 1 (div_ceil (length m) n)
counted_pieces zero n m s h = one_piece (length m) n s (omega arith)
counted_pieces (suc k) n m s h = by_test k n m (nat_lt n (length m)) refl s h (λ g. counted_pieces k n (drop n m) s g)
  where
    by_test : (k n : ℕ) (m : List ℕ) (b : Bool) → nat_lt n (length m) ≡ b → 1 ≤ n → length m ≤ suc k → (length (drop n m) ≤ k → length (pieces k n (drop n m)) ≡ max 1 (div_ceil (length (drop n m)) n)) → length (pieces (suc k) n m) ≡ max 1 (div_ceil (length m) n)
    by_test k n m true e s h later =
        let over : n < length m = ltb-true n (length m) e in
        ap length (then_if (nat_lt n (length m)) (record { bytes = take n m; is_last = false } ∷ pieces k n (drop n m)) (record { bytes = m; is_last = true } ∷ []) e)
        ∙ ap suc (later (omega (arith, length-drop n m)))
        ∙ ap (λ (x : ℕ). suc (max 1 (div_ceil x n))) (length-drop n m)
        ∙ one_piece_more (length m) n s over
    by_test k n m false e s h later =
        ap length (else_if (nat_lt n (length m)) (record { bytes = take n m; is_last = false } ∷ pieces k n (drop n m)) (record { bytes = m; is_last = true } ∷ []) (λ t. let both : true ≡ false = sym t ∙ e in cc))
        ∙ one_piece (length m) n s (ltb-false n (length m) e)

pub counts : CountsPieces
unfolding cut
counts size m s = counted_pieces (length m) (size - 1) m (omega arith) (omega arith)
