-- One step along items that follow one another.
use Rattle.std.proofs.Common.{◌≡◌, ℕ, zero, suc, ◌-◌, ◌<◌, ◌≤◌, List, [], ◌∷◌, length, take, drop, Bool, true, false, ◌&&◌, Ok, Err, refl, ap, ◌∙◌, subst, arith, is_ok, Result, Err, if◌then◌else◌}
use Rattle.std.specs.Str.{is_utf8}
use Rattle.cbor_view.specs.declared.cbor_kind.CborKind.TheVariants.{BadText}
use Rattle.cbor_view.specs.declared.heads.Head.TheVariants as heads
use Rattle.cbor_view.specs.declared.stop.Stop.{Stop}
use Rattle.cbor_view.specs.Tree.{Tree, Text}
use Rattle.cbor_view.specs.Reading.{◌>>=◌, item_at, past, past_or_none, size, reads, head_at, stop, string_at}
use Rattle.cbor_view.specs.Parts.{Part, first_part, after_first, parts_at, entries_at}
use Rattle.cbor_view.specs.Opening.{begins, are_items, are_pairs}
use Rattle.std.proofs.lemmas.List.{length-append}
use Rattle.cbor_view.proofs.HeadReading.{AreBytes}
use Rattle.cbor_view.proofs.ItemReading.{item-sound}
use Rattle.cbor_view.proofs.Steps.{first-of, failed, past-item}

pub parts_none : (n : ℕ) (p : Part) → n ≡ 0 → parts_at n p ≡ []
unfolding parts_at
parts_none zero p e = refl
parts_none (suc n) p e = absurd (omega arith)

pub parts_step : (n : ℕ) (p : Part) → 0 < n → parts_at n p ≡ first_part p ∷ parts_at (n - 1) (after_first p)
unfolding parts_at
parts_step zero p h = absurd (omega arith)
parts_step (suc n) p h = let e : n ≡ suc n - 1 = omega arith in ap (λ m. first_part p ∷ parts_at m (after_first p)) e

pub entries_none : (n : ℕ) (p : Part) → n ≡ 0 → entries_at n p ≡ []
unfolding entries_at
entries_none zero p e = refl
entries_none (suc n) p e = absurd (omega arith)

pub entries_step : (n : ℕ) (p : Part) → 0 < n → entries_at n p ≡ (first_part p, first_part (after_first p)) ∷ entries_at (n - 1) (after_first (after_first p))
unfolding entries_at
entries_step zero p h = absurd (omega arith)
entries_step (suc n) p h = let e : n ≡ suc n - 1 = omega arith in ap (λ m. (first_part p, first_part (after_first p)) ∷ entries_at m (after_first (after_first p))) e

both : (a b : Bool) → (a && b) ≡ true → (a ≡ true) × (b ≡ true)
both true b e = (refl, e)
both false b e = absurd (cc)

pub items_begin : (n : ℕ) (bytes : List ℕ) → 0 < n → are_items n bytes ≡ true → begins bytes ≡ true
items_begin zero bytes h e = absurd (omega arith)
items_begin (suc n) bytes h e = (both (begins bytes) (are_items n (drop (size bytes) bytes)) e).0

pub items_step : (n : ℕ) (bytes : List ℕ) → 0 < n → are_items n bytes ≡ true → are_items (n - 1) (drop (size bytes) bytes) ≡ true
items_step zero bytes h e = absurd (omega arith)
items_step (suc n) bytes h e = let k : suc n - 1 ≡ n = omega arith in rw k (both (begins bytes) (are_items n (drop (size bytes) bytes)) e).1

-- the key, the value and the pairs after them
pub record PairsBegin (n : ℕ) (bytes : List ℕ) : Type 0 where
  pub key : begins bytes ≡ true
  pub value : begins (drop (size bytes) bytes) ≡ true
  pub others : are_pairs (n - 1) (drop (size (drop (size bytes) bytes)) (drop (size bytes) bytes)) ≡ true

pub pairs_begin : (n : ℕ) (bytes : List ℕ) → 0 < n → are_pairs n bytes ≡ true → PairsBegin n bytes
pairs_begin zero bytes h e = absurd (omega arith)
pairs_begin (suc n) bytes h e =
    let rest = drop (size bytes) bytes in
    let more = drop (size rest) rest in
    let k : suc n - 1 ≡ n = omega arith in
    let a = both (begins bytes && (begins rest && true)) (are_pairs n more) e in
    let b = both (begins bytes) (begins rest && true) a.0 in
    let v = both (begins rest) true b.1 in
    record { key = b.0; value = v.0; others = rw k a.1 }

-- ---- the item at the front

pub size_past : (bytes rest : List ℕ) → past (item_at 32 bytes) ≡ Ok rest → size bytes ≡ length bytes - length rest
unfolding size
size_past bytes rest e = let f = first-of (item_at 32 bytes) rest e in ap (past_or_none (length bytes)) f.1

pub rest_within : (bytes rest : List ℕ) → AreBytes bytes → past (item_at 32 bytes) ≡ Ok rest → length rest ≤ length bytes
rest_within bytes rest are e =
    let f = first-of (item_at 32 bytes) rest e in
    let s = (item-sound 32).each bytes rest f.0 are f.1 in
    omega (arith, ap length s.whole, length-append s.front rest)

nothing_read : is_ok (reads []) ≡ false
unfolding reads item_at head_at
nothing_read = refl

size_fault : (bytes : List ℕ) (s : Stop) → past (item_at 32 bytes) ≡ Err s → size bytes ≡ 0
unfolding size
size_fault bytes s e = ap (past_or_none (length bytes)) (failed (item_at 32 bytes) s e)

pub begins_past : (bytes : List ℕ) (s : Stop) → past (item_at 32 bytes) ≡ Err s → begins bytes ≡ true → ⊥
begins_past bytes s e b =
    let n : size bytes ≡ 0 = size_fault bytes s e in
    let t : is_ok (reads (take 0 bytes)) ≡ true = subst (λ m. is_ok (reads (take m bytes)) ≡ true) n b in
    let f = nothing_read in
    cc

-- a text that begins where it was read before is UTF-8
abbrev as_text : List ℕ × List ℕ → Result (Tree × List ℕ) Stop
as_text s = Ok (Text s.0, s.1)

is_read : (left : ℕ) (good : Bool) (s : List ℕ × List ℕ) → ((fault : Stop) → past ((if good then Ok s else stop BadText left) >>= as_text) ≡ Err fault → ⊥)
    → past ((if good then Ok s else stop BadText left) >>= as_text) ≡ Ok s.1
is_read left true s faultless = refl
is_read left false s faultless = absurd (faultless (record { kind = BadText; left = left }) refl)

is_string : (left : ℕ) (read : Result (List ℕ × List ℕ) Stop)
    → ((fault : Stop) → past ((read >>= λ s. if is_utf8 s.0 then Ok s else stop BadText left) >>= as_text) ≡ Err fault → ⊥)
    → past ((read >>= λ s. if is_utf8 s.0 then Ok s else stop BadText left) >>= as_text) ≡ past read
is_string left (Ok s) faultless = is_read left (is_utf8 s.0) s faultless
is_string left (Err fault) faultless = refl

pub text_again : (bytes : List ℕ) (n : ℕ) (rest : List ℕ) → head_at bytes ≡ Ok (heads.Text n, rest) → begins bytes ≡ true
    → past (item_at 32 bytes) ≡ past (string_at (length bytes) n rest)
text_again bytes n rest head begun =
    let opened = past-item 32 bytes rest (heads.Text n) head in
    opened ∙ is_string (length bytes) (string_at (length bytes) n rest) (λ fault e. begins_past bytes fault (opened ∙ e) begun)

-- what one step of each iterator wants
pub ruleset item_steps = (parts_none, parts_step, items_begin, items_step)

pub ruleset pair_steps = (entries_none, entries_step, pairs_begin)
