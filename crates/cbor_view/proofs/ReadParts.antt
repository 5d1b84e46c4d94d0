-- The parts of an item that was read are items that were read.
use Rattle.std.proofs.Common.{◌≡◌, ℕ, zero, suc, ◌==◌, cond, Bool, false, List, take, drop, true, Option, Some, None, option_and_then, Result, Ok, Err, refl, sym, ap, ◌∙◌, subst, take-append-drop, IsOk}
use Rattle.std.specs.List.{AllByRecursion}
use Rattle.std.proofs.lemmas.Bool.{and_parts}
use Rattle.cbor_view.specs.declared.cbor_kind.CborKind.{CborKind}
use Rattle.cbor_view.specs.declared.heads.Head.{Head}
use Rattle.cbor_view.specs.declared.heads.Head.TheVariants as heads
use Rattle.cbor_view.specs.Opening.{are_items, are_pairs, Opens}
use Rattle.cbor_view.specs.Reading.{head_at, reads, tree_of, size}
use Rattle.cbor_view.specs.Parts.{Part, first_part, after_first, parts_at, entries_at, body_of, array_after, map_after, tag_after, items_in, pairs_in, under, tagged, bytes_in}
use Rattle.cbor_view.proofs.HeadReading.{AreBytes, AreBytes-after, front-each}
use Rattle.cbor_view.proofs.Splitting.{split-opens, split-end}

-- a part is bytes that spell one item
pub record IsRead (p : Part) : Type 0 where
  pub are : AreBytes p.bytes
  pub ok : IsOk (reads p.bytes)

abbrev pub BothRead : Part × Part → Type 0
BothRead entry = IsRead entry.0 × IsRead entry.1

bytes_front : (n : ℕ) (bytes : List ℕ) → AreBytes bytes → AreBytes (take n bytes)
bytes_front n bytes are = record { each = front-each (take n bytes) (drop n bytes) (subst AreBytes (sym (take-append-drop n bytes)) are) }

bytes_after : (n : ℕ) (bytes : List ℕ) → AreBytes bytes → AreBytes (drop n bytes)
bytes_after n bytes are = AreBytes-after (take n bytes) (drop n bytes) (subst AreBytes (sym (take-append-drop n bytes)) are)

first_read : (q : Part) → AreBytes q.bytes → IsOk (reads (first_part q).bytes) → IsRead (first_part q)
first_read q are ok = record { are = bytes_front (size q.bytes) q.bytes are; ok = ok }

parts_read : (n : ℕ) (q : Part) → AreBytes q.bytes → are_items n q.bytes ≡ true → AllByRecursion IsRead (parts_at n q)
unfolding parts_at
parts_read zero q are items = tt
parts_read (suc n) q are items =
    let both = and_parts _ _ items in
    (first_read q are both.0, parts_read n (after_first q) (bytes_after (size q.bytes) q.bytes are) both.1)

entries_read : (n : ℕ) (q : Part) → AreBytes q.bytes → are_pairs n q.bytes ≡ true → AllByRecursion BothRead (entries_at n q)
unfolding entries_at
entries_read zero q are pairs = tt
entries_read (suc n) q are pairs =
    let all = and_parts _ _ pairs in
    let both = and_parts _ _ all.0 in
    let value = and_parts _ _ both.1 in
    let behind = bytes_after (size q.bytes) q.bytes are in (
      (first_read q are both.0, first_read (after_first q) behind value.0),
      entries_read n (after_first (after_first q)) (bytes_after (size (after_first q).bytes) (after_first q).bytes behind) all.1,
    )

bytes_of_body : (bytes rest : List ℕ) (h : Head) → AreBytes bytes → head_at bytes ≡ Ok (h, rest) → AreBytes rest
bytes_of_body bytes rest h are e = let ends = split-end bytes rest h are e in AreBytes-after ends.front rest (subst AreBytes ends.whole are)

-- the items of an array
pub items_read : (p : Part) (parts : List Part) → IsRead p → items_in p ≡ Some parts → AllByRecursion IsRead parts
items_read p parts read is = go (head_at p.bytes) refl is where
  go : (o : Result (Head × List ℕ) CborKind) → head_at p.bytes ≡ o → array_after p o ≡ Some parts → AllByRecursion IsRead parts
  go (Err kind) head e = cc
  go (Ok (heads.Array n, rest)) head e =
      let same : parts_at n (body_of p rest) ≡ parts = cc in
      let opens : Opens (heads.Array n) rest (tree_of p.bytes) = split-opens p.bytes rest (heads.Array n) read.are read.ok head in
      subst (AllByRecursion IsRead) same (parts_read n (body_of p rest) (bytes_of_body p.bytes rest (heads.Array n) read.are head) opens.1)
  go (Ok (heads.Map n, rest)) head e = cc
  go (Ok (heads.Tag n, rest)) head e = cc
  go (Ok (heads.Unsigned n, rest)) head e = cc
  go (Ok (heads.Negative n, rest)) head e = cc
  go (Ok (heads.Bytes n, rest)) head e = cc
  go (Ok (heads.Text n, rest)) head e = cc
  go (Ok (heads.Simple n, rest)) head e = cc
  go (Ok (heads.Float width n, rest)) head e = cc

-- the keys and the values of a map
pub pairs_read : (p : Part) (entries : List (Part × Part)) → IsRead p → pairs_in p ≡ Some entries → AllByRecursion BothRead entries
pairs_read p entries read is = go (head_at p.bytes) refl is where
  go : (o : Result (Head × List ℕ) CborKind) → head_at p.bytes ≡ o → map_after p o ≡ Some entries → AllByRecursion BothRead entries
  go (Err kind) head e = cc
  go (Ok (heads.Map n, rest)) head e =
      let same : entries_at n (body_of p rest) ≡ entries = cc in
      let opens : Opens (heads.Map n) rest (tree_of p.bytes) = split-opens p.bytes rest (heads.Map n) read.are read.ok head in
      subst (AllByRecursion BothRead) same (entries_read n (body_of p rest) (bytes_of_body p.bytes rest (heads.Map n) read.are head) opens.1)
  go (Ok (heads.Array n, rest)) head e = cc
  go (Ok (heads.Tag n, rest)) head e = cc
  go (Ok (heads.Unsigned n, rest)) head e = cc
  go (Ok (heads.Negative n, rest)) head e = cc
  go (Ok (heads.Bytes n, rest)) head e = cc
  go (Ok (heads.Text n, rest)) head e = cc
  go (Ok (heads.Simple n, rest)) head e = cc
  go (Ok (heads.Float width n, rest)) head e = cc

-- ---- what stands under a tag

abbrev string_under : ℕ → Option (ℕ × Part) → Option (List ℕ)
string_under n tag = option_and_then bytes_in (option_and_then (under n) tag)

-- a string under a tag is the same at every place
pub string_moved : (n : ℕ) (p q : Part) → p.bytes ≡ q.bytes → option_and_then bytes_in (tagged n p) ≡ option_and_then bytes_in (tagged n q)
string_moved n p q same = go (head_at p.bytes) ∙ ap (λ (o : Result (Head × List ℕ) CborKind). string_under n (tag_after q o)) (ap head_at same) where
  by : (b : Bool) (rest : List ℕ) → option_and_then bytes_in (cond b (Some (body_of p rest)) None) ≡ option_and_then bytes_in (cond b (Some (body_of q rest)) None)
  by true rest = refl
  by false rest = refl

  go : (o : Result (Head × List ℕ) CborKind) → string_under n (tag_after p o) ≡ string_under n (tag_after q o)
  go (Err kind) = refl
  go (Ok (heads.Tag m, rest)) = by (m == n) rest
  go (Ok (heads.Array m, rest)) = refl
  go (Ok (heads.Map m, rest)) = refl
  go (Ok (heads.Unsigned m, rest)) = refl
  go (Ok (heads.Negative m, rest)) = refl
  go (Ok (heads.Bytes m, rest)) = refl
  go (Ok (heads.Text m, rest)) = refl
  go (Ok (heads.Simple m, rest)) = refl
  go (Ok (heads.Float width m, rest)) = refl
