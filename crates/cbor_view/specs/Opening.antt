-- What follows the head of an item that was read.
use Rattle.std.specs.Prelude.{◌≡◌, ℕ, zero, suc, Bool, true, ◌&&◌, List, take, drop, IsUtf8, IsTrue, IsOk, is_ok, ◌++◌}
use Rattle.cbor_view.specs.declared.heads.Head.{Head}
use Rattle.cbor_view.specs.declared.heads.Head.TheVariants as heads
use Rattle.cbor_view.specs.Tree.{Tree, Unsigned, Negative, Bytes, Text, Array, Map, Tag, Simple, Float}
use Rattle.cbor_view.specs.Reading.{reads, tree_of, size}
use Rattle.cbor_view.specs.Parts.{parts_at, entries_at, trees_of, pairs_from}

-- an item stands at the front
abbrev pub begins : List ℕ → Bool
begins bytes = is_ok (reads (take (size bytes) bytes))

-- so many items stand there, and so many pairs of items
abbrev pub are_items : ℕ → List ℕ → Bool
are_items zero bytes = true
are_items (suc n) bytes = begins bytes && are_items n (drop (size bytes) bytes)

abbrev pub are_pairs : ℕ → List ℕ → Bool
are_pairs zero bytes = true
are_pairs (suc n) bytes = begins bytes && are_items 1 (drop (size bytes) bytes) && are_pairs n (drop (size (drop (size bytes) bytes)) (drop (size bytes) bytes))

-- all of the bytes are some and then the others
pub record EndsWith (all rest : List ℕ) : Type 0 where
  pub front : List ℕ
  pub whole : all ≡ front ++ rest

-- the tree of an item by its head and by what follows it
abbrev pub Opens : Head → List ℕ → Tree → Type 0
Opens (heads.Unsigned n) body t = t ≡ Unsigned n
Opens (heads.Negative n) body t = t ≡ Negative n
Opens (heads.Bytes n) body t = t ≡ Bytes body
Opens (heads.Text n) body t = (t ≡ Text body) × IsUtf8 body
Opens (heads.Array n) body t = (t ≡ Array (trees_of (parts_at n (record { at = 0; bytes = body })))) × IsTrue (are_items n body)
Opens (heads.Map n) body t = (t ≡ Map (pairs_from (entries_at n (record { at = 0; bytes = body })))) × IsTrue (are_pairs n body)
Opens (heads.Tag n) body t = (t ≡ Tag n (tree_of body)) × IsOk (reads body)
Opens (heads.Simple n) body t = t ≡ Simple n
Opens (heads.Float width bits) body t = t ≡ Float width bits
