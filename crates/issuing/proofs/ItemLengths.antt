-- The item of an element is short enough to be written.
use Rattle.std.proofs.Common.{◌+◌, ◌≤◌, arith, ℕ, length, length-append}
use Rattle.cbor_view.specs.Shortest.{shortest_form, shortest_head}
use Rattle.cbor_view.specs.Spelling.{Form, Within, One, Two, Four, Eight, head}
use Rattle.cbor_maps.specs.Writing as writing
use Rattle.issuer_items.specs.Item.{Item}
use Rattle.issuer_items.specs.WrittenItem.{item_map}

head_by : (form : Form) (major n : ℕ) → length (head form major n) ≤ 9
head_by Within major n = omega arith
head_by One major n = omega arith
head_by Two major n = omega arith
head_by Four major n = omega arith
head_by Eight major n = omega arith

pub head_short : (major n : ℕ) → length (shortest_head major n) ≤ 9
head_short major n = head_by (shortest_form n) major n

-- the heads and the keys take less than 200 bytes
pub map_length : (it : Item) → length (item_map it) ≤ 200 + length it.random + length it.name + length it.value
unfolding item_map writing.key_bytes writing.map_head
map_length it =
    simp length-append (omega (arith, head_short 5 4, head_short 0 it.digest_id, head_short 2 (length it.random), head_short 3 (length it.name)))
