-- The head of an item, where its parts may be looked at: with the levels that they may have, and what
-- follows it.
use Rattle.std.specs.Prelude.{ℕ, zero, suc, ◌^◌, nat_lt, if◌then◌else◌, List, Option, Some, None, Result, Ok, Err}
use Rattle.cbor_view.specs.declared.cbor_kind.CborKind.{CborKind}
use Rattle.cbor_view.specs.declared.heads.Head.{Head}
use Rattle.cbor_view.specs.declared.heads.Head.TheVariants as heads
use Rattle.cbor_view.specs.Reading.{head_at}
use Rattle.cbor_view.specs.Parts.{Part, body_of}

abbrev pub opened : ℕ → Part → Result (Head × List ℕ) CborKind → Option (Head × (ℕ × Part))
opened d p (Ok x) = Some (x.0, (d, body_of p x.1))
opened d p (Err kind) = None

abbrev pub head_and_body : ℕ → Part → Option (Head × (ℕ × Part))
head_and_body zero p = None
head_and_body (suc d) p = opened d p (head_at p.bytes)

-- the count of an array, of a map, and the number of a tag
abbrev pub array_count : Head → Option ℕ
array_count (heads.Array n) = if nat_lt n (2 ^ 32) then Some n else None
array_count _ = None

abbrev pub map_count : Head → Option ℕ
map_count (heads.Map n) = if nat_lt n (2 ^ 32) then Some n else None
map_count _ = None

abbrev pub tag_number : Head → Option ℕ
tag_number (heads.Tag n) = Some n
tag_number _ = None
