-- Reading a tree from the front of bytes (RFC 8949, section 3), with the first fault in byte order.
use Rattle.std.specs.Prelude.{◌≡◌, ℕ, zero, suc, min, ◌-◌, ◌/◌, ◌%◌, ◌^◌, ◌||◌, nat_lt, ◌==◌, if◌then◌else◌, List, [], ◌∷◌, length, take, drop, Option, Some, None, Result, Ok, Err}
use Rattle.std.specs.Int.{Width, w8, w16, w32, w64, byte_len, from_be_bytes}
use Rattle.std.specs.Str.{is_utf8}
use Rattle.cbor_view.specs.declared.cbor_kind.CborKind.{CborKind}
use Rattle.cbor_view.specs.declared.cbor_kind.CborKind.TheVariants.{Truncated, Reserved, Chunked, Indefinite, Length, Deep, BadText, Trailing}
use Rattle.cbor_view.specs.declared.cbor_fault.CborFault.{CborFault}
use Rattle.cbor_view.specs.declared.stop.Stop.{Stop}
use Rattle.cbor_view.specs.declared.heads.Head.{Head}
use Rattle.cbor_view.specs.declared.heads.Head.TheVariants as heads
use Rattle.cbor_view.specs.Tree.{Tree, Unsigned, Negative, Bytes, Text, Array, Map, Tag, Simple, Float, Trees, none, more, Pairs, no_pair, pair}

infixl 10 ◌>>=◌
-- the first fault, or what the next step gives
abbrev pub ◌>>=◌ : {A B E : Type 0} → Result A E → (A → Result B E) → Result B E
(Ok x) >>= f = f x
(Err e) >>= f = Err e

-- What a call returned, seen by `view`, is what the definition reads.
abbrev pub Gives : {X Y E : Type 0} → (X → Y) → Result X E → Result Y E → Type 0
Gives view (Ok x) read = read ≡ Ok (view x)
Gives view (Err e) read = read ≡ Err e

-- Heads. An argument of so many bytes, the highest first:
abbrev pub number_at : Width → List ℕ → Result (ℕ × List ℕ) CborKind
number_at w bytes = if nat_lt (length bytes) (byte_len w) then Err Truncated else Ok (from_be_bytes w (take (byte_len w) bytes), drop (byte_len w) bytes)

-- the argument by the additional information, which is not 31
abbrev pub argument_at : ℕ → List ℕ → Result (ℕ × List ℕ) CborKind
argument_at info rest = if nat_lt info 24 then Ok (info, rest) else (if info == 24 then number_at w8 rest else (if info == 25 then number_at w16 rest else (if info == 26 then number_at w32 rest else (if info == 27 then number_at w64 rest else Err Reserved))))

-- additional information 31, an indefinite length or a break
abbrev pub endless : ℕ → CborKind
endless major = if (major == 2) || (major == 3) then Chunked else (if (major == 4) || (major == 5) then Indefinite else Reserved)

-- major type 7, by the additional information
abbrev pub simple_or_float : ℕ → ℕ → Result Head CborKind
simple_or_float info n = if nat_lt info 24 then Ok (heads.Simple n) else (if info == 24 then (if nat_lt n 32 then Err Reserved else Ok (heads.Simple n)) else (if info == 25 then Ok (heads.Float 2 n) else (if info == 26 then Ok (heads.Float 4 n) else Ok (heads.Float 8 n))))

-- major types 0 to 6
abbrev pub typed : ℕ → ℕ → Head
typed major n = if major == 0 then heads.Unsigned n else (if major == 1 then heads.Negative n else (if major == 2 then heads.Bytes n else (if major == 3 then heads.Text n else (if major == 4 then heads.Array n else (if major == 5 then heads.Map n else heads.Tag n)))))

abbrev pub kind_of : ℕ → ℕ → ℕ → Result Head CborKind
kind_of major info n = if major == 7 then simple_or_float info n else Ok (typed major n)

abbrev pub head_with : ℕ → ℕ → List ℕ → Result (Head × List ℕ) CborKind
head_with major info rest = if info == 31 then Err (endless major) else (argument_at info rest >>= λ x. kind_of major info x.0 >>= λ h. Ok (h, x.1))

unfoldable pub head_at : List ℕ → Result (Head × List ℕ) CborKind
head_at [] = Err Truncated
head_at (first ∷ rest) = head_with (first / 32) (first % 32) rest

-- Items. A reader gives a value and the bytes after it, or the fault with the number of bytes that are
-- left from its place on.
abbrev pub Reader : Type 0 → Type 0
Reader A = List ℕ → Result (A × List ℕ) Stop

abbrev pub stop : {A : Type 0} → CborKind → ℕ → Result A Stop
stop kind left = Err (record { kind = kind; left = left })

-- so many bytes
abbrev pub string_at : ℕ → ℕ → Reader (List ℕ)
string_at left n rest = if nat_lt (length rest) n then stop Truncated left else (if nat_lt n (2 ^ 32) then Ok (take n rest, drop n rest) else stop Length left)

abbrev pub text_at : ℕ → ℕ → Reader (List ℕ)
text_at left n rest = string_at left n rest >>= λ s. if is_utf8 s.0 then Ok s else stop BadText left

-- so many items, and so many pairs of them
unfoldable pub items_at : Reader Tree → ℕ → Reader Trees
items_at one zero bytes = Ok (none, bytes)
items_at one (suc n) bytes = one bytes >>= λ t. items_at one n t.1 >>= λ ts. Ok (more t.0 ts.0, ts.1)

unfoldable pub pairs_at : Reader Tree → ℕ → Reader Pairs
pairs_at one zero bytes = Ok (no_pair, bytes)
pairs_at one (suc n) bytes = one bytes >>= λ k. one k.1 >>= λ v. pairs_at one n v.1 >>= λ ps. Ok (pair k.0 v.0 ps.0, ps.1)

abbrev pub counted : {A : Type 0} → ℕ → ℕ → Result A Stop → Result A Stop
counted left n parts = if nat_lt n (2 ^ 32) then parts else stop Length left

-- one level deeper, where there may be one
abbrev pub deeper : {A : Type 0} → Option (Reader Tree) → ℕ → (Reader Tree → Result A Stop) → Result A Stop
deeper None left parts = stop Deep left
deeper (Some one) left parts = parts one

-- what follows a head, `left` being the number of bytes from the head on
abbrev pub behind : Option (Reader Tree) → ℕ → Head → Reader Tree
behind inner left (heads.Unsigned n) rest = Ok (Unsigned n, rest)
behind inner left (heads.Negative n) rest = Ok (Negative n, rest)
behind inner left (heads.Bytes n) rest = string_at left n rest >>= λ s. Ok (Bytes s.0, s.1)
behind inner left (heads.Text n) rest = text_at left n rest >>= λ s. Ok (Text s.0, s.1)
behind inner left (heads.Array n) rest = counted left n (deeper inner left (λ one. items_at one n rest >>= λ ts. Ok (Array ts.0, ts.1)))
behind inner left (heads.Map n) rest = counted left n (deeper inner left (λ one. pairs_at one n rest >>= λ ps. Ok (Map ps.0, ps.1)))
behind inner left (heads.Tag n) rest = deeper inner left (λ one. one rest >>= λ t. Ok (Tag n t.0, t.1))
behind inner left (heads.Simple n) rest = Ok (Simple n, rest)
behind inner left (heads.Float width bits) rest = Ok (Float width bits, rest)

abbrev pub behind_head : Option (Reader Tree) → ℕ → Result (Head × List ℕ) CborKind → Result (Tree × List ℕ) Stop
behind_head inner left (Ok h) = behind inner left h.0 h.1
behind_head inner left (Err kind) = stop kind left

-- one item, with so many levels of nesting at most
unfoldable pub item_at : ℕ → Reader Tree
item_at zero bytes = behind_head None (length bytes) (head_at bytes)
item_at (suc d) bytes = behind_head (Some (item_at d)) (length bytes) (head_at bytes)

-- the reader of what is nested in it
unfoldable pub inner : ℕ → Option (Reader Tree)
inner zero = None
inner (suc d) = Some (item_at d)

-- the levels that the parts of an array, a map or a tag may have, where these are so many
abbrev pub below : ℕ → ℕ → Result ℕ Stop
below left d = if d == 0 then stop Deep left else Ok (d - 1)

abbrev pub levels_inside : ℕ → ℕ → ℕ → Result ℕ Stop
levels_inside left n d = counted left n (below left d)

-- without the tree
abbrev pub past : {A : Type 0} → Result (A × List ℕ) Stop → Result (List ℕ) Stop
past (Ok x) = Ok x.1
past (Err s) = Err s

-- the fewest levels that were left, of so many, where that many were the fewest before and what is read is so
-- deep: an item that is none of an array, a map and a tag goes down no level
abbrev pub left_at : ℕ → ℕ → ℕ → ℕ
left_at most before zero = before
left_at most before (suc depth) = min before (most - suc depth)

abbrev pub levels_left : {A : Type 0} → (A → ℕ) → ℕ → ℕ → Result (A × List ℕ) Stop → ℕ
levels_left depth most before (Ok x) = left_at most before (depth x.0)
levels_left depth most before (Err s) = 0

-- the fault at its offset in that many bytes
abbrev pub at_offset : {A : Type 0} → ℕ → Result A Stop → Result A CborFault
at_offset len (Ok x) = Ok x
at_offset len (Err s) = Err (record { kind = s.kind; at = len - s.left })

-- nothing may follow it
abbrev pub nothing_after : {A : Type 0} → Result (A × List ℕ) Stop → Result A Stop
nothing_after (Ok x) = if length x.1 == 0 then Ok x.0 else stop Trailing (length x.1)
nothing_after (Err s) = Err s

-- all of the bytes as one item
unfoldable pub reads : List ℕ → Result Tree CborFault
reads bytes = at_offset (length bytes) (nothing_after (item_at 32 bytes))

abbrev pub tree_or_null : Result Tree CborFault → Tree
tree_or_null (Ok t) = t
tree_or_null (Err e) = Simple 22

-- the tree that the bytes spell, or null where they spell none
unfoldable pub tree_of : List ℕ → Tree
tree_of bytes = tree_or_null (reads bytes)

abbrev pub past_or_none : ℕ → Result (Tree × List ℕ) Stop → ℕ
past_or_none len (Ok x) = len - length x.1
past_or_none len (Err s) = 0

-- how many bytes the item at the front has
unfoldable pub size : List ℕ → ℕ
size bytes = past_or_none (length bytes) (item_at 32 bytes)
