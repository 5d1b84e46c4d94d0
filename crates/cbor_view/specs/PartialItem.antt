-- An item as far as it is spelled (RFC 8949, section 3): what stands whole before its first fault.
use Rattle.std.specs.Prelude.{ℕ, zero, suc, ◌-◌, ◌^◌, nat_lt, if◌then◌else◌, List, [], ◌∷◌, ◌++◌, map, length, take, Option, Some, None, option_map, option_and_then, Result, Ok, Err}
use Rattle.cbor_view.specs.declared.cbor_kind.CborKind.{CborKind}
use Rattle.cbor_view.specs.declared.cbor_fault.CborFault.{CborFault}
use Rattle.cbor_view.specs.declared.stop.Stop.{Stop}
use Rattle.cbor_view.specs.declared.heads.Head.{Head}
use Rattle.cbor_view.specs.declared.heads.Head.TheVariants as heads
use Rattle.cbor_view.specs.Tree.{Tree}
use Rattle.cbor_view.specs.Reading.{head_at, item_at}
use Rattle.cbor_view.specs.Parts.{Part, body_of, items_in, pairs_in, tag_in}

pub data PartialItem : Type 0 where
  -- the item is spelled
  whole : Part → PartialItem
  -- an array by the place of its head and the count there: the items in front that are whole, and the next,
  -- which isn't
  in_array : ℕ → ℕ → List Part → PartialItem → PartialItem
  -- a map: the entries in front that are whole, and the next key, which isn't
  in_map : ℕ → List (Part × Part) → PartialItem → PartialItem
  -- a map: the entries in front, the next key, which is whole, and its value, which isn't
  in_value : ℕ → List (Part × Part) → Part → PartialItem → PartialItem
  -- a tag by its place and number, and what stands under it
  in_tag : ℕ → ℕ → PartialItem → PartialItem
  -- a fault of the item's own head, string or count
  broken : CborFault → PartialItem

-- Places count from the start of the file. A part of the file is taken to its end, with an item of at most
-- so many levels at its front: the bytes that spell it, and what follows them.
abbrev pub front : Part → List ℕ → Part
front p rest = record { at = p.at; bytes = take (length p.bytes - length rest) p.bytes }

abbrev pub split : Part → Result (Tree × List ℕ) Stop → Option (Part × Part)
split p (Ok x) = Some (front p x.1, body_of p x.1)
split p (Err s) = None

abbrev pub item_first : ℕ → Part → Option (Part × Part)
item_first d p = split p (item_at d p.bytes)

-- the same of a key and its value
abbrev pub value_first : ℕ → Part × Part → Option ((Part × Part) × Part)
value_first d k = option_map (λ v. ((k.0, v.0), v.1)) (item_first d k.1)

abbrev pub pair_first : ℕ → Part → Option ((Part × Part) × Part)
pair_first d p = option_and_then (value_first d) (item_first d p)

-- what is whole of so many that follow one another, and what follows it
abbrev pub first_and_rest : {A : Type 0} → Part → Option (A × Part) → (Part → List A × Part) → List A × Part
first_and_rest p None more = ([], p)
first_and_rest p (Some s) more = (s.0 ∷ (more s.1).0, (more s.1).1)

unfoldable pub whole_run : {A : Type 0} → (Part → Option (A × Part)) → ℕ → Part → List A × Part
whole_run first zero p = ([], p)
whole_run first (suc n) p = first_and_rest p (first p) (whole_run first n)

-- An item that isn't whole, with the kind of its first fault: `one` looks at what is nested in it.
abbrev pub unfinished_array : (Part → PartialItem) → ℕ → ℕ → List Part × Part → PartialItem
unfinished_array one at n r = in_array at n r.0 (one r.1)

abbrev pub unfinished_entry : (Part → PartialItem) → ℕ → List (Part × Part) → Part → Option (Part × Part) → PartialItem
unfinished_entry one at pairs p None = in_map at pairs (one p)
unfinished_entry one at pairs p (Some k) = in_value at pairs k.0 (one k.1)

abbrev pub unfinished_map : ℕ → (Part → PartialItem) → ℕ → List (Part × Part) × Part → PartialItem
unfinished_map d one at r = unfinished_entry one at r.0 r.1 (item_first d r.1)

abbrev pub own_fault : Part → CborKind → PartialItem
own_fault p kind = broken (record { kind = kind; at = p.at })

abbrev pub unfinished : ℕ → (Part → PartialItem) → Part → CborKind → Result (Head × List ℕ) CborKind → PartialItem
unfinished d one p kind (Ok (heads.Array n, rest)) = if nat_lt n (2 ^ 32) then unfinished_array one p.at n (whole_run (item_first d) n (body_of p rest)) else own_fault p kind
unfinished d one p kind (Ok (heads.Map n, rest)) = if nat_lt n (2 ^ 32) then unfinished_map d one p.at (whole_run (pair_first d) n (body_of p rest)) else own_fault p kind
unfinished d one p kind (Ok (heads.Tag n, rest)) = in_tag p.at n (one (body_of p rest))
unfinished d one p kind _ = own_fault p kind

abbrev pub whole_or : Part → (CborKind → PartialItem) → Result (Tree × List ℕ) Stop → PartialItem
whole_or p other (Ok x) = whole (front p x.1)
whole_or p other (Err s) = other s.kind

-- the item at the front of a part, with so many levels at most
unfoldable pub partial_item_at : ℕ → Part → PartialItem
partial_item_at zero p = whole_or p (own_fault p) (item_at zero p.bytes)
partial_item_at (suc d) p = whole_or p (λ kind. unfinished d (partial_item_at d) p kind (head_at p.bytes)) (item_at (suc d) p.bytes)

-- the item at the front of a file
abbrev pub front_item : List ℕ → PartialItem
front_item bytes = partial_item_at 32 (record { at = 0; bytes = bytes })

-- What there is of a partial item: the first fault, none where the item is whole,
abbrev pub fault_in : PartialItem → Option CborFault
fault_in (whole p) = None
fault_in (in_array at n items next) = fault_in next
fault_in (in_map at pairs key) = fault_in key
fault_in (in_value at pairs key value) = fault_in value
fault_in (in_tag at n inner) = fault_in inner
fault_in (broken fault) = Some fault

-- the place of the item's head,
abbrev pub place_in : PartialItem → ℕ
place_in (whole p) = p.at
place_in (in_array at n items next) = at
place_in (in_map at pairs key) = at
place_in (in_value at pairs key value) = at
place_in (in_tag at n inner) = at
place_in (broken fault) = fault.at

-- the item, where it is whole,
abbrev pub whole_in : PartialItem → Option Part
whole_in (whole p) = Some p
whole_in _ = None

-- the count of an array, which its head tells where it isn't whole,
abbrev pub declared_count : PartialItem → Option ℕ
declared_count (whole p) = option_map (λ (ps : List Part). length ps) (items_in p)
declared_count (in_array at n items next) = Some n
declared_count _ = None

-- and what it has: the items of an array and the pairs of a map up to the first that isn't whole, that one
-- too, a pair having no value where its key isn't whole; the number of a tag with what stands under it.
abbrev pub both_whole : Part × Part → PartialItem × Option PartialItem
both_whole e = (whole e.0, Some (whole e.1))

abbrev pub tagged_whole : ℕ × Part → ℕ × PartialItem
tagged_whole x = (x.0, whole x.1)

abbrev pub partial_items : PartialItem → Option (List PartialItem)
partial_items (whole p) = option_map (map whole) (items_in p)
partial_items (in_array at n items next) = Some (map whole items ++ (next ∷ []))
partial_items _ = None

abbrev pub partial_pairs : PartialItem → Option (List (PartialItem × Option PartialItem))
partial_pairs (whole p) = option_map (map both_whole) (pairs_in p)
partial_pairs (in_map at pairs key) = Some (map both_whole pairs ++ ((key, None) ∷ []))
partial_pairs (in_value at pairs key value) = Some (map both_whole pairs ++ ((whole key, Some value) ∷ []))
partial_pairs _ = None

abbrev pub partial_tag : PartialItem → Option (ℕ × PartialItem)
partial_tag (whole p) = option_map tagged_whole (tag_in p)
partial_tag (in_tag at n inner) = Some (n, inner)
partial_tag _ = None

-- So many that stand one after the other, each looked at, up to the first that isn't whole, that one too.
abbrev pub rest_if_whole : {A B : Type 0} → Option (A × Part) → (Part → List B) → List B
rest_if_whole None more = []
rest_if_whole (Some s) more = more s.1

unfoldable pub until_broken : {A B : Type 0} → (Part → B) → (Part → Option (A × Part)) → ℕ → Part → List B
until_broken look first zero p = []
until_broken look first (suc n) p = look p ∷ rest_if_whole (first p) (until_broken look first n)

abbrev pub partial_value_at : ℕ → Option (Part × Part) → Option PartialItem
partial_value_at d k = option_map (λ x. partial_item_at d x.1) k

abbrev pub partial_pair_at : ℕ → Part → PartialItem × Option PartialItem
partial_pair_at d p = (partial_item_at d p, partial_value_at d (item_first d p))
