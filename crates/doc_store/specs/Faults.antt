-- What is wrong with a store file: the faults of each map and list of the form, as far as the file is spelled, and
-- the first of them in byte order.
use Rattle.std.specs.Prelude.{ℕ, ◌+◌, ◌==◌, ◌^◌, nat_le, nat_lt, List, [], ◌∷◌, ◌++◌, length, map, filter, filter_map, flat_map, drop, slice_get, Bool, true, false, not, ◌&&◌, ◌||◌, Option, Some, None, is_some, option_map, option_and_then, Result, Ok, Err, if◌then◌else◌}
use Rattle.std.specs.List.{list_any}
use Rattle.std.specs.Str.{bytes_eq}
use Rattle.cbor_view.specs.declared.cbor_fault.CborFault.{CborFault}
use Rattle.cbor_view.specs.Tree.{Tree}
use Rattle.cbor_view.specs.PartialItem.{PartialItem, broken, front_item, place_in, whole_in, declared_count, partial_items, partial_pairs, partial_tag}
use Rattle.cbor_view.specs.Parts.{Part, uint_in, text_in, boolean_in}
use Rattle.cbor_view.specs.Reading.{reads}
use Rattle.mdoc_outside.specs.KeyName.{key_text}
use Rattle.mdoc_outside.specs.declared.key_name.KeyName.{KeyName}
use Rattle.mdoc_outside.specs.declared.key_name.KeyName.TheVariants as keys
use Rattle.mdoc_outside.specs.declared.limit_name.LimitName.{LimitName}
use Rattle.mdoc_outside.specs.declared.limit_name.LimitName.TheVariants as limits
use Rattle.mdoc_outside.specs.ListSteps.{unless}
use Rattle.doc_store.specs.declared.first_fault.Fault.{Fault}
use Rattle.issuer_items.specs.Item.{Item, item as issuer_item}
use Rattle.doc_store.specs.Item.{item}
use Rattle.issuer_items.specs.declared.item_fault.ItemFault.{ItemFault}
use Rattle.issuer_items.specs.declared.item_fault.ItemFault.TheVariants as items
use Rattle.doc_store.specs.declared.store_check.StoreCheck.{StoreCheck}
use Rattle.doc_store.specs.declared.store_check.StoreCheck.TheVariants as checks

abbrev pub fault : StoreCheck → PartialItem → Fault
fault check g = record { check = check; at = place_in g }

-- ---- kinds

-- an item of another kind is wrong at its head; one whose head, string or count is broken is of no kind
abbrev pub is_broken : PartialItem → Bool
is_broken (broken f) = true
is_broken g = false

abbrev pub other_kind : StoreCheck → PartialItem → List Fault
other_kind check g = if is_broken g then [] else fault check g ∷ []

-- what is wrong with an item that has to be of a kind
abbrev pub if_kind : {A : Type 0} → List Fault → (A → List Fault) → Option A → List Fault
if_kind other inside None = other
if_kind other inside (Some x) = inside x

abbrev pub of_kind : {A : Type 0} → StoreCheck → (PartialItem → Option A) → (A → List Fault) → PartialItem → List Fault
of_kind check reading inside g = if_kind (other_kind check g) inside (reading g)

-- a whole number, text or truth value
abbrev pub uint_if_whole : PartialItem → Option ℕ
uint_if_whole g = option_and_then uint_in (whole_in g)

abbrev pub text_if_whole : PartialItem → Option (List ℕ)
text_if_whole g = option_and_then text_in (whole_in g)

abbrev pub boolean_if_whole : PartialItem → Option Bool
boolean_if_whole g = option_and_then boolean_in (whole_in g)

abbrev pub nothing : {A : Type 0} → A → List Fault
nothing x = []

-- ---- limits and names

-- the item that exceeds a limit on a list
abbrev pub beyond_at : LimitName → ℕ → Option PartialItem → List Fault
beyond_at limit most None = []
beyond_at limit most (Some g) = fault (checks.Limit limit (most + 1)) g ∷ []

abbrev pub beyond : LimitName → ℕ → List PartialItem → List Fault
beyond limit most gs = beyond_at limit most (slice_get gs most)

-- a name of more than 128 bytes
abbrev pub name_limit : PartialItem → List ℕ → List Fault
name_limit g name = unless (nat_le (length name) 128) (fault (checks.Limit limits.Name (length name)) g)

-- what stands there a second time: the first text that is equal to one before it
abbrev pub repeats_after : List (List ℕ) → List (List ℕ × PartialItem) → List Fault
repeats_after seen [] = []
repeats_after seen (x ∷ xs) = if list_any (bytes_eq x.0) seen then fault checks.Doubled x.1 ∷ [] else repeats_after (x.0 ∷ seen) xs

abbrev pub repeats : List (List ℕ × PartialItem) → List Fault
repeats xs = repeats_after [] xs

-- a text beside its item, where it is whole
abbrev pub with_text : PartialItem → Option (List ℕ × PartialItem)
with_text g = option_map (λ text. (text, g)) (text_if_whole g)

-- ---- the maps of the form

-- a key of a map, and what may be wrong with its value
pub record Key : Type 0 where
  pub name : KeyName
  pub value : PartialItem → List Fault

abbrev pub Entries : Type 0
Entries = List (PartialItem × Option PartialItem)

abbrev pub is_text : List ℕ → Option (List ℕ) → Bool
is_text words None = false
is_text words (Some text) = bytes_eq text words

abbrev pub is_key : KeyName → PartialItem × Option PartialItem → Bool
is_key name entry = is_text (key_text name) (text_if_whole entry.0)

abbrev pub entries_of : KeyName → Entries → Entries
entries_of name entries = filter (is_key name) entries

abbrev pub values_of : KeyName → Entries → List PartialItem
values_of name entries = filter_map (λ (entry : PartialItem × Option PartialItem). entry.1) (entries_of name entries)

-- a key that stands twice is wrong where it stands again; one that is missing, in a map that is whole, at the map
abbrev pub doubled_at : Entries → List Fault
doubled_at [] = []
doubled_at (entry ∷ others) = fault checks.Doubled entry.0 ∷ []

abbrev pub key_again : KeyName → Entries → List Fault
key_again name entries = doubled_at (drop 1 (entries_of name entries))

abbrev pub has_key : KeyName → Entries → Bool
has_key name entries = list_any (is_key name) entries

abbrev pub key_missing : PartialItem → KeyName → Entries → List Fault
key_missing g name entries = unless (not (is_some (whole_in g)) || has_key name entries) (fault (checks.Field name) g)

abbrev pub key_faults : PartialItem → Entries → Key → List Fault
key_faults g entries key = key_missing g key.name entries ++ (key_again key.name entries ++ flat_map key.value (values_of key.name entries))

-- a map of the form, by its keys, of which there is a first
abbrev pub map_faults : Key → List Key → PartialItem → List Fault
map_faults key others g = of_kind (checks.Field key.name) partial_pairs (λ entries. flat_map (key_faults g entries) (key ∷ others)) g

-- ---- a stored item

-- a limit that its name or its value passes
abbrev pub value_limit : PartialItem → ℕ → List Fault
value_limit g bytes = unless (nat_le bytes 262144) (fault (checks.Limit limits.Value bytes) g)

-- where it is whole: the first check of an issuer-signed item that fails, else its limits
abbrev pub whole_item : PartialItem → Result Item ItemFault → List Fault
whole_item g (Ok read) = name_limit g read.name ++ value_limit g (length read.value)
whole_item g (Err f) = fault (checks.Item f) g ∷ []

-- where it isn't whole, a string that is broken under the tag is of no other kind
abbrev pub under_tag : PartialItem → ℕ × PartialItem → List Fault
under_tag g inside = unless (inside.0 == 24 && is_broken inside.1) (fault (checks.Item items.NotTagged) g)

abbrev pub cut_item : PartialItem → List Fault
cut_item g = if_kind (other_kind (checks.Item items.NotTagged) g) (under_tag g) (partial_tag g)

abbrev pub item_faults : PartialItem → List Fault
item_faults g = if_kind (cut_item g) (λ (part : Part). whole_item g (issuer_item part.bytes)) (whole_in g)

-- its name, where it is an item
abbrev pub item_name : PartialItem → Option (List ℕ × PartialItem)
item_name g = option_map (λ (read : Item). (read.name, g)) (option_and_then (λ (part : Part). item part.bytes) (whole_in g))

-- ---- the namespaces of a copy

abbrev pub items_or_none : Option (List PartialItem) → List PartialItem
items_or_none None = []
items_or_none (Some gs) = gs

abbrev pub space_items : PartialItem × Option PartialItem → List PartialItem
space_items entry = items_or_none (option_and_then partial_items entry.1)

abbrev pub items_faults : List PartialItem → List Fault
items_faults gs = flat_map item_faults gs ++ repeats (filter_map item_name gs)

abbrev pub space_value : Option PartialItem → List Fault
space_value None = []
space_value (Some g) = of_kind (checks.Field keys.NameSpaces) partial_items items_faults g

abbrev pub name_faults : PartialItem → List Fault
name_faults g = of_kind (checks.Field keys.NameSpaces) text_if_whole (name_limit g) g

abbrev pub space_faults : PartialItem × Option PartialItem → List Fault
space_faults entry = name_faults entry.0 ++ space_value entry.1

abbrev pub keys_in : Entries → List PartialItem
keys_in entries = map (λ (entry : PartialItem × Option PartialItem). entry.0) entries

abbrev pub entries_faults : Entries → List Fault
entries_faults entries =
    flat_map space_faults entries ++ repeats (filter_map with_text (keys_in entries))
    ++ beyond limits.Namespaces 16 (keys_in entries) ++ beyond limits.Items 512 (flat_map space_items entries)

abbrev pub spaces_faults : PartialItem → List Fault
spaces_faults g = of_kind (checks.Field keys.NameSpaces) partial_pairs entries_faults g

-- ---- a copy, a document, the store

abbrev pub key_number : PartialItem → List Fault
key_number g = of_kind (checks.Field keys.Key) uint_if_whole (λ n. unless (nat_lt n (2 ^ 32)) (fault (checks.Field keys.Key) g)) g

abbrev pub used_faults : PartialItem → List Fault
used_faults g = of_kind (checks.Field keys.Used) boolean_if_whole nothing g

abbrev pub auth_of_issuer : PartialItem → List Fault
auth_of_issuer g = of_kind (checks.Field keys.IssuerAuth) declared_count (λ n. unless (n == 4) (fault (checks.Field keys.IssuerAuth) g)) g

abbrev pub copy_faults : PartialItem → List Fault
copy_faults g = map_faults
    (record { name = keys.Key; value = key_number })
    (record { name = keys.Used; value = used_faults } ∷ record { name = keys.IssuerAuth; value = auth_of_issuer }
    ∷ record { name = keys.NameSpaces; value = spaces_faults } ∷ []) g

abbrev pub doc_type_faults : PartialItem → List Fault
doc_type_faults g = of_kind (checks.Field keys.DocType) text_if_whole (name_limit g) g

abbrev pub auth_faults : PartialItem → List Fault
auth_faults g = of_kind (checks.Field keys.Auth) uint_if_whole (λ n. unless (nat_le n 1) (fault (checks.Field keys.Auth) g)) g

abbrev pub no_copy : PartialItem → List PartialItem → List Fault
no_copy g [] = fault (checks.Field keys.Copies) g ∷ []
no_copy g (copy ∷ others) = []

abbrev pub copy_list_faults : PartialItem → List PartialItem → List Fault
copy_list_faults g gs = no_copy g gs ++ flat_map copy_faults gs ++ beyond limits.Copies 64 gs

abbrev pub copies_faults : PartialItem → List Fault
copies_faults g = of_kind (checks.Field keys.Copies) partial_items (copy_list_faults g) g

abbrev pub document_faults : PartialItem → List Fault
document_faults g = map_faults
    (record { name = keys.DocType; value = doc_type_faults })
    (record { name = keys.Auth; value = auth_faults } ∷ record { name = keys.Copies; value = copies_faults } ∷ []) g

abbrev pub entries_or_none : Option Entries → Entries
entries_or_none None = []
entries_or_none (Some entries) = entries

abbrev pub doc_types : PartialItem → List (List ℕ × PartialItem)
doc_types g = filter_map with_text (values_of keys.DocType (entries_or_none (partial_pairs g)))

abbrev pub version_faults : PartialItem → List Fault
version_faults g = of_kind (checks.Field keys.Version) uint_if_whole (λ n. unless (n == 1) (fault checks.Version g)) g

abbrev pub document_list_faults : List PartialItem → List Fault
document_list_faults gs = flat_map document_faults gs ++ repeats (flat_map doc_types gs) ++ beyond limits.Documents 16 gs

abbrev pub documents_faults : PartialItem → List Fault
documents_faults g = of_kind (checks.Field keys.Documents) partial_items document_list_faults g

abbrev pub form_faults : PartialItem → List Fault
form_faults g = map_faults (record { name = keys.Version; value = version_faults }) (record { name = keys.Documents; value = documents_faults } ∷ []) g

-- the fault of its CBOR, of which there is at most one
abbrev pub cbor_fault : Result Tree CborFault → List Fault
cbor_fault (Ok tree) = []
cbor_fault (Err f) = record { check = checks.Cbor f.kind; at = f.at } ∷ []

abbrev pub faults : List ℕ → List Fault
faults bytes = cbor_fault (reads bytes) ++ form_faults (front_item bytes)

-- ---- the first of them

-- the order of faults at one place
abbrev pub limit_rank : LimitName → ℕ
limit_rank limits.Documents = 5
limit_rank limits.Namespaces = 6
limit_rank limits.Items = 7
limit_rank limits.Copies = 8
limit_rank limits.Value = 9
limit_rank limit = 10

abbrev pub rank : StoreCheck → ℕ
rank (checks.Cbor kind) = 0
rank (checks.Field key) = 1
rank checks.Version = 2
rank checks.Doubled = 3
rank (checks.Item f) = 4
rank (checks.Limit limit n) = limit_rank limit

abbrev pub is_before : Fault → Fault → Bool
is_before one other = nat_lt one.at other.at || (one.at == other.at && nat_lt (rank one.check) (rank other.check))

-- the fault at the least place, of those at one place the first by the order of checks, and of equals the first
abbrev pub earlier_fault : Fault → Option Fault → Option Fault
earlier_fault f None = Some f
earlier_fault f (Some other) = if is_before other f then Some other else Some f

abbrev pub earlier : Option Fault → Option Fault → Option Fault
earlier None other = other
earlier (Some f) other = earlier_fault f other

abbrev pub first_fault : List Fault → Option Fault
first_fault [] = None
first_fault (f ∷ fs) = earlier_fault f (first_fault fs)

-- what is wrong with a file, if something is
abbrev pub store_fault : List ℕ → Option Fault
store_fault bytes = first_fault (faults bytes)
