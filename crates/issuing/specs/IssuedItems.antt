-- The items of a copy that is issued, and its security object (ISO/IEC 18013-5, 9.1.2.4).
use Rattle.std.specs.Prelude.{ℕ, List, [], ◌∷◌, ◌++◌, length, filter, map}
use Rattle.std.specs.Str.{bytes_eq}
use Rattle.issuer_items.specs.Item.{Item}
use Rattle.issuer_items.specs.WrittenItem.{item_bytes}
use Rattle.issue_spec.specs.declared.spec_element.SpecElement.{SpecElement}
use Rattle.issue_spec.specs.declared.spec_fields.SpecFields.{SpecFields}
use Rattle.key_device.specs.declared.point.Point.{Point}
use Rattle.mso_digests.specs.MadeFrom.{Placed}
use Rattle.mso_digests.specs.Written.{Draft, Entry, object_bytes}
use Rattle.sha2.specs.Sha256.{sha256}
use Rattle.issuing.specs.declared.issued_item.IssuedItem.{IssuedItem}

-- ---- the items

-- how many elements are of a namespace
abbrev pub count_in_namespace : List ℕ → List SpecElement → ℕ
count_in_namespace ns elements = length (filter (λ (e : SpecElement). bytes_eq e.ns ns) elements)

-- what the item of an element says that has these others before it: digest identifiers are 0, 1, 2 and so on within a
-- namespace
abbrev pub item_of : List SpecElement → SpecElement → List ℕ → Item
item_of before e salt = record { digest_id = count_in_namespace e.ns before; random = salt; name = e.name; value = e.value }

abbrev pub issued_item : List SpecElement → SpecElement → List ℕ → IssuedItem
issued_item before e salt = record { ns = e.ns; number = count_in_namespace e.ns before; raw = item_bytes (item_of before e salt) }

-- those of elements with these others before them, each with its salt
abbrev pub items_after : List SpecElement → List SpecElement → List (List ℕ) → List IssuedItem
items_after before (e ∷ es) (salt ∷ salts) = issued_item before e salt ∷ items_after (before ++ e ∷ []) es salts
items_after before es salts = []

abbrev pub items_of : List SpecElement → List (List ℕ) → List IssuedItem
items_of elements salts = items_after [] elements salts

-- the bytes of each with its namespace
abbrev pub placed_of : IssuedItem → Placed
placed_of i = (i.ns, i.raw)

abbrev pub raw_items : List IssuedItem → List Placed
raw_items items = map placed_of items

-- ---- the object

-- the digest of an item is taken over its bytes, tag and head included
abbrev pub entry_of : IssuedItem → Entry
entry_of i = (i.ns, i.number, sha256 i.raw)

abbrev pub entries_of : List IssuedItem → List Entry
entries_of items = map entry_of items

-- what the object of a copy says, by the copy's device key and the salts of its items
abbrev pub object_draft : SpecFields → Point → List (List ℕ) → Draft
object_draft fields key salts = record {
  doc_type = fields.doc_type;
  digests = entries_of (items_of fields.elements salts);
  device_key = key;
  signed = fields.signed;
  from = fields.from;
  until = fields.until;
  update = fields.update;
}

-- the payload of the issuer's signature
abbrev pub payload : SpecFields → Point → List (List ℕ) → List ℕ
payload fields key salts = object_bytes (object_draft fields key salts)
