-- The items of a copy by their namespaces, as they are written one after the other.
use Rattle.std.specs.Prelude.{ℕ, ◌+◌, if◌then◌else◌, List, [], flat_map}
use Rattle.std.specs.Str.{bytes_eq}
use Rattle.doc_response.specs.Answered.{of_namespace}
use Rattle.issuing.specs.IssuedItems.{raw_items}
use Rattle.issuing.specs.declared.issued_item.IssuedItem.{IssuedItem}
use Rattle.issuer_items.specs.WrittenItem.{item_bytes}
use Rattle.issue_spec.specs.declared.spec_element.SpecElement.{SpecElement}

abbrev pub ns_of : SpecElement → List ℕ
ns_of e = e.ns

-- the items of a namespace
abbrev pub namespace_bytes : List ℕ → List IssuedItem → List ℕ
namespace_bytes ns items = flat_map (λ part. part) (of_namespace (raw_items items) ns).1

-- the item of an element with that digest identifier, where it is of the namespace
abbrev pub element_bytes : List ℕ → ℕ → SpecElement → List ℕ → List ℕ
element_bytes ns number e salt =
    if bytes_eq e.ns ns then item_bytes (record { digest_id = number; random = salt; name = e.name; value = e.value }) else []

-- the digest identifier of the next one
abbrev pub next_number : List ℕ → ℕ → SpecElement → ℕ
next_number ns number e = if bytes_eq e.ns ns then number + 1 else number
