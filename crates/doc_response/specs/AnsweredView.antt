-- What contracts see of items and elements that are borrowed.
use Rattle.std.specs.Prelude.{ℕ, List}
use Rattle.std.specs.Borrow.{Bor}
use Rattle.doc_response.specs.declared.released_item.ReleasedItem.{ReleasedItem}
use Rattle.doc_response.specs.declared.missing_element.MissingElement.{MissingElement}

abbrev pub item_seen : ReleasedItem → List ℕ × List ℕ
item_seen item = (item.ns.now, item.raw.now)

abbrev pub element_seen : MissingElement → List ℕ × List ℕ
element_seen element = (element.ns.now, element.name.now)

-- a borrowed text
abbrev pub text_seen : Bor (List ℕ) → List ℕ
text_seen text = text.now
