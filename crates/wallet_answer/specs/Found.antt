-- What contracts see of the items of a copy by their names.
use Rattle.std.specs.Prelude.{◌≡◌, ℕ, List, Option, Some, None, option_map}
use Rattle.std.specs.Borrow.{Bor}
use Rattle.std.specs.BTreeMap.{BTreeMap, get_by}
use Rattle.std.specs.Cmp.Lexicographic.{slice_cmp}
use Rattle.std.specs.Ordering.{nat_cmp}
use Rattle.mdoc_outside.specs.Borrowed.{content}
use Rattle.doc_store.specs.Held.{held}
use Rattle.doc_store.specs.Store.{Copy}
use Rattle.wallet_answer.specs.declared.held_items.HeldItems.{HeldItems}

-- the item of that name
abbrev pub named_item : BTreeMap (Bor (List ℕ)) (Bor (List ℕ)) → List ℕ → Option (List ℕ)
named_item items name = option_map content (get_by (λ own. slice_cmp nat_cmp name own.now) items)

abbrev pub named_in : Option (BTreeMap (Bor (List ℕ)) (Bor (List ℕ))) → List ℕ → Option (List ℕ)
named_in None name = None
named_in (Some items) name = named_item items name

-- the item of that namespace and name
abbrev pub found_item : HeldItems → List ℕ → List ℕ → Option (List ℕ)
found_item items ns name = named_in (get_by (λ own. slice_cmp nat_cmp ns own.now) items.namespaces) name

-- What is found of a namespace and a name is what a copy holds of them.
abbrev pub AreItemsOf : HeldItems → Copy → Type 0
AreItemsOf items copy = (ns name : List ℕ) → found_item items ns name ≡ held copy ns name
