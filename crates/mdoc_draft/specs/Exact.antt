-- What an answer holds, exactly (ISO/IEC 18013-5, 8.3.2.1.2.2): only items that are released and names of refused wishes, and each of these once.
use Rattle.std.specs.Prelude.{◌≡◌, ℕ, List, [], ◌∷◌, filter, Bool, true, Option, Some, All, Contains}
use Rattle.std.specs.Str.{bytes_eq}
use Rattle.doc_store.specs.Held.{held}
use Rattle.doc_store.specs.Store.{Copy, Store}
use Rattle.consent.specs.Rules.{approved}
use Rattle.consent.specs.Wish.{Wanted}
use Rattle.consent.specs.declared.rule.Rule.{Rule}
use Rattle.doc_request.specs.Draft.{are_distinct}
use Rattle.doc_request.specs.declared.doc_draft.DocDraft.{DocDraft}
use Rattle.doc_response.specs.Answered.{grouped}
use Rattle.doc_response.specs.Namespaces.{count_of_text}
use Rattle.mdoc_draft.specs.Core.{answered}
use Rattle.mdoc_draft.specs.Released.{wishes_in, shown_copy}

-- A stored item is released for a wish: the wish is one of those asked, the rules allow it, and the copy that the
-- store shows holds the item under the wish's namespace and name.
pub record IsReleasedFor (rules : List Rule) (reader : Option (List ℕ)) (documents : Store) (asked : DocDraft) (wish : Wanted) (raw : List ℕ) : Type 0 where
  pub wished : Contains (wishes_in asked) wish
  pub allowed : approved rules reader wish ≡ true
  pub copy : Copy
  pub shown : shown_copy documents asked.doc_type ≡ Some copy
  pub there : held copy wish.ns wish.name ≡ Some raw

-- A wish is refused: it is one of those asked, and no item is released for it, whether the rules deny it or it isn't held.
pub record IsRefused (rules : List Rule) (reader : Option (List ℕ)) (documents : Store) (asked : DocDraft) (wish : Wanted) : Type 0 where
  pub wished : Contains (wishes_in asked) wish
  pub nothing : (raw : List ℕ) → IsReleasedFor rules reader documents asked wish raw → ⊥

-- An item is released under a namespace: for some wish of that namespace.
pub record IsReleased (rules : List Rule) (reader : Option (List ℕ)) (documents : Store) (asked : DocDraft) (ns raw : List ℕ) : Type 0 where
  pub wish : Wanted
  pub same_ns : wish.ns ≡ ns
  pub for_wish : IsReleasedFor rules reader documents asked wish raw

-- A name is missing under a namespace: some refused wish is for it.
pub record IsMissing (rules : List Rule) (reader : Option (List ℕ)) (documents : Store) (asked : DocDraft) (ns name : List ℕ) : Type 0 where
  pub wish : Wanted
  pub same_ns : wish.ns ≡ ns
  pub same_name : wish.name ≡ name
  pub of_wish : IsRefused rules reader documents asked wish

-- the items of an answer by namespace, as they are written
abbrev pub items_written : List Rule → Option (List ℕ) → Store → DocDraft → List (List ℕ × List (List ℕ))
items_written rules reader documents asked = grouped (answered rules reader documents asked).items

-- The names of the elements that aren't returned, likewise. They are written beside released items; a document with
-- none is answered with an error for its type.
abbrev pub names_written : List Rule → Option (List ℕ) → Store → DocDraft → List (List ℕ × List (List ℕ))
names_written rules reader documents asked = grouped (answered rules reader documents asked).missing

-- whether a group is the one of a namespace
abbrev pub is_of_namespace : List ℕ → List ℕ × List (List ℕ) → Bool
is_of_namespace ns group = bytes_eq group.0 ns

-- A text stands once under a namespace: exactly one group is of that namespace, and in that group it stands once.
pub record StandsOnce (groups : List (List ℕ × List (List ℕ))) (ns text : List ℕ) : Type 0 where
  pub texts : List (List ℕ)
  pub one_group : filter (is_of_namespace ns) groups ≡ (ns, texts) ∷ []
  pub one_place : count_of_text text texts ≡ 1

-- Each item that is written is released, under the namespace that it is written under.
abbrev pub OnlyReleased : Type 0
OnlyReleased = (rules : List Rule) (reader : Option (List ℕ)) (documents : Store) (asked : DocDraft) →
    All (λ group. All (λ raw. IsReleased rules reader documents asked group.0 raw) group.1) (items_written rules reader documents asked)

-- Each item that is released for a wish is written once, where no two wishes are for one element (as in each request).
abbrev pub EachReleasedOnce : Type 0
EachReleasedOnce = (rules : List Rule) (reader : Option (List ℕ)) (documents : Store) (asked : DocDraft) (wish : Wanted) (raw : List ℕ) →
    are_distinct asked.wishes ≡ true → IsReleasedFor rules reader documents asked wish raw →
    StandsOnce (items_written rules reader documents asked) wish.ns raw

-- Each name that is written is missing, under the namespace that it is written under.
abbrev pub OnlyMissing : Type 0
OnlyMissing = (rules : List Rule) (reader : Option (List ℕ)) (documents : Store) (asked : DocDraft) →
    All (λ group. All (λ name. IsMissing rules reader documents asked group.0 name) group.1) (names_written rules reader documents asked)

-- The name of each refused wish is written once, where no two wishes are for one element.
abbrev pub EachMissingOnce : Type 0
EachMissingOnce = (rules : List Rule) (reader : Option (List ℕ)) (documents : Store) (asked : DocDraft) (wish : Wanted) →
    are_distinct asked.wishes ≡ true → IsRefused rules reader documents asked wish →
    StandsOnce (names_written rules reader documents asked) wish.ns wish.name
