-- The items that stand in the core and the released places, one by one; how much agreement asks of two stores.
use Rattle.std.specs.Prelude.{◌≡◌, ℕ, List, map, flat_map, Option, Some, ◌↔◌}
use Rattle.doc_store.specs.Agreement.{Agree, outline}
use Rattle.doc_store.specs.Held.{item_at}
use Rattle.doc_store.specs.Store.{Store}
use Rattle.consent.specs.declared.rule.Rule.{Rule}
use Rattle.doc_request.specs.declared.doc_draft.DocDraft.{DocDraft}
use Rattle.doc_response.specs.Answered.{Answered}
use Rattle.mdoc_draft.specs.Core.{answered}
use Rattle.mdoc_draft.specs.Released.{wishes_in, shown_copy, released, released_places}

abbrev pub items_in : Answered → List (List ℕ)
items_in document = map (λ (pair : List ℕ × List ℕ). pair.1) document.items

-- the items that stand in the core, document after document
abbrev pub core_items : List Rule → Option (List ℕ) → Store → List DocDraft → List (List ℕ)
core_items rules reader documents asked = flat_map items_in (map (answered rules reader documents) asked)

-- the released items of a document that is asked for
abbrev pub released_of : List Rule → Option (List ℕ) → Store → DocDraft → List (List ℕ)
released_of rules reader documents asked = released rules reader (shown_copy documents asked.doc_type) (wishes_in asked)

-- The law that the items of the core are the released ones.
abbrev pub CoreIsReleased : Type 0
CoreIsReleased = (rules : List Rule) (reader : Option (List ℕ)) (documents : Store) (asked : List DocDraft) →
    core_items rules reader documents asked ≡ flat_map (released_of rules reader documents) asked

-- The law that the released places are those of these items, each at its place, and no others.
abbrev pub PlacesAreOfCore : Type 0
PlacesAreOfCore = (rules : List Rule) (reader : Option (List ℕ)) (documents : Store) (asked : List DocDraft) →
    map (item_at documents) (released_places rules reader documents asked) ≡ map Some (core_items rules reader documents asked)

-- The law that agreement is as weak as it can be: stores of equal outlines agree up to the released places exactly where
-- their cores have equal items.
abbrev pub AgreementIsLeast : Type 0
AgreementIsLeast = (rules : List Rule) (reader : Option (List ℕ)) (one other : Store) (asked : List DocDraft) → map outline one ≡ map outline other →
    Agree one other (released_places rules reader one asked) ↔ (core_items rules reader one asked ≡ core_items rules reader other asked)
