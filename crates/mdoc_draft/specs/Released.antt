-- What the holder's rules release of a store for a reader's wishes (ISO/IEC 18013-5, 8.3.2.1.2.2).
use Rattle.std.specs.Prelude.{ℕ, List, map, filter_map, flat_map, Option, Some, None, slice_get, if◌then◌else◌}
use Rattle.doc_store.specs.Store.{Copy, Store}
use Rattle.doc_store.specs.Held.{held, document_place, chosen, Place, place_of, item_at}
use Rattle.mdoc_outside.specs.OptionSteps.{◌>>=◌}
use Rattle.consent.specs.Rules.{approved}
use Rattle.consent.specs.Wish.{Wanted}
use Rattle.consent.specs.declared.rule.Rule.{Rule}
use Rattle.doc_request.specs.declared.doc_draft.DocDraft.{DocDraft}
use Rattle.doc_request.specs.declared.wish_draft.WishDraft.{WishDraft}

abbrev pub wanted_of : List ℕ → WishDraft → Wanted
wanted_of doc_type wish = record { doc_type = doc_type; ns = wish.ns; name = wish.name; retain = wish.retain }

-- The wishes of a document that is asked for, in the order asked.
abbrev pub wishes_in : DocDraft → List Wanted
wishes_in asked = map (wanted_of asked.doc_type) asked.wishes

-- The copy of a document type that a store shows, if it has a document of that type.
abbrev pub shown_copy : Store → List ℕ → Option Copy
shown_copy documents doc_type = do
  at ← document_place documents doc_type
  document ← slice_get documents at
  slice_get document.copies (chosen document)

-- The stored item that answers a wish: the rules allow the wish and the copy holds the item.
abbrev pub answer : List Rule → Option (List ℕ) → Option Copy → Wanted → Option (List ℕ)
answer rules reader copy wish = if approved rules reader wish then (copy >>= λ shown. held shown wish.ns wish.name) else None

-- The released items, in the order asked.
abbrev pub released : List Rule → Option (List ℕ) → Option Copy → List Wanted → List (List ℕ)
released rules reader copy wishes = filter_map (answer rules reader copy) wishes

-- The place of the item that answers a wish.
abbrev pub released_place : List Rule → Option (List ℕ) → Store → Wanted → Option Place
released_place rules reader documents wish = do
  place ← place_of documents wish.doc_type wish.ns wish.name
  raw ← if approved rules reader wish then item_at documents place else None
  Some place

-- The places of all released items of the documents that are asked for.
abbrev pub released_places : List Rule → Option (List ℕ) → Store → List DocDraft → List Place
released_places rules reader documents asked = filter_map (released_place rules reader documents) (flat_map wishes_in asked)
