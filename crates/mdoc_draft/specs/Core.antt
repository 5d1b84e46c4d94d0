-- The core of a response (ISO/IEC 18013-5, 8.3.2.1.2.2): what a DeviceResponse says of the elements asked for, without signatures.
use Rattle.std.specs.Prelude.{ℕ, List, [], ◌∷◌, ◌++◌, map, filter, filter_map, Bool, not, Option, is_none, option_map, codes}
use Rattle.cbor_view.specs.Shortest.{text_bytes, array_bytes, map_bytes}
use Rattle.doc_response.specs.Answered.{Answered, document_error, errors_map, is_empty, items_map}
use Rattle.doc_store.specs.Store.{Copy, Store}
use Rattle.consent.specs.Wish.{Wanted}
use Rattle.consent.specs.declared.rule.Rule.{Rule}
use Rattle.doc_request.specs.declared.doc_draft.DocDraft.{DocDraft}
use Rattle.mdoc_draft.specs.Released.{wishes_in, shown_copy, answer}

-- A document that is asked for is answered with the released items, each with its namespace, and the wishes that aren't
-- released, each by namespace and name. A denied wish and one that isn't held are alike.
abbrev pub with_namespace : Wanted → List ℕ → List ℕ × List ℕ
with_namespace wish raw = (wish.ns, raw)

abbrev pub item_given : List Rule → Option (List ℕ) → Option Copy → Wanted → Option (List ℕ × List ℕ)
item_given rules reader copy wish = option_map (with_namespace wish) (answer rules reader copy wish)

abbrev pub is_missing : List Rule → Option (List ℕ) → Option Copy → Wanted → Bool
is_missing rules reader copy wish = is_none (answer rules reader copy wish)

abbrev pub full_name : Wanted → List ℕ × List ℕ
full_name wish = (wish.ns, wish.name)

abbrev pub answered_with : List Rule → Option (List ℕ) → Option Copy → DocDraft → Answered
answered_with rules reader copy asked = record {
  doc_type = asked.doc_type;
  items = filter_map (item_given rules reader copy) (wishes_in asked);
  missing = map full_name (filter (is_missing rules reader copy) (wishes_in asked));
}

abbrev pub answered : List Rule → Option (List ℕ) → Store → DocDraft → Answered
answered rules reader documents asked = answered_with rules reader (shown_copy documents asked.doc_type) asked

-- a key and its value, where there is something in it
abbrev pub optional : {A : Type 0} → List ℕ → List A → List ℕ → List (List ℕ × List ℕ)
optional key [] value = []
optional key (x ∷ xs) value = (text_bytes key, value) ∷ []

-- a document of which something is released
unfoldable pub document_bytes : Answered → List ℕ
document_bytes document = map_bytes (
    (text_bytes (codes "docType"), text_bytes document.doc_type)
    ∷ ((text_bytes (codes "nameSpaces"), items_map document.items)
    ∷ optional (codes "errors") document.missing (errors_map document.missing)))

-- The core: the documents with a released item, in the order asked, then an error for each other, in the order asked.
unfoldable pub core_bytes : List Answered → List ℕ
core_bytes documents =
    let given = filter (λ (document : Answered). not (is_empty document)) documents in
    let refused = filter is_empty documents in
    map_bytes (optional (codes "documents") given (array_bytes (map document_bytes given))
    ++ optional (codes "documentErrors") refused (array_bytes (map (λ (document : Answered). document_error document.doc_type) refused)))

-- The core of what a store's rules release to a reader of the documents that it asks for.
abbrev pub core : List Rule → Option (List ℕ) → Store → List DocDraft → List ℕ
core rules reader documents asked = core_bytes (map (answered rules reader documents) asked)
