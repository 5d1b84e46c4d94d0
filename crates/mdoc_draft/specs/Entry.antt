-- The entries of the core's maps.
use Rattle.std.specs.Prelude.{ℕ, List, [], ◌∷◌, map, filter, not, codes}
use Rattle.cbor_view.specs.Shortest.{text_bytes, array_bytes}
use Rattle.doc_response.specs.Answered.{Answered, document_error, is_empty, items_map}
use Rattle.mdoc_draft.specs.Core.{optional, document_bytes}

-- the entries of a document's type and of its released items
abbrev pub given_entries : Answered → List (List ℕ × List ℕ)
given_entries document =
    (text_bytes (codes "docType"), text_bytes document.doc_type)
    ∷ (text_bytes (codes "nameSpaces"), items_map document.items) ∷ []

-- the documents of which something is released, and those of which nothing is
abbrev pub given_of : List Answered → List Answered
given_of documents = filter (λ (document : Answered). not (is_empty document)) documents

abbrev pub refused_of : List Answered → List Answered
refused_of documents = filter is_empty documents

abbrev pub refused_document : Answered → List ℕ
refused_document document = document_error document.doc_type

-- their entries
abbrev pub documents_entry : List Answered → List (List ℕ × List ℕ)
documents_entry documents = optional (codes "documents") (given_of documents) (array_bytes (map document_bytes (given_of documents)))

abbrev pub document_errors_entry : List Answered → List (List ℕ × List ℕ)
document_errors_entry documents =
    optional (codes "documentErrors") (refused_of documents) (array_bytes (map refused_document (refused_of documents)))
