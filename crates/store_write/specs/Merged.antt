-- A package that is merged into a store: a document of the package takes the place of the store's document of its type, or
-- goes last.
use Rattle.std.specs.Prelude.{ℕ, List, [], ◌++◌, map, filter, Bool, is_none, unwrap_or}
use Rattle.doc_store.specs.Held.{document_found}
use Rattle.doc_store.specs.Store.{Document, Store, store}

-- the package's document of a type, or else the store's own
abbrev pub newest : Store → Document → Document
newest received own = unwrap_or (document_found received own.doc_type) own

-- whether a store has no document of the type
abbrev pub is_new : Store → Document → Bool
is_new own document = is_none (document_found own document.doc_type)

unfoldable pub merged : Store → Store → Store
merged own received = map (newest received) own ++ filter (is_new own) received

-- the documents that a file spells
abbrev pub documents_of : List ℕ → Store
documents_of bytes = unwrap_or (store bytes) []

-- the merged store of two files
abbrev pub merged_files : List ℕ → List ℕ → Store
merged_files own received = merged (documents_of own) (documents_of received)
