-- What contracts see of a store that was read.
use Rattle.std.specs.Prelude.{◌≡◌, ℕ, List, [], Some, None, Result, Ok, Err, unwrap_or}
use Rattle.cbor_view.specs.Parts.{Part}
use Rattle.doc_store.specs.declared.store.Store as read
use Rattle.doc_store.specs.declared.store_fault.StoreFault.{StoreFault}
use Rattle.doc_store.specs.declared.store_file.StoreFile.{StoreFile}
use Rattle.doc_store.specs.Refusals.{IsFault}
use Rattle.doc_store.specs.Faults.{store_fault}
use Rattle.doc_store.specs.Store.{Store, store}

-- the documents that its bytes spell
abbrev pub documents_in : read.Store → Store
documents_in s = unwrap_or (store s.bytes.now) []

-- the file, as one part
abbrev pub whole_file : read.Store → Part
whole_file s = record { at = 0; bytes = s.bytes.now }

-- What a reading answers: the store that the bytes spell, which have no fault, else their first fault.
abbrev pub ReadsStore : Result read.Store StoreFault → List ℕ → Type 0
ReadsStore (Ok s) bytes = (store bytes ≡ Some (documents_in s)) × (store_fault bytes ≡ None)
ReadsStore (Err f) bytes = IsFault f bytes

-- the bytes of a file, and the documents that they spell
abbrev pub bytes_of_file : StoreFile → List ℕ
bytes_of_file f = f.bytes

abbrev pub documents_of_file : StoreFile → Store
documents_of_file f = unwrap_or (store (bytes_of_file f)) []

-- The same of a file, which keeps the bytes.
abbrev pub ReadsStoreFile : Result StoreFile StoreFault → List ℕ → Type 0
ReadsStoreFile (Ok f) bytes = (bytes_of_file f ≡ bytes) × (store bytes ≡ Some (documents_of_file f)) × (store_fault bytes ≡ None)
ReadsStoreFile (Err fault) bytes = IsFault fault bytes
