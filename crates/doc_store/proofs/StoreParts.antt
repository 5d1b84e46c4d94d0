-- The documents of a store by its file, and the one of a type.
use Rattle.std.proofs.Common.{◌≡◌, ℕ, ◌<◌, Bool, true, false, cond, List, [], length, map, Option, Some, None, Result, Ok, Err, refl, sym, ap, ◌∙◌, arith}
use Rattle.std.specs.Prelude.{is_some, unwrap_or, slice_get, nat_lt}
use Rattle.std.specs.List.{position_or_len}
use Rattle.std.proofs.lemmas.List.Folds.{find_at}
use Rattle.std.proofs.lemmas.Option.{slice_get_within, slice_get-get_or}
use Rattle.std.proofs.lemmas.Bool.Decides.{nat_tests}
use Rattle.cbor_view.specs.declared.cbor_fault.CborFault.{CborFault}
use Rattle.cbor_view.specs.Parts.{Part, cbor}
use Rattle.mdoc_outside.specs.OptionSteps.{◌>>=◌, where_true, each}
use Rattle.doc_store.specs.Fields.{are_distinct}
use Rattle.doc_store.specs.DocumentFields.{version_in, documents_in}
use Rattle.doc_store.specs.Document.{no_document}
use Rattle.doc_store.specs.Held.{is_of_type, document_found, document_place, IsAt}
use Rattle.doc_store.specs.Item.{if_spelled}
use Rattle.doc_store.specs.Store.{Document, Store, document, store}

abbrev doc_types : Store → List (List ℕ)
doc_types documents = map (λ (d : Document). d.doc_type) documents

-- a store by the parts of its file
abbrev store_by : Option ℕ → Option Store → Option Store
store_by version documents = version >>= λ v. documents >>= λ ds. where_true (are_distinct (doc_types ds)) ds

store_by-some : (version : Option ℕ) (documents : Option Store) → is_some (store_by version documents) ≡ true → documents ≡ Some (unwrap_or (store_by version documents) [])
store_by-some None documents e = cc
store_by-some (Some v) None e = cc
store_by-some (Some v) (Some ds) e = by_test (are_distinct (doc_types ds)) e where
  by_test : (d : Bool) → is_some (where_true d ds) ≡ true → Some ds ≡ Some (unwrap_or (where_true d ds) [])
  by_test false e = cc
  by_test true e = refl

-- the documents of a store are those of its file
pub store_documents : (bytes : List ℕ) (file : Part) → cbor bytes ≡ Ok file → is_some (store bytes) ≡ true →
    (documents_in file >>= each document) ≡ Some (unwrap_or (store bytes) [])
unfolding store
store_documents bytes file read is = go (cbor bytes) read is where
  go : (o : Result Part CborFault) → o ≡ Ok file →
      is_some (if_spelled o >>= λ f. store_by (version_in f) (documents_in f >>= each document)) ≡ true →
      (documents_in file >>= each document) ≡ Some (unwrap_or (if_spelled o >>= λ f. store_by (version_in f) (documents_in f >>= each document)) [])
  go (Err fault) read e = cc
  go (Ok f) read e =
      let same : f ≡ file = cc in
      ap (λ (p : Part). documents_in p >>= each document) (sym same) ∙ store_by-some (version_in f) (documents_in f >>= each document) e

pub store_spelled : (bytes : List ℕ) (fault : CborFault) → cbor bytes ≡ Err fault → is_some (store bytes) ≡ true → ⊥
unfolding store
store_spelled bytes fault read is = go (cbor bytes) read is where
  go : (o : Result Part CborFault) → o ≡ Err fault → is_some (if_spelled o >>= λ f. store_by (version_in f) (documents_in f >>= each document)) ≡ true → ⊥
  go (Err f) read e = cc
  go (Ok f) read e = cc

-- bytes that spell a store spell its documents
pub store_given : (spelled : Option Store) → is_some spelled ≡ true → spelled ≡ Some (unwrap_or spelled [])
store_given None e = cc
store_given (Some documents) e = refl

-- ---- the document of a type

abbrev first : List ℕ → Store → ℕ
first doc_type documents = position_or_len (is_of_type doc_type) documents

-- where none is found there is no place
pub found_none : (documents : Store) (doc_type : List ℕ) → document_found documents doc_type ≡ None → document_place documents doc_type ≡ None
found_none documents doc_type missing = go (nat_lt (first doc_type documents) (length documents)) refl where
  go : (b : Bool) → nat_lt (first doc_type documents) (length documents) ≡ b → cond b (Some (first doc_type documents)) None ≡ None
  go false e = refl
  go true e =
      let within : first doc_type documents < length documents = grind (arith, nat_tests) in
      let at : slice_get documents (first doc_type documents) ≡ Some _ = slice_get-get_or documents (first doc_type documents) no_document within in
      let none : slice_get documents (first doc_type documents) ≡ None = sym (find_at (is_of_type doc_type) documents) ∙ missing in
      cc

-- where one is found it stands at its place
pub found_some : (documents : Store) (doc_type : List ℕ) (d : Document) → document_found documents doc_type ≡ Some d → IsAt documents doc_type d
found_some documents doc_type d found =
    let at : slice_get documents (first doc_type documents) ≡ Some d = sym (find_at (is_of_type doc_type) documents) ∙ found in
    let within : first doc_type documents < length documents = slice_get_within documents (first doc_type documents) d at in
    let test : nat_lt (first doc_type documents) (length documents) ≡ true = grind (arith, nat_tests) in
    record { at = first doc_type documents; place = rw test refl; there = at }
