-- The parts of a response whose keys are given by what is answered (ISO/IEC 18013-5, 8.3.2.1.2.2): namespaces, element
-- identifiers and document types are texts, error codes are integers. A namespace or a type may be there twice.
use Rattle.std.specs.Prelude.{ℕ, List, Bool, is_some, Option, Some, None, Result, Ok, Err, option_map}
use Rattle.mdoc_outside.specs.OptionSteps.{◌>>=◌, each}
use Rattle.cbor_view.specs.declared.cbor_fault.CborFault.{CborFault}
use Rattle.cbor_view.specs.Parts.{Part, tree_in, text_in, items_in, pairs_in}
use Rattle.cbor_view.specs.Tree.{int_of}

-- a namespace with its items, which may have any form
abbrev pub namespace : Part × Part → Option (List ℕ × List Part)
namespace entry = do
  name ← text_in entry.0
  items ← items_in entry.1
  Some (name, items)

abbrev pub namespaces_in : Part → Option (List (List ℕ × List Part))
namespaces_in value = pairs_in value >>= each namespace

-- an error: what it is of, and its code
abbrev pub error_of : Part × Part → Option (List ℕ × Part)
error_of entry = do
  name ← text_in entry.0
  code ← int_of (tree_in entry.1)
  Some (name, entry.1)

abbrev pub errors_in : Part → Option (List (List ℕ × Part))
errors_in value = pairs_in value >>= each error_of

-- the errors of a document's elements: a namespace with the identifiers and their codes
abbrev pub namespace_errors : Part × Part → Option (List ℕ × List (List ℕ × Part))
namespace_errors entry = do
  name ← text_in entry.0
  errors ← errors_in entry.1
  Some (name, errors)

abbrev pub are_element_errors : Part → Bool
are_element_errors value = is_some (pairs_in value >>= each namespace_errors)

-- the errors of documents: maps of document types to codes
abbrev pub document_errors_in : Part → Option (List (List (List ℕ × Part)))
document_errors_in value = items_in value >>= each errors_in

-- bytes that spell one map
abbrev pub if_map : List ℕ → Result Part CborFault → Option (List ℕ)
if_map bytes (Ok item) = option_map (λ entries. bytes) (pairs_in item)
if_map bytes (Err fault) = None
