-- That each document of a request, and each element of it, is read (ISO/IEC 18013-5, 8.3.2.1.2.1).
use Rattle.std.specs.Prelude.{◌≡◌, ℕ, List, map, Option, Some}
use Rattle.std.specs.List.{AllByRecursion}
use Rattle.std.specs.Result.{result_ok}
use Rattle.mdoc_outside.specs.declared.key_name.KeyName.TheVariants as keys
use Rattle.mdoc_outside.specs.OptionSteps.{◌>>=◌}
use Rattle.cbor_view.specs.Parts.{Part, cbor, text_in}
use Rattle.cbor_maps.specs.Reading.{encoded_in, field, map_in}
use Rattle.doc_request.specs.Asked.{Document, document, documents, requests_in}
use Rattle.doc_request.specs.Spaces.{element, elements, entries, in_space}

-- each entry of a namespace is read as an element, in the order of the bytes
pub record IsSpaceRead (space : Part × Part) : Type 0 where
  pub ns : List ℕ
  pub named : text_in space.0 ≡ Some ns
  pub each : map (element ns) (entries space.1) ≡ map (λ wish. Some wish) (in_space space)

-- the namespaces of a document's request
abbrev pub spaces_in : Part → Option (List (Part × Part))
spaces_in request = do
  inside ← result_ok (field keys.ItemsRequest encoded_in request)
  items ← result_ok (cbor inside)
  spaces ← result_ok (field keys.NameSpaces map_in items)
  Some (entries spaces)

-- a request is read as a document, whose wishes are the elements of its namespaces
pub record IsRead (request : Part) : Type 0 where
  pub read : Document
  pub is : document request ≡ Some read
  pub spaces : List (Part × Part)
  pub spaces_are : spaces_in request ≡ Some spaces
  pub wishes : read.wishes ≡ elements spaces
  pub each : AllByRecursion IsSpaceRead spaces

-- Each document is read, in the order of the bytes, and with all its elements.
pub record IsOpened (item : Part) : Type 0 where
  pub documents_are : map document (requests_in item) ≡ map (λ asked. Some asked) (documents (requests_in item))
  pub each : AllByRecursion IsRead (requests_in item)
