-- What a reader asks for (DeviceRequest; ISO/IEC 18013-5, 8.3.2.1.2.1): the documents of a request, in the order of its
-- bytes, or the first check that fails.
use Rattle.std.specs.Prelude.{ℕ, ◌+◌, ◌==◌, ◌&&◌, Bool, false, List, [], ◌∷◌, ◌++◌, map, filter_map, Option, Some, None, Result, Ok, Err, unwrap_or}
use Rattle.std.specs.Result.{result_ok}
use Rattle.mdoc_outside.specs.declared.key_name.KeyName.TheVariants as keys
use Rattle.mdoc_outside.specs.OptionSteps.{◌>>=◌, unless}
use Rattle.cbor_view.specs.declared.cbor_fault.CborFault.{CborFault}
use Rattle.cbor_view.specs.Parts.{Part, cbor, items_in, text_in}
use Rattle.cbor_maps.specs.declared.map_fault.MapFault.{MapFault}
use Rattle.cbor_maps.specs.Reading.{field, optional_field, any_in, map_in, encoded_in}
use Rattle.consent.specs.Wish.{Wanted}
use Rattle.doc_request.specs.declared.request_fault.RequestFault.{RequestFault}
use Rattle.doc_request.specs.declared.request_fault.RequestFault.TheVariants.{Version, Inner, Count}
use Rattle.doc_request.specs.declared.wish_draft.WishDraft.{WishDraft}
use Rattle.doc_request.specs.Checks.{earlier, of_field}
use Rattle.doc_request.specs.Spaces.{entries, elements, spaces_fault, is_count}

-- A document that is asked for: its type, the items request as it was received, with its tag, the reader's
-- authentication, where there is one, and the elements in the order of the bytes.
pub record Document : Type 0 where
  pub doc_type : List ℕ
  pub items : List ℕ
  pub reader_auth : Option Part
  pub wishes : List WishDraft

-- what is under a key that may be missing
abbrev pub found_part : Result (Option Part) MapFault → Option Part
found_part (Ok found) = found
found_part (Err fault) = None

-- the map ItemsRequest, whose tagged bytes these are
abbrev pub of_items_request : List ℕ → Option Part → Part → Option Document
of_items_request tagged reader_auth request = do
  doc_type ← result_ok (field keys.DocType text_in request)
  spaces ← result_ok (field keys.NameSpaces map_in request)
  Some (record { doc_type = doc_type; items = tagged; reader_auth = reader_auth; wishes = elements (entries spaces) })

-- the map DocRequest, whose items request is encoded CBOR
abbrev pub document : Part → Option Document
document request = do
  tagged ← result_ok (field keys.ItemsRequest any_in request)
  inside ← encoded_in tagged
  items ← result_ok (cbor inside)
  of_items_request tagged.bytes (found_part (optional_field keys.ReaderAuth any_in request)) items

-- what is wrong with an items request
abbrev pub of_spaces : Result Part MapFault → Option RequestFault
of_spaces (Ok spaces) = spaces_fault (entries spaces)
of_spaces (Err fault) = None

abbrev pub items_fault : Part → Option RequestFault
items_fault request =
    earlier (of_field (field keys.DocType text_in request))
    (earlier (of_field (field keys.NameSpaces map_in request))
    (earlier (of_field (optional_field keys.RequestInfo any_in request))
    (of_spaces (field keys.NameSpaces map_in request))))

-- what is wrong with the item that its bytes spell
abbrev pub of_cbor : Result Part CborFault → Option RequestFault
of_cbor (Ok request) = items_fault request
of_cbor (Err fault) = Some (Inner fault)

abbrev pub of_encoded : Result (List ℕ) MapFault → Option RequestFault
of_encoded (Ok inside) = of_cbor (cbor inside)
of_encoded (Err fault) = None

-- what is wrong with a document's request
abbrev pub document_fault : Part → Option RequestFault
document_fault request =
    earlier (of_field (field keys.ItemsRequest encoded_in request))
    (earlier (of_field (optional_field keys.ReaderAuth any_in request))
    (of_encoded (field keys.ItemsRequest encoded_in request)))

-- what is wrong with one of them
abbrev pub first_fault : List Part → Option RequestFault
first_fault [] = None
first_fault (request ∷ requests) = earlier (document_fault request) (first_fault requests)

abbrev pub of_documents : Result (List Part) MapFault → Option RequestFault
of_documents (Ok requests) = earlier (unless (is_count 16 requests) Count) (first_fault requests)
of_documents (Err fault) = None

-- a version that begins with `1.`
abbrev pub is_version : List ℕ → Bool
is_version (major ∷ (point ∷ minor)) = major == 49 && point == 46
is_version text = false

abbrev pub of_version : Result (List ℕ) MapFault → Option RequestFault
of_version (Ok version) = unless (is_version version) Version
of_version (Err fault) = None

-- What is wrong with a request, if something is: the first of the checks that fails, and of one check the first
-- place.
abbrev pub request_fault : Part → Option RequestFault
request_fault item =
    earlier (of_field (field keys.Version text_in item))
    (earlier (of_field (field keys.DocRequests items_in item))
    (earlier (of_version (field keys.Version text_in item))
    (of_documents (field keys.DocRequests items_in item))))

-- the documents of a request with which nothing is wrong
abbrev pub documents : List Part → List Document
documents requests = filter_map document requests

abbrev pub requests_in : Part → List Part
requests_in item = unwrap_or (result_ok (field keys.DocRequests items_in item)) []

abbrev pub unless_fault : Option RequestFault → List Document → Result (List Document) RequestFault
unless_fault None asked = Ok asked
unless_fault (Some fault) asked = Err fault

-- The documents that an item asks for, or the first check that fails.
abbrev pub request : Part → Result (List Document) RequestFault
request item = unless_fault (request_fault item) (documents (requests_in item))

-- What a text asks for: it isn't CBOR, is CBOR and no request, or asks for these documents.
pub data Asked : Type 0 where
  NotCbor : Asked
  NoRequest : Asked
  Documents : List Document → Asked

abbrev pub asked_of : Result (List Document) RequestFault → Asked
asked_of (Ok asked) = Documents asked
asked_of (Err fault) = NoRequest

abbrev pub asked_in : Result Part CborFault → Asked
asked_in (Ok item) = asked_of (request item)
asked_in (Err fault) = NotCbor

abbrev pub asked : List ℕ → Asked
asked text = asked_in (cbor text)

-- The wishes of documents from a place on, each with the place of its document, in the order of the bytes.
abbrev pub wish_at : ℕ → List ℕ → WishDraft → ℕ × Wanted
wish_at place doc_type wish = (place, record { doc_type = doc_type; ns = wish.ns; name = wish.name; retain = wish.retain })

abbrev pub wishes_from : ℕ → List Document → List (ℕ × Wanted)
wishes_from place [] = []
wishes_from place (asked ∷ others) = map (wish_at place asked.doc_type) asked.wishes ++ wishes_from (place + 1) others
