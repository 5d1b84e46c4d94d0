-- Where nothing is wrong with a request, each document and each element of it is read.
use Rattle.std.proofs.Common.{◌≡◌, ℕ, Bool, true, false, not, ◌&&◌, if◌then◌else◌, List, [], ◌∷◌, Option, Some, None, Result, Ok, Err, is_some, refl, sym, ap, subst}
use Rattle.std.specs.Prelude.{filter_map, map}
use Rattle.std.specs.List.{AllByRecursion, list_all}
use Rattle.std.proofs.lemmas.Bool.{and_parts}
use Rattle.mdoc_outside.specs.declared.key_name.KeyName.TheVariants as keys
use Rattle.cbor_view.specs.declared.cbor_fault.CborFault.{CborFault}
use Rattle.cbor_view.specs.declared.doubled.Doubled.{Doubled}
use Rattle.cbor_view.specs.Parts.{Part, boolean_in, cbor, items_in, text_in}
use Rattle.cbor_maps.specs.declared.map_fault.MapFault.{MapFault}
use Rattle.cbor_maps.specs.declared.map_fault.MapFault.TheVariants as maps
use Rattle.cbor_maps.specs.Reading.{any_in, encoded_in, entry, field, map_in, needed, of_kind, optional_field}
use Rattle.doc_request.specs.declared.request_fault.RequestFault.{RequestFault}
use Rattle.doc_request.specs.declared.wish_draft.WishDraft.{WishDraft}
use Rattle.doc_request.specs.Asked.{Document, document, document_fault, documents, first_fault, found_part, items_fault, of_cbor, of_documents, of_encoded, of_spaces, of_version, request_fault, requests_in}
use Rattle.doc_request.specs.Checks.{of_field}
use Rattle.doc_request.specs.Spaces.{element, elements, entries, is_element, is_empty, is_space}
use Rattle.doc_request.proofs.FirstFaults.{neither}
use Rattle.request_laws.specs.Opened.{IsOpened, IsRead, IsSpaceRead}

-- ---- one namespace

element-is : (ns : List ℕ) (e : Part × Part) → is_element e ≡ true → (w : WishDraft) × (element ns e ≡ Some w)
element-is ns e is = go (text_in e.0) (boolean_in e.1) refl refl is where
  go : (t : Option (List ℕ)) (b : Option Bool) → text_in e.0 ≡ t → boolean_in e.1 ≡ b → (is_some t && is_some b) ≡ true → (w : WishDraft) × (element ns e ≡ Some w)
  go None b et eb is = absurd (cc)
  go (Some name) None et eb is = absurd (cc)
  go (Some name) (Some retain) et eb is = (record { ns = ns; name = name; retain = retain }, rw (et, eb) refl)

elements-are : (ns : List ℕ) (es : List (Part × Part)) → list_all is_element es ≡ true → map (element ns) es ≡ map (λ (w : WishDraft). Some w) (filter_map (element ns) es)
elements-are ns [] all = refl
elements-are ns (e ∷ es) all =
    let parts = and_parts (is_element e) (list_all is_element es) all in
    let first = element-is ns e parts.0 in
    rw first.1 (ap (λ (ws : List (Option WishDraft)). Some first.0 ∷ ws) (elements-are ns es parts.1))

space-is : (space : Part × Part) → is_space space ≡ true → IsSpaceRead space
space-is space is = go (text_in space.0) refl is where
  go : (t : Option (List ℕ)) → text_in space.0 ≡ t → (is_some t && (not (is_empty (entries space.1)) && list_all is_element (entries space.1))) ≡ true → IsSpaceRead space
  go None e is = absurd (cc)
  go (Some ns) e is = record {
    ns = ns;
    named = e;
    each = rw e (elements-are ns (entries space.1) (and_parts _ _ is).1);
  }

spaces-are : (spaces : List (Part × Part)) → list_all is_space spaces ≡ true → AllByRecursion IsSpaceRead spaces
spaces-are [] all = tt
spaces-are (space ∷ spaces) all = let parts = and_parts (is_space space) (list_all is_space spaces) all in (space-is space parts.0, spaces-are spaces parts.1)

form : (b : Bool) (fault : RequestFault) (others : Option RequestFault) → (if not b then Some fault else others) ≡ None → b ≡ true
form true fault others e = refl
form false fault others e = absurd (cc)

-- ---- one document

items-are : (request value items : Part) (inside : List ℕ) → entry request keys.ItemsRequest ≡ Ok (Some value) → encoded_in value ≡ Some inside → cbor inside ≡ Ok items → items_fault items ≡ None → IsRead request
items-are request value items inside found encoded spelled sound =
    let types = neither (of_field (field keys.DocType text_in items)) _ sound in
    let maps = neither (of_field (field keys.NameSpaces map_in items)) _ types.1 in
    let others = neither (of_field (optional_field keys.RequestInfo any_in items)) _ maps.1 in
    go (field keys.DocType text_in items) (field keys.NameSpaces map_in items) refl refl types.0 maps.0 others.1 where
      go : (t : Result (List ℕ) MapFault) (s : Result Part MapFault) → field keys.DocType text_in items ≡ t → field keys.NameSpaces map_in items ≡ s → of_field t ≡ None → of_field s ≡ None → of_spaces s ≡ None → IsRead request
      go (Err (maps.Field name)) s et es a b c = absurd (cc)
      go (Err (maps.Doubled name)) s et es a b c = absurd (cc)
      go (Ok doc_type) (Err (maps.Field name)) et es a b c = absurd (cc)
      go (Ok doc_type) (Err (maps.Doubled name)) et es a b c = absurd (cc)
      go (Ok doc_type) (Ok spaces) et es a b c = record {
        read = record { doc_type = doc_type; items = value.bytes; reader_auth = found_part (optional_field keys.ReaderAuth any_in request); wishes = elements (entries spaces) };
        is = rw found (rw encoded (rw spelled (rw (et, es) refl)));
        spaces = entries spaces;
        spaces_are = rw found (rw encoded (rw spelled (rw es refl)));
        wishes = refl;
        each = spaces-are (entries spaces) (form (list_all is_space (entries spaces)) _ _ c);
      }

document-is : (request : Part) → document_fault request ≡ None → IsRead request
document-is request sound =
    let inside = neither (of_field (field keys.ItemsRequest encoded_in request)) _ sound in
    let auth = neither (of_field (optional_field keys.ReaderAuth any_in request)) _ inside.1 in
    by_entry (entry request keys.ItemsRequest) refl inside.0 auth.1 where
      by_cbor : (value : Part) (bytes : List ℕ) → entry request keys.ItemsRequest ≡ Ok (Some value) → encoded_in value ≡ Some bytes → (c : Result Part CborFault) → cbor bytes ≡ c → of_cbor c ≡ None → IsRead request
      by_cbor value bytes found encoded (Ok items) spelled none = items-are request value items bytes found encoded spelled none
      by_cbor value bytes found encoded (Err fault) spelled none = absurd (cc)

      by_kind : (value : Part) → entry request keys.ItemsRequest ≡ Ok (Some value) → (o : Option (List ℕ)) → encoded_in value ≡ o → of_field (of_kind keys.ItemsRequest o) ≡ None → of_encoded (of_kind keys.ItemsRequest o) ≡ None → IsRead request
      by_kind value found None encoded a b = absurd (cc)
      by_kind value found (Some bytes) encoded a b = by_cbor value bytes found encoded (cbor bytes) refl b

      by_entry : (r : Result (Option Part) Doubled) → entry request keys.ItemsRequest ≡ r → of_field (needed keys.ItemsRequest encoded_in r) ≡ None → of_encoded (needed keys.ItemsRequest encoded_in r) ≡ None → IsRead request
      by_entry (Err twice) found a b = absurd (cc)
      by_entry (Ok None) found a b = absurd (cc)
      by_entry (Ok (Some value)) found a b = by_kind value found (encoded_in value) refl a b

-- ---- all documents

documents-are : (requests : List Part) → first_fault requests ≡ None → AllByRecursion IsRead requests
documents-are [] sound = tt
documents-are (request ∷ requests) sound = let parts = neither (document_fault request) (first_fault requests) sound in (document-is request parts.0, documents-are requests parts.1)

none-dropped : (requests : List Part) → AllByRecursion IsRead requests → map document requests ≡ map (λ (d : Document). Some d) (documents requests)
none-dropped [] each = refl
none-dropped (request ∷ requests) each = let first = each.0 in rw first.is (ap (λ (ds : List (Option Document)). Some first.read ∷ ds) (none-dropped requests each.1))

-- of a request whose documents are these
of-requests : (item : Part) (requests : List Part) → requests_in item ≡ requests → AllByRecursion IsRead requests → IsOpened item
of-requests item requests are each =
    let own : AllByRecursion IsRead (requests_in item) = subst (AllByRecursion IsRead) (sym are) each in
    record { documents_are = none-dropped (requests_in item) own; each = own }

opened-by : (item : Part) (r : Result (List Part) MapFault) → field keys.DocRequests items_in item ≡ r → of_field r ≡ None → of_documents r ≡ None → IsOpened item
opened-by item (Err (maps.Field name)) e a b = absurd (cc)
opened-by item (Err (maps.Doubled name)) e a b = absurd (cc)
opened-by item (Ok requests) e a b = let parts = neither _ (first_fault requests) b in of-requests item requests (rw e refl) (documents-are requests parts.1)

pub opened : (item : Part) → request_fault item ≡ None → IsOpened item
opened item sound =
    let version = neither (of_field (field keys.Version text_in item)) _ sound in
    let requests = neither (of_field (field keys.DocRequests items_in item)) _ version.1 in
    let rest = neither (of_version (field keys.Version text_in item)) _ requests.1 in
    opened-by item (field keys.DocRequests items_in item) refl requests.0 rest.1
