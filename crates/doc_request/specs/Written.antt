-- A request as it is written (DeviceRequest; ISO/IEC 18013-5, 8.3.2.1.2.1): the keys in the order of their tables, every
-- head as short as it can be, a namespace at its first appearance, and names in their order.
use Rattle.std.specs.Prelude.{◌≡◌, ◌≤◌, ◌⊎◌, length, slice_get, ℕ, ◌+◌, if◌then◌else◌, List, [], ◌∷◌, ◌++◌, Bool, filter, map, Option, Some, None, codes}
use Rattle.std.specs.List.{AllByRecursion, list_any}
use Rattle.std.specs.Str.{bytes_eq}
use Rattle.mdoc_outside.specs.declared.key_name.KeyName.TheVariants as keys
use Rattle.cbor_view.specs.Shortest.{array_bytes, boolean_bytes, map_bytes, text_bytes}
use Rattle.cbor_maps.specs.Writing.{encoded_bytes, named_map}
use Rattle.cose_msgs.specs.Written.{sign1_bytes}
use Rattle.doc_request.specs.declared.doc_draft.DocDraft.{DocDraft}
use Rattle.doc_request.specs.declared.wish_draft.WishDraft.{WishDraft}

abbrev pub is_in : List ℕ → WishDraft → Bool
is_in ns wish = bytes_eq wish.ns ns

-- of wishes after others, each whose namespace none before it has
abbrev pub openers : List WishDraft → List WishDraft → List WishDraft
openers before [] = []
openers before (wish ∷ wishes) =
    if list_any (is_in wish.ns) before then openers (before ++ wish ∷ []) wishes else wish ∷ openers (before ++ wish ∷ []) wishes

-- a name with whether the reader means to retain the element, and a namespace with its names
abbrev pub name_entry : WishDraft → List ℕ × List ℕ
name_entry wish = (text_bytes wish.name, boolean_bytes wish.retain)

abbrev pub space_entry : List WishDraft → List ℕ → List ℕ × List ℕ
space_entry wishes ns = (text_bytes ns, map_bytes (map name_entry (filter (is_in ns) wishes)))

abbrev pub opened_by : List WishDraft → WishDraft → List ℕ × List ℕ
opened_by wishes opener = space_entry wishes opener.ns

unfoldable pub spaces_bytes : List WishDraft → List ℕ
spaces_bytes wishes = map_bytes (map (opened_by wishes) (openers [] wishes))

-- the map ItemsRequest
unfoldable pub items_map : DocDraft → List ℕ
items_map document = named_map ((keys.DocType, Some (text_bytes document.doc_type)) ∷ (keys.NameSpaces, Some (spaces_bytes document.wishes)) ∷ [])

-- the map DocRequest, with the reader's authentication, where there is one
unfoldable pub document_map : DocDraft → Option (List ℕ) → List ℕ
document_map document auth = named_map ((keys.ItemsRequest, Some (encoded_bytes (items_map document))) ∷ (keys.ReaderAuth, auth) ∷ [])

-- the documents from a place on, each with the authentication at its place, where there is one
abbrev pub document_maps : ℕ → List DocDraft → List (List ℕ) → List (List ℕ)
document_maps place [] auths = []
document_maps place (document ∷ documents) auths = document_map document (slice_get auths place) ∷ document_maps (place + 1) documents auths

unfoldable pub request_bytes : List DocDraft → List (List ℕ) → List ℕ
request_bytes documents auths = named_map ((keys.Version, Some (text_bytes (codes "1.0"))) ∷ (keys.DocRequests, Some (array_bytes (document_maps 0 documents auths))) ∷ [])

-- the bytes of a map's entry
abbrev pub entry_bytes : List ℕ × List ℕ → List ℕ
entry_bytes entry = entry.0 ++ entry.1

-- an authentication as it is written: a signature with a detached payload and a chain of at most 8,192 bytes
pub record IsAuthentication (auth : List ℕ) : Type 0 where
  pub chain : List ℕ
  pub short : length chain ≤ 8192
  pub signature : List ℕ
  pub long : length signature ≡ 64
  pub written : auth ≡ sign1_bytes (Some chain) None signature

-- authentications of documents: none, or one for each
pub record AreAuthentications (documents : List DocDraft) (auths : List (List ℕ)) : Type 0 where
  pub number : (length auths ≡ 0) ⊎ (length auths ≡ length documents)
  pub each : AllByRecursion IsAuthentication auths
