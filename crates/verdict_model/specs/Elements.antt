-- What is believed of an element (ISO/IEC 18013-5, 9.1.2.4): the object has the digest of the item as it stands, tag and
-- head included, the element wasn't accepted before in its document, and it was asked for.
use Rattle.std.specs.Prelude.{ℕ, List, [], ◌∷◌, ◌++◌, ◌&&◌, Bool, true, false, not, is_none, Option, Some, None, Result, Ok, Err}
use Rattle.std.specs.List.{list_any}
use Rattle.std.specs.Str.{bytes_eq}
use Rattle.mdoc_outside.specs.OptionSteps.{unless}
use Rattle.issuer_items.specs.Item.{Item, item}
use Rattle.issuer_items.specs.declared.item_fault.ItemFault.{ItemFault}
use Rattle.cbor_view.specs.Parts.{Part}
use Rattle.doc_request.specs.declared.doc_draft.DocDraft.{DocDraft}
use Rattle.doc_request.specs.declared.request_draft.RequestDraft.{RequestDraft}
use Rattle.doc_request.specs.declared.wish_draft.WishDraft.{WishDraft}
use Rattle.mso_digests.specs.Digests.{digest_at}
use Rattle.mso_digests.specs.Object.{Object}
use Rattle.sha2.specs.Sha256.{sha256}
use Rattle.verdict_model.specs.declared.element_check.ElementCheck.{ElementCheck}
use Rattle.verdict_model.specs.declared.element_check.ElementCheck.TheVariants as checks
use Rattle.verdict_model.specs.declared.element_verdict.ElementVerdict.{ElementVerdict}

-- ---- what was asked for

abbrev pub is_wish : List ℕ → List ℕ → WishDraft → Bool
is_wish ns name wish = bytes_eq wish.ns ns && bytes_eq wish.name name

abbrev pub wants : List ℕ → List ℕ → List ℕ → DocDraft → Bool
wants doc_type ns name asked = bytes_eq asked.doc_type doc_type && list_any (is_wish ns name) asked.wishes

-- whether a request asks for that element, and whether for a document of that type
abbrev pub is_requested : RequestDraft → List ℕ → List ℕ → List ℕ → Bool
is_requested request doc_type ns name = list_any (wants doc_type ns name) request.documents

abbrev pub is_type_requested : RequestDraft → List ℕ → Bool
is_type_requested request doc_type = list_any (λ (asked : DocDraft). bytes_eq asked.doc_type doc_type) request.documents

-- ---- the checks of an element, in their order

-- the digest of the object, where it isn't that of the item
abbrev pub if_differs : Bool → List ℕ → List ℕ → Option ElementCheck
if_differs true kept made = None
if_differs false kept made = Some (checks.DigestDiffers kept made)

abbrev pub digest_check : List ℕ → Option (List ℕ) → Option ElementCheck
digest_check made None = Some checks.NoDigest
digest_check made (Some kept) = if_differs (bytes_eq kept made) kept made

abbrev pub is_accepted : List ℕ → List ℕ → ElementVerdict → Bool
is_accepted ns name verdict = bytes_eq verdict.ns ns && bytes_eq verdict.name name && is_none verdict.refused

-- the first of two checks that fails
abbrev pub or_next : Option ElementCheck → Option ElementCheck → Option ElementCheck
or_next (Some check) next = Some check
or_next None next = next

-- Of an item of a namespace, after the verdicts on the elements before it in its document.
abbrev pub check_of : RequestDraft → Object → List ElementVerdict → List ℕ → List ℕ → Item → Option ElementCheck
check_of request o before ns raw it =
    or_next (digest_check (sha256 raw) (digest_at ns it.digest_id o.digests))
    (or_next (unless (not (list_any (is_accepted ns it.name) before)) checks.Repeated)
    (unless (is_requested request o.doc_type ns it.name) checks.NotRequested))

abbrev pub verdict_of : RequestDraft → Object → List ElementVerdict → List ℕ → List ℕ → Result Item ItemFault → ElementVerdict
verdict_of request o before ns raw (Ok it) = record { ns = ns; name = it.name; value = it.value; refused = check_of request o before ns raw it }
verdict_of request o before ns raw (Err fault) = record { ns = ns; name = []; value = []; refused = Some checks.ItemForm }

abbrev pub element_verdict : RequestDraft → Object → List ElementVerdict → List ℕ × Part → ElementVerdict
element_verdict request o before element = verdict_of request o before element.0 element.1.bytes (item element.1.bytes)

-- The elements of a document in order, after those with these verdicts.
abbrev pub elements_after : RequestDraft → Object → List ElementVerdict → List (List ℕ × Part) → List ElementVerdict
elements_after request o before [] = []
elements_after request o before (element ∷ elements) =
    element_verdict request o before element ∷ elements_after request o (before ++ element_verdict request o before element ∷ []) elements

unfoldable pub element_verdicts : RequestDraft → Object → List (List ℕ × Part) → List ElementVerdict
element_verdicts request o elements = elements_after request o [] elements
