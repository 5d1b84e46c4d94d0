-- The verdict on an element, by an index of the object's digests, the elements that are asked for and those that are accepted.
use Rattle.std.specs.Prelude.{◌≡◌, ℕ, List, [], length, not, Option, Some, Result, Ok, Err}
use Rattle.std.specs.List.{list_any}
use Rattle.mdoc_outside.specs.OptionSteps.{unless}
use Rattle.cbor_view.specs.Parts.{Part}
use Rattle.doc_request.specs.declared.request_draft.RequestDraft.{RequestDraft}
use Rattle.issuer_items.specs.Item.{Item, item}
use Rattle.issuer_items.specs.declared.item_fault.ItemFault.{ItemFault}
use Rattle.mso_digests.specs.declared.index.DigestIndex.{DigestIndex}
use Rattle.mso_digests.specs.Indexed.{indexed}
use Rattle.sha2.specs.Sha256.{sha256}
use Rattle.verdict_model.specs.Elements.{digest_check, is_accepted, is_requested, or_next}
use Rattle.verdict_model.specs.declared.element_check.ElementCheck.{ElementCheck}
use Rattle.verdict_model.specs.declared.element_check.ElementCheck.TheVariants as checks
use Rattle.verdict_model.specs.declared.element_verdict.ElementVerdict.{ElementVerdict}
use Rattle.reader_checks.specs.declared.element_names.ElementNames.{ElementNames}
use Rattle.reader_checks.specs.ElementNames.{has_name}

abbrev pub first_check : DigestIndex → ElementNames → ElementNames → List ℕ → List ℕ → Item → Option ElementCheck
first_check digests requested accepted ns raw it =
    or_next (digest_check (sha256 raw) (indexed digests ns it.digest_id))
    (or_next (unless (not (has_name accepted ns it.name)) checks.Repeated)
    (unless (has_name requested ns it.name) checks.NotRequested))

abbrev pub verdict_of : DigestIndex → ElementNames → ElementNames → List ℕ → List ℕ → Result Item ItemFault → ElementVerdict
verdict_of digests requested accepted ns raw (Ok it) = record { ns = ns; name = it.name; value = it.value; refused = first_check digests requested accepted ns raw it }
verdict_of digests requested accepted ns raw (Err fault) = record { ns = ns; name = []; value = []; refused = Some checks.ItemForm }

abbrev pub element_verdict : DigestIndex → ElementNames → ElementNames → List ℕ × Part → ElementVerdict
element_verdict digests requested accepted element = verdict_of digests requested accepted element.0 element.1.bytes (item element.1.bytes)

-- they have exactly the elements that a request asks for of a document of that type, and exactly those that are accepted in some verdicts
abbrev pub HasRequested : ElementNames → RequestDraft → List ℕ → Type 0
HasRequested names request doc_type = (ns : List ℕ) (name : List ℕ) → has_name names ns name ≡ is_requested request doc_type ns name

abbrev pub HasAccepted : ElementNames → List ElementVerdict → Type 0
HasAccepted names verdicts = (ns : List ℕ) (name : List ℕ) → has_name names ns name ≡ list_any (is_accepted ns name) verdicts

-- each digest of an index has the 32 bytes of SHA-256
abbrev pub HaveLength : DigestIndex → Type 0
HaveLength digests = (ns : List ℕ) (number : ℕ) (digest : List ℕ) → indexed digests ns number ≡ Some digest → length digest ≡ 32
