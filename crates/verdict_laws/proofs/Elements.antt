-- What refuses an element, and what accepts it.
use Rattle.std.proofs.Common.{◌≡◌, ℕ, List, Some, None, Result, Ok, Err, refl, subst, arith}
use Rattle.std.specs.Prelude.{◌↔◌}
use Rattle.std.specs.List.{list_any}
use Rattle.doc_request.specs.declared.request_draft.RequestDraft.{RequestDraft}
use Rattle.issuer_items.specs.Item.{Item, item}
use Rattle.issuer_items.specs.declared.item_fault.ItemFault.{ItemFault}
use Rattle.mso_digests.specs.Digests.{digest_at}
use Rattle.mso_digests.specs.Object.{Object}
use Rattle.sha2.specs.Sha256.{sha256}
use Rattle.verdict_model.specs.Elements.{is_accepted, is_requested, verdict_of}
use Rattle.verdict_model.specs.declared.element_check.ElementCheck.{ElementCheck}
use Rattle.verdict_model.specs.declared.element_check.ElementCheck.TheVariants as checks
use Rattle.verdict_model.specs.declared.element_verdict.ElementVerdict.{ElementVerdict}
use Rattle.verdict_laws.specs.FirstCheck.{AreAcceptedFailingNone, AreRefusedByFirst, FailsOf, IsFirst, NoneFails, place}
use Rattle.verdict_laws.proofs.FirstCheck.{accepted_where_none, first_refuses, none_where_accepted, one_of, refused_by_first}

-- ---- of what was read

form_first : (request : RequestDraft) (o : Object) (before : List ElementVerdict) (ns raw : List ℕ) (fault : ItemFault)
    → IsFirst (FailsOf request o before ns raw (Err fault)) place checks.ItemForm
form_first request o before ns raw fault = record { fails = tt; before = λ other less failed. absurd (omega arith) }

form_alone : (request : RequestDraft) (o : Object) (before : List ElementVerdict) (ns raw : List ℕ) (fault : ItemFault) (check : ElementCheck)
    → IsFirst (FailsOf request o before ns raw (Err fault)) place check → Some checks.ItemForm ≡ Some check
form_alone request o before ns raw fault checks.ItemForm first = refl
form_alone request o before ns raw fault checks.NoDigest first = absurd first.fails
form_alone request o before ns raw fault (checks.DigestDiffers kept made) first = absurd first.fails
form_alone request o before ns raw fault checks.Repeated first = absurd first.fails
form_alone request o before ns raw fault checks.NotRequested first = absurd first.fails

refused_as : (request : RequestDraft) (o : Object) (before : List ElementVerdict) (ns raw : List ℕ) (read : Result Item ItemFault) (check : ElementCheck)
    → ((verdict_of request o before ns raw read).refused ≡ Some check) ↔ IsFirst (FailsOf request o before ns raw read) place check
refused_as request o before ns raw (Ok it) check = (
  refused_by_first (sha256 raw) (digest_at ns it.digest_id o.digests) (list_any (is_accepted ns it.name) before) (is_requested request o.doc_type ns it.name) check,
  first_refuses (sha256 raw) (digest_at ns it.digest_id o.digests) (list_any (is_accepted ns it.name) before) (is_requested request o.doc_type ns it.name) check,
)
refused_as request o before ns raw (Err fault) check = (
  λ is. subst (IsFirst (FailsOf request o before ns raw (Err fault)) place) (one_of checks.ItemForm check is) (form_first request o before ns raw fault),
  form_alone request o before ns raw fault check,
)

accepted_as : (request : RequestDraft) (o : Object) (before : List ElementVerdict) (ns raw : List ℕ) (read : Result Item ItemFault)
    → ((verdict_of request o before ns raw read).refused ≡ None) ↔ NoneFails (FailsOf request o before ns raw read)
accepted_as request o before ns raw (Ok it) = (
  none_where_accepted (sha256 raw) (digest_at ns it.digest_id o.digests) (list_any (is_accepted ns it.name) before) (is_requested request o.doc_type ns it.name),
  accepted_where_none (sha256 raw) (digest_at ns it.digest_id o.digests) (list_any (is_accepted ns it.name) before) (is_requested request o.doc_type ns it.name),
)
accepted_as request o before ns raw (Err fault) = (λ is. absurd (cc), λ none. absurd (none checks.ItemForm tt))

-- ---- the laws

pub are_refused_by_first : AreRefusedByFirst
are_refused_by_first request o before element check = refused_as request o before element.0 element.1.bytes (item element.1.bytes) check

pub are_accepted_failing_none : AreAcceptedFailingNone
are_accepted_failing_none request o before element = accepted_as request o before element.0 element.1.bytes (item element.1.bytes)
