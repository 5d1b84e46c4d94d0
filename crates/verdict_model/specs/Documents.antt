-- What is believed of a document: the checks in their order, and its elements where none fails.
use Rattle.std.specs.Prelude.{ℕ, ℤ, List, [], flat_map, filter_map, Option, Some, None, option_map, Result, Ok, Err}
use Rattle.cbor_view.specs.Label.{entries_or_none}
use Rattle.cbor_view.specs.Parts.{Part, cbor, pairs_in, text_in}
use Rattle.cbor_view.specs.declared.cbor_fault.CborFault.{CborFault}
use Rattle.cert_view.specs.declared.root.Root.{Root}
use Rattle.doc_request.specs.declared.request_draft.RequestDraft.{RequestDraft}
use Rattle.doc_response.specs.Response.{Document}
use Rattle.key_device.specs.Plan.{Plan, Done}
use Rattle.key_device.specs.PlanSteps.{◌>>=◌ as ◌>>!◌, mapped}
use Rattle.key_device.specs.declared.device_fault.DeviceFault.{DeviceFault}
use Rattle.key_device.specs.declared.device_fault.DeviceFault.TheVariants.{Failed}
use Rattle.verdict_model.specs.Elements.{element_verdicts, is_type_requested}
use Rattle.verdict_model.specs.IssuerStatement.{IssuerStatement, issued}
use Rattle.verdict_model.specs.Shown.{SessionBinding, shown}
use Rattle.verdict_model.specs.Steps.{Stop, Refused, Unanswered, check_that}
use Rattle.verdict_model.specs.declared.doc_check.DocCheck.TheVariants as checks
use Rattle.verdict_model.specs.declared.doc_verdict.DocVerdict.{DocVerdict}
use Rattle.verdict_model.specs.declared.named.Named.{Named}

-- what a response is judged by: the request that it answers, the session, the trusted roots and the moment
pub record JudgeContext : Type 0 where
  pub request : RequestDraft
  pub session : SessionBinding
  pub roots : List Root
  pub moment : ℤ

-- what an accepted document says: the object
abbrev pub and_shown : JudgeContext → Document → IssuerStatement → Plan (Result IssuerStatement Stop)
and_shown s d said = shown s.session said.key d >>! λ shows. Done (Ok said)

unfoldable pub document_checks : JudgeContext → Document → Plan (Result IssuerStatement Stop)
document_checks s d =
    check_that checks.DocNotRequested (is_type_requested s.request d.doc_type) >>! λ wanted.
    issued s.roots s.moment d.doc_type d.issuer_auth >>! and_shown s d

-- the elements that the device signed (8.3.2.1.2.2): those with a text for a namespace and a text for a name
abbrev pub named : List ℕ → List ℕ → Part × Part → Option Named
named doc_type ns entry = option_map (λ (name : List ℕ). record { doc_type = doc_type; ns = ns; name = name }) (text_in entry.0)

abbrev pub named_under : List ℕ → Option (List ℕ) → Part → List Named
named_under doc_type None value = []
named_under doc_type (Some ns) value = filter_map (named doc_type ns) (entries_or_none (pairs_in value))

abbrev pub named_in : List ℕ → Result Part CborFault → List Named
named_in doc_type (Ok map) = flat_map (λ (entry : Part × Part). named_under doc_type (text_in entry.0) entry.1) (entries_or_none (pairs_in map))
named_in doc_type (Err fault) = []

abbrev pub device_elements : Document → List Named
device_elements d = named_in d.doc_type (cbor d.device_namespaces)

-- A document that is refused has no elements; its first check that fails stands there.
abbrev pub doc_verdict : JudgeContext → Document → Result IssuerStatement Stop → Result DocVerdict DeviceFault
doc_verdict s d (Ok said) = Ok (record { doc_type = d.doc_type; refused = None; elements = element_verdicts s.request said.object d.items; device_elements = device_elements d })
doc_verdict s d (Err (Refused check)) = Ok (record { doc_type = d.doc_type; refused = Some check; elements = []; device_elements = [] })
doc_verdict s d (Err Unanswered) = Err Failed

unfoldable pub judged_document : JudgeContext → Document → Plan (Result DocVerdict DeviceFault)
judged_document s d = mapped (doc_verdict s d) (document_checks s d)
