-- The verdict on a response: what is believed of each document, in order, and which elements that were asked for aren't
-- answered.
use Rattle.std.specs.Prelude.{ℕ, List, ◌&&◌, Bool, not, filter, map}
use Rattle.std.specs.List.{flat_map, list_any}
use Rattle.std.specs.Str.{bytes_eq}
use Rattle.doc_request.specs.declared.doc_draft.DocDraft.{DocDraft}
use Rattle.doc_request.specs.declared.request_draft.RequestDraft.{RequestDraft}
use Rattle.doc_request.specs.declared.wish_draft.WishDraft.{WishDraft}
use Rattle.doc_response.specs.Response.{Document}
use Rattle.key_device.specs.Plan.{Plan, Done}
use Rattle.key_device.specs.PlanSteps.{◌>>=◌, each}
use Rattle.key_device.specs.declared.device_fault.DeviceFault.{DeviceFault}
use Rattle.std.specs.Prelude.{Result, Ok}
use Rattle.verdict_model.specs.Documents.{JudgeContext, judged_document}
use Rattle.verdict_model.specs.Elements.{is_accepted}
use Rattle.verdict_model.specs.declared.doc_verdict.DocVerdict.{DocVerdict}
use Rattle.verdict_model.specs.declared.named.Named.{Named}
use Rattle.verdict_model.specs.declared.verdict.Verdict.{Verdict}

-- whether an element is accepted in one of the documents
abbrev pub accepts : Named → DocVerdict → Bool
accepts wanted d = bytes_eq d.doc_type wanted.doc_type && list_any (is_accepted wanted.ns wanted.name) d.elements

abbrev pub is_answered : List DocVerdict → Named → Bool
is_answered documents wanted = list_any (accepts wanted) documents

-- the elements that a request asks for, in order
abbrev pub wanted_of : List ℕ → WishDraft → Named
wanted_of doc_type wish = record { doc_type = doc_type; ns = wish.ns; name = wish.name }

abbrev pub wanted_in : DocDraft → List Named
wanted_in asked = map (wanted_of asked.doc_type) asked.wishes

abbrev pub wanted : RequestDraft → List Named
wanted request = flat_map wanted_in request.documents

abbrev pub unanswered : RequestDraft → List DocVerdict → List Named
unanswered request documents = filter (λ (element : Named). not (is_answered documents element)) (wanted request)

abbrev pub verdict_on : RequestDraft → List DocVerdict → Verdict
verdict_on request documents = record { documents = documents; unanswered = unanswered request documents }

unfoldable pub verdict : JudgeContext → List Document → Plan (Result Verdict DeviceFault)
verdict s documents = each (judged_document s) documents >>= λ judged. Done (Ok (verdict_on s.request judged))
