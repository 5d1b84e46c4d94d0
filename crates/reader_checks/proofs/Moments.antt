-- A moment that is an equal one.
use Rattle.std.proofs.Common.{◌≡◌, ℤ, List, Option, Result, subst}
use Rattle.cert_view.specs.declared.root.Root.{Root}
use Rattle.doc_request.specs.declared.request_draft.RequestDraft.{RequestDraft}
use Rattle.doc_response.specs.Response.{Document}
use Rattle.key_device.specs.Plan.{Follows}
use Rattle.key_device.specs.PlanSteps.{each}
use Rattle.key_device.specs.declared.device_fault.DeviceFault.{DeviceFault}
use Rattle.key_device.specs.declared.exchange.Exchange.{Exchange}
use Rattle.verdict_model.specs.Documents.{JudgeContext, judged_document}
use Rattle.verdict_model.specs.Shown.{SessionBinding}
use Rattle.verdict_model.specs.declared.doc_verdict.DocVerdict.{DocVerdict}

abbrev setting_at : RequestDraft → SessionBinding → List Root → ℤ → JudgeContext
setting_at request session roots moment = record { request = request; session = session; roots = roots; moment = moment }

pub at_moment : (request : RequestDraft) (session : SessionBinding) (roots : List Root) (docs : List Document) {one other : ℤ} {old new : List Exchange} {outcome : Option (Result (List DocVerdict) DeviceFault)}
    → one ≡ other → Follows (each (judged_document (setting_at request session roots one)) docs) old new outcome
    → Follows (each (judged_document (setting_at request session roots other)) docs) old new outcome
at_moment request session roots docs {old = old} {new = new} {outcome = outcome} same follows =
    subst (λ (moment : ℤ). Follows (each (judged_document (setting_at request session roots moment)) docs) old new outcome) same follows
