-- Parts of the checks of a document.
use Rattle.std.specs.Prelude.{Result}
use Rattle.doc_response.specs.Response.{Document}
use Rattle.key_device.specs.Plan.{Plan}
use Rattle.key_device.specs.PlanSteps.{◌>>=◌ as ◌>>!◌}
use Rattle.verdict_model.specs.Documents.{JudgeContext, and_shown}
use Rattle.verdict_model.specs.IssuerStatement.{IssuerStatement, issued}
use Rattle.verdict_model.specs.Steps.{Stop}

-- what the issuer says, of a document that its device shows
abbrev pub issued_and_shown : JudgeContext → Document → Plan (Result IssuerStatement Stop)
issued_and_shown s d = issued s.roots s.moment d.doc_type d.issuer_auth >>! and_shown s d
