-- What contracts see of the device's authentication, and of what a document is judged by.
use Rattle.cose_msgs.specs.MessageView.{authenticated, signed}
use Rattle.reader_checks.specs.declared.device_proof.DeviceProof as proofs
use Rattle.reader_checks.specs.declared.device_proof.DeviceProof.TheVariants as ways
use Rattle.reader_checks.specs.declared.judge_context.SessionBinding as sessions
use Rattle.reader_checks.specs.declared.judge_context.JudgeContext as settings
use Rattle.verdict_model.specs.Documents.{JudgeContext}
use Rattle.verdict_model.specs.Shown.{DeviceProof, BySignature, ByMac, SessionBinding}

abbrev pub proof_seen : proofs.DeviceProof → DeviceProof
proof_seen (ways.BySignature s) = BySignature (signed s)
proof_seen (ways.ByMac m) = ByMac (authenticated m)

abbrev pub session_seen : sessions.SessionBinding → SessionBinding
session_seen s = record { transcript = s.transcript.now; key = s.key }

abbrev pub setting_seen : settings.JudgeContext → JudgeContext
setting_seen s = record { request = s.request.now; session = session_seen s.session; roots = s.trust.roots.now; moment = s.trust.moment }
