-- What the judge's calls come to, as the definition has it.
use Rattle.std.specs.Prelude.{Option, Some, None, Result, Ok, Err}
use Rattle.doc_response.specs.Response.{Document}
use Rattle.key_device.specs.declared.device_fault.DeviceFault.{DeviceFault}
use Rattle.key_device.specs.declared.device_fault.DeviceFault.TheVariants.{Failed}
use Rattle.reader_checks.specs.declared.judge_fault.JudgeFault.{JudgeFault}
use Rattle.reader_checks.specs.declared.judge_fault.JudgeFault.TheVariants as faults
use Rattle.verdict_model.specs.Documents.{JudgeContext, device_elements}
use Rattle.verdict_model.specs.Elements.{element_verdicts}
use Rattle.verdict_model.specs.IssuerStatement.{IssuerStatement}
use Rattle.verdict_model.specs.declared.doc_verdict.DocVerdict.{DocVerdict}

-- want of memory is no outcome
abbrev pub came_to : {A : Type 0} → Result A JudgeFault → Option (Result A DeviceFault)
came_to (Ok value) = Some (Ok value)
came_to (Err faults.Device) = Some (Err Failed)
came_to (Err faults.Memory) = None

-- the verdict on a document of which that is said
abbrev pub accepted_document : JudgeContext → Document → IssuerStatement → DocVerdict
accepted_document s d said = record { doc_type = d.doc_type; refused = None; elements = element_verdicts s.request said.object d.items; device_elements = device_elements d }
