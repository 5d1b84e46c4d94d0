-- Who asks for a document that was read.
use Rattle.std.specs.Prelude.{ℕ, ℤ, List, Option, Result}
use Rattle.cert_view.specs.declared.root.Root.{Root}
use Rattle.doc_request.specs.Known.{known}
use Rattle.doc_request.specs.Views.{document_seen}
use Rattle.doc_request.specs.declared.doc_ask.DocAsk.{DocAsk}
use Rattle.key_device.specs.Plan.{Plan}
use Rattle.key_device.specs.declared.device_fault.DeviceFault.{DeviceFault}

-- the reader of a document that was read
abbrev pub known_of : List Root → ℤ → List ℕ → DocAsk → Plan (Result (Option (List ℕ)) DeviceFault)
known_of readers moment transcript document = known (document_seen document) transcript readers moment
