-- What a key device is asked for a certificate that is written.
use Rattle.std.specs.Prelude.{ℕ, List, Option, Some, None, Result, Ok, Err}
use Rattle.key_device.specs.Plan.{Plan, Done, Then}
use Rattle.key_device.specs.declared.ask.Ask.TheVariants.{Sign}
use Rattle.key_device.specs.declared.told.Told.{Told}
use Rattle.key_device.specs.declared.told.Told.TheVariants.{Signature}
use Rattle.cert_view.specs.Written.{to_be_signed, written}
use Rattle.cert_view.specs.declared.cert_draft.CertDraft.{CertDraft}
use Rattle.cert_view.specs.declared.write_fault.WriteFault.{WriteFault}
use Rattle.cert_view.specs.declared.write_fault.WriteFault.TheVariants.{Device, Memory}

-- the certificate by what was told: it is there where that is a signature
abbrev pub signed_by : CertDraft → Told → Result (List ℕ) WriteFault
signed_by draft (Signature pair) = Ok (written draft pair)
signed_by draft told = Err Device

-- One question: for the signature of the issuer's key over the to-be-signed part.
unfoldable pub issued : CertDraft → Plan (Result (List ℕ) WriteFault)
issued draft = Then (Sign draft.issuer_key (to_be_signed draft)) (λ told. Done (signed_by draft told))

-- what a call came to: nothing where memory was wanting
abbrev pub came_to : Result (List ℕ) WriteFault → Option (Result (List ℕ) WriteFault)
came_to (Ok bytes) = Some (Ok bytes)
came_to (Err Device) = Some (Err Device)
came_to (Err Memory) = None
