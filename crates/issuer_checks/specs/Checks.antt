-- Parts of the checks of what the issuer says.
use Rattle.std.specs.Prelude.{ℕ, ℤ, Bool, List, Result, Ok}
use Rattle.std.specs.Result.{result_ok}
use Rattle.std.specs.Str.{bytes_eq}
use Rattle.cbor_view.specs.Parts.{Part}
use Rattle.cert_view.specs.declared.root.Root.{Root}
use Rattle.cose_msgs.specs.Structures.{signed_structure}
use Rattle.key_device.specs.Questions.{verified}
use Rattle.key_device.specs.Plan.{Plan, Done}
use Rattle.key_device.specs.PlanSteps.{◌>>=◌ as ◌>>!◌}
use Rattle.key_device.specs.declared.device_fault.DeviceFault.TheVariants.{Failed}
use Rattle.mso_digests.specs.Object.{Object, object}
use Rattle.verdict_model.specs.IssuerStatement.{Signer, object_of, signer_of, timely}
use Rattle.verdict_model.specs.Steps.{Stop, asked_of_device, check_that, needed}
use Rattle.verdict_model.specs.declared.doc_check.DocCheck.TheVariants as checks

-- whether the signer signed the payload
abbrev pub is_issued : Signer → Plan (Result Bool Stop)
is_issued signer = asked_of_device (verified Failed signer.cert.tbs.key (signed_structure signer.auth.signed.protected signer.auth.payload) signer.auth.signed.signature)

-- what is looked at of the object after that, which asks nothing
abbrev pub object_checks : ℤ → List ℕ → Signer → Plan (Result Object Stop)
object_checks moment doc_type signer =
    needed checks.MsoForm (result_ok (object signer.auth.payload)) >>! λ o.
    check_that checks.DocTypeDiffers (bytes_eq o.doc_type doc_type) >>! λ typed.
    timely signer.cert moment o >>! λ in_time.
    Done (Ok o)

-- what is looked at of the object, by whether the signer signed the payload
abbrev pub object_where : ℤ → List ℕ → Signer → Bool → Plan (Result Object Stop)
object_where moment doc_type signer confirmed = check_that checks.IssuerSignature confirmed >>! λ held. object_checks moment doc_type signer

-- the object of a trusted signer
abbrev pub issued_object : List Root → ℤ → List ℕ → Part → Plan (Result Object Stop)
issued_object roots moment doc_type item = signer_of roots moment item >>! object_of moment doc_type
