-- What a reader finds of a document, and what its key device told of it.
use Rattle.std.specs.Prelude.{List, [], ◌∷◌, filter, Bool, true, false, if◌then◌else◌, Option, Some, None, option_map}
use Rattle.std.specs.Result.{result_ok}
use Rattle.mdoc_outside.specs.OptionSteps.{◌>>=◌}
use Rattle.cert_view.specs.Certificate.{Fields, certificate}
use Rattle.cert_view.specs.Root.{listed}
use Rattle.cert_view.specs.declared.root.Root.{Root}
use Rattle.doc_response.specs.Response.{Document}
use Rattle.key_device.specs.declared.exchange.Exchange.{Exchange}
use Rattle.key_device.specs.declared.point.Point.{Point}
use Rattle.key_device.specs.declared.told.Told.{Told}
use Rattle.key_device.specs.declared.told.Told.TheVariants as tells
use Rattle.mso_digests.specs.Object.{Object, object}
use Rattle.verdict_model.specs.Documents.{JudgeContext}
use Rattle.verdict_model.specs.IssuerStatement.{device_key, issuer_auth, signer_certificate}
use Rattle.root_trust.specs.Names.{is_named}
use Rattle.verdict_model.specs.Shown.{DeviceProof, device_proof}

-- ---- what stands in the document

abbrev pub cert_of : Document → Option Fields
cert_of d = do
  auth ← issuer_auth d.issuer_auth
  signer_certificate auth

abbrev pub object_of : Document → Option Object
object_of d = do
  auth ← issuer_auth d.issuer_auth
  result_ok (object auth.payload)

abbrev pub key_of : Document → Option Point
key_of d = do
  o ← object_of d
  device_key o

abbrev pub proof_of : Document → Option DeviceProof
proof_of d = device_proof d.device_auth

-- ---- what the device told

abbrev pub is_yes : Option Told → Bool
is_yes (Some tells.Yes) = true
is_yes told = false

-- the trusted roots of the name of a certificate's issuer, in the order of the file
abbrev pub named_roots : List Root → Fields → List Root
named_roots roots cert = filter (λ (root : Root). is_named cert (certificate (listed root).bytes)) roots

-- Roots are asked about one after the other, up to the first yes: the root of which that was told, and what was told after
-- it.
abbrev pub confirmed : List Root → List Exchange → Option (Root × List Exchange)
confirmed [] talk = None
confirmed (root ∷ roots) [] = None
confirmed (root ∷ roots) (e ∷ talk) = if is_yes (Some e.told) then Some (root, talk) else confirmed roots talk

abbrev pub confirmed_of : JudgeContext → Document → List Exchange → Option (Root × List Exchange)
confirmed_of s d talk = do
  cert ← cert_of d
  confirmed (named_roots s.roots cert) talk

-- the root that signed the certificate
abbrev pub root_of : JudgeContext → Document → List Exchange → Option Root
root_of s d talk = option_map (λ (found : Root × List Exchange). found.0) (confirmed_of s d talk)

-- what was told first, and next
abbrev pub first_told : List Exchange → Option Told
first_told [] = None
first_told (e ∷ talk) = Some e.told

abbrev pub next_told : List Exchange → Option Told
next_told [] = None
next_told (e ∷ talk) = first_told talk

-- Behind the roots the device is asked about the object's signature, and then about the device's proof.
abbrev pub told_of_object : JudgeContext → Document → List Exchange → Option Told
told_of_object s d talk = confirmed_of s d talk >>= λ found. first_told found.1

abbrev pub told_of_device : JudgeContext → Document → List Exchange → Option Told
told_of_device s d talk = confirmed_of s d talk >>= λ found. next_told found.1
