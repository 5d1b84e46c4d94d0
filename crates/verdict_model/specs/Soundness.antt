-- What an accepted document rests on: what the reader's talk with its key device holds.
use Rattle.std.specs.Prelude.{◌≡◌, ◌⊎◌, ℕ, List, [], true, Some, Ok}
use Rattle.std.specs.Str.{bytes_eq}
use Rattle.cert_view.specs.Certificate.{Fields, certificate}
use Rattle.cert_view.specs.Root.{listed}
use Rattle.cert_view.specs.declared.root.Root.{Root}
use Rattle.cose_msgs.specs.Message.{Signed, Authenticated}
use Rattle.cose_msgs.specs.Structures.{signed_structure}
use Rattle.doc_response.specs.Response.{Document}
use Rattle.key_device.specs.Plan.{Walks}
use Rattle.key_device.specs.declared.ask.Ask.{Ask}
use Rattle.key_device.specs.declared.ask.Ask.TheVariants.{Agree, Verify}
use Rattle.key_device.specs.declared.exchange.Exchange.{Exchange}
use Rattle.key_device.specs.declared.point.Point.{Point}
use Rattle.key_device.specs.declared.told.Told.{Told}
use Rattle.key_device.specs.declared.told.Told.TheVariants.{Secret, Yes}
use Rattle.mso_digests.specs.MadeFrom.{SomeOf}
use Rattle.mso_digests.specs.Object.{object}
use Rattle.verdict_model.specs.Documents.{JudgeContext, document_checks}
use Rattle.verdict_model.specs.Elements.{is_type_requested}
use Rattle.verdict_model.specs.IssuerStatement.{IssuerStatement, Signer, device_key, issuer_auth, signer_certificate}
use Rattle.verdict_model.specs.Shown.{BySignature, ByMac, code_of, device_proof, payload_of}

-- the talk has a question with this answer
abbrev pub Holds : List Exchange → Ask → Told → Type 0
Holds talk ask told = SomeOf (λ (e : Exchange). (e.ask ≡ ask) × (e.told ≡ told)) talk

-- that a key's signature of a message was confirmed
abbrev pub Confirms : List Exchange → Point → List ℕ → List ℕ → Type 0
Confirms talk key message signature = Holds talk (Verify key message signature) Yes

-- a trusted root, of the name of a certificate's issuer, that signed the certificate
pub record Trusts (talk : List Exchange) (roots : List Root) (cert : Fields) : Type 0 where
  pub root : Root
  pub trusted : SomeOf (λ (other : Root). other ≡ root) roots
  pub fields : Fields
  pub reads : certificate (listed root).bytes ≡ Ok fields
  pub named : bytes_eq fields.tbs.subject cert.tbs.issuer ≡ true
  pub confirmed : Confirms talk fields.tbs.key cert.message cert.signature

-- the device of that key signed the session's payload, or its code is that of the payload under the secret told
pub record ShowsBySignature (talk : List Exchange) (s : JudgeContext) (d : Document) (key : Point) : Type 0 where
  pub signed : Signed
  pub proof : device_proof d.device_auth ≡ Some (BySignature signed)
  pub confirmed : Confirms talk key (signed_structure signed.protected (payload_of s.session d)) signed.signature

pub record ShowsByMac (talk : List Exchange) (s : JudgeContext) (d : Document) (key : Point) : Type 0 where
  pub code : Authenticated
  pub proof : device_proof d.device_auth ≡ Some (ByMac code)
  pub secret : List ℕ
  pub agreed : Holds talk (Agree s.session.key key) (Secret secret)
  pub same : bytes_eq code.tag (code_of s.session (payload_of s.session d) code.protected secret) ≡ true

-- What a document rests on of which the object and the device key are these.
pub record IsSound (s : JudgeContext) (d : Document) (talk : List Exchange) (said : IssuerStatement) : Type 0 where
  pub requested : is_type_requested s.request d.doc_type ≡ true
  pub signer : Signer
  pub auth : issuer_auth d.issuer_auth ≡ Some signer.auth
  pub cert : signer_certificate signer.auth ≡ Some signer.cert
  pub trusts : Trusts talk s.roots signer.cert
  pub signed : Confirms talk signer.cert.tbs.key (signed_structure signer.auth.signed.protected signer.auth.payload) signer.auth.signed.signature
  pub payload : object signer.auth.payload ≡ Ok said.object
  pub key : device_key said.object ≡ Some said.key
  pub shown : ShowsBySignature talk s d said.key ⊎ ShowsByMac talk s d said.key

-- A law: whatever the reader's device was asked and told, a document is accepted only where its talk holds yes for the
-- object's signature under the certificate's key, yes for the certificate under the key of a trusted root of its
-- issuer's name, and yes for the device's signature over this session's payload under the object's device key, or a
-- secret under which the device's code is that of the payload.
abbrev pub AreAcceptedSound : Type 0
AreAcceptedSound =
    (s : JudgeContext) (d : Document) (talk : List Exchange) (said : IssuerStatement)
    → Walks (document_checks s d) talk [] [] (Ok said) → IsSound s d talk said
