-- What a reader's name rests on (ISO/IEC 18013-5, 9.1.4): what the wallet's talk with its key device holds.
use Rattle.std.specs.Prelude.{◌≡◌, ℕ, ℤ, Any, Contains, List, [], true, Some, Ok}
use Rattle.std.specs.Str.{bytes_eq}
use Rattle.cert_view.specs.Certificate.{Fields, certificate}
use Rattle.cert_view.specs.Root.{listed}
use Rattle.cert_view.specs.declared.root.Root.{Root}
use Rattle.cose_msgs.specs.Structures.{signed_structure}
use Rattle.cose_msgs.specs.Transcript.{reader_payload}
use Rattle.doc_request.specs.Asked.{Document}
use Rattle.doc_request.specs.Known.{Authentication, authentication_of, known}
use Rattle.root_trust.specs.Validity.{is_valid}
use Rattle.key_device.specs.Plan.{Walks}
use Rattle.key_device.specs.declared.ask.Ask.TheVariants.{Verify}
use Rattle.key_device.specs.declared.exchange.Exchange.{Exchange}
use Rattle.key_device.specs.declared.point.Point.{Point}
use Rattle.key_device.specs.declared.told.Told.TheVariants.{Yes}

-- the talk holds yes to the question whether that is the key's signature of the message
abbrev pub Confirms : List Exchange → Point → List ℕ → List ℕ → Type 0
Confirms talk key message signature = Any (λ (e : Exchange). (e.ask ≡ Verify key message signature) × (e.told ≡ Yes)) talk

-- A trusted root whose certificate is of the issuer's name signed the reader's certificate, the moment lies in both
-- validities, the reader signed what it asks for in this session, and the name is that of the root.
pub record IsConfirmed (document : Document) (transcript : List ℕ) (readers : List Root) (moment : ℤ) (talk : List Exchange) (name : List ℕ) : Type 0 where
  pub own : Authentication
  pub form : authentication_of document ≡ Some own
  pub root : Root
  pub trusted : Contains readers root
  pub fields : Fields
  pub reads : certificate (listed root).bytes ≡ Ok fields
  pub issuer : bytes_eq fields.tbs.subject own.cert.tbs.issuer ≡ true
  pub confirmed : Confirms talk fields.tbs.key own.cert.message own.cert.signature
  pub valid : is_valid moment own.cert ≡ true
  pub root_valid : is_valid moment fields ≡ true
  pub signed : Confirms talk own.cert.tbs.key (signed_structure own.signed.protected (reader_payload transcript document.items)) own.signed.signature
  pub named : (listed root).name ≡ name

-- A law: whatever the device was asked and told, a reader is named only so.
abbrev pub AreNamesConfirmed : Type 0
AreNamesConfirmed =
    (document : Document) (transcript : List ℕ) (readers : List Root) (moment : ℤ) (talk : List Exchange) (name : List ℕ)
    → Walks (known document transcript readers moment) talk [] [] (Ok (Some name)) → IsConfirmed document transcript readers moment talk name
