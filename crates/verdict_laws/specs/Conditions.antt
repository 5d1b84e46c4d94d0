-- The checks of a document as a list in their order (ISO/IEC 18013-5, 9.1.2, 9.1.3 and 9.3.1), each with its condition and
-- the values that it keeps, and the laws that a refusal is by the first of them that fails.
use Rattle.std.specs.Prelude.{◌≡◌, ◌↔◌, int_le, List, [], ◌∷◌, ◌++◌, Bool, true, false, Option, Some, None, is_some, Ok}
use Rattle.std.specs.List.{AllByRecursion}
use Rattle.std.specs.Str.{bytes_eq}
use Rattle.mdoc_outside.specs.OptionSteps.{◌>>=◌, unless}
use Rattle.root_trust.specs.Validity.{are_valid, is_valid}
use Rattle.doc_response.specs.Response.{Document}
use Rattle.key_device.specs.Plan.{Walks}
use Rattle.key_device.specs.declared.exchange.Exchange.{Exchange}
use Rattle.key_device.specs.declared.told.Told.{Told}
use Rattle.key_device.specs.declared.told.Told.TheVariants as tells
use Rattle.verdict_model.specs.Documents.{JudgeContext, judged_document}
use Rattle.verdict_model.specs.Elements.{is_type_requested}
use Rattle.verdict_model.specs.IssuerStatement.{issuer_auth}
use Rattle.root_trust.specs.Names.{has_named_root}
use Rattle.verdict_model.specs.Shown.{DeviceProof, BySignature, ByMac, code_of, payload_of}
use Rattle.verdict_model.specs.declared.doc_check.DocCheck.{DocCheck}
use Rattle.verdict_model.specs.declared.doc_check.DocCheck.TheVariants as checks
use Rattle.verdict_model.specs.declared.doc_verdict.DocVerdict.{DocVerdict}
use Rattle.verdict_laws.specs.Found.{cert_of, is_yes, key_of, object_of, proof_of, root_of, told_of_device, told_of_object}

-- the condition on the device's proof, by what was told of it
abbrev pub unless_shown : JudgeContext → Document → Option Told → DeviceProof → Option DocCheck
unless_shown s d told (BySignature signed) = unless (is_yes told) checks.DeviceSignature
unless_shown s d (Some tells.Refused) (ByMac code) = Some checks.DeviceKeyRefused
unless_shown s d (Some (tells.Secret secret)) (ByMac code) =
    unless (bytes_eq code.tag (code_of s.session (payload_of s.session d) code.protected secret))
    (checks.DeviceMac code.tag (code_of s.session (payload_of s.session d) code.protected secret))
unless_shown s d told (ByMac code) = None

-- The checks that fail, each at its place, under what was told. A condition on a value holds where that isn't there: that it
-- is there is a check of its own, before it.
abbrev pub failures : JudgeContext → Document → List Exchange → List (Option DocCheck)
failures s d talk =
    unless (is_type_requested s.request d.doc_type) checks.DocNotRequested
    ∷ unless (is_some (issuer_auth d.issuer_auth)) checks.IssuerAuthForm
    ∷ unless (is_some (cert_of d)) checks.CertForm
    ∷ (cert_of d >>= λ cert. unless (has_named_root cert s.roots) checks.CertUntrusted)
    ∷ unless (is_some (root_of s d talk)) checks.CertSignature
    ∷ (cert_of d >>= λ cert. root_of s d talk >>= λ root. unless (are_valid s.moment cert root) checks.CertTime)
    ∷ (cert_of d >>= λ cert. unless cert.tbs.signs_documents checks.KeyUse)
    ∷ unless (is_yes (told_of_object s d talk)) checks.IssuerSignature
    ∷ unless (is_some (object_of d)) checks.MsoForm
    ∷ (object_of d >>= λ o. unless (bytes_eq o.doc_type d.doc_type) checks.DocTypeDiffers)
    ∷ (object_of d >>= λ o. cert_of d >>= λ cert. unless (is_valid o.signed cert) (checks.SignedTime o.signed cert.tbs.not_before))
    ∷ (object_of d >>= λ o. unless (int_le o.from s.moment) (checks.NotYetValid o.from s.moment))
    ∷ (object_of d >>= λ o. unless (int_le s.moment o.until) (checks.Expired o.until s.moment))
    ∷ unless (is_some (key_of d)) checks.DeviceKeyForm
    ∷ unless (is_some (proof_of d)) checks.DeviceAuthForm
    ∷ (proof_of d >>= unless_shown s d (told_of_device s d talk))
    ∷ []

abbrev pub Holds : Option DocCheck → Type 0
Holds failure = failure ≡ None

-- A check is the first of a list that fails: those before it hold.
pub record IsFirstFailure (check : DocCheck) (list : List (Option DocCheck)) : Type 0 where
  pub before : List (Option DocCheck)
  pub behind : List (Option DocCheck)
  pub at : list ≡ before ++ Some check ∷ behind
  pub holding : AllByRecursion Holds before

-- A law: whatever the reader's device was asked and told, where it answers, a document is refused by a check exactly where
-- that is the first of the list that fails.
abbrev pub AreRefusedByFirstFailure : Type 0
AreRefusedByFirstFailure =
    (s : JudgeContext) (d : Document) (talk : List Exchange) (verdict : DocVerdict) (check : DocCheck)
    → Walks (judged_document s d) talk [] [] (Ok verdict)
    → (verdict.refused ≡ Some check) ↔ IsFirstFailure check (failures s d talk)

-- A law: and it is accepted exactly where all of them hold.
abbrev pub AreAcceptedWhereAllHold : Type 0
AreAcceptedWhereAllHold =
    (s : JudgeContext) (d : Document) (talk : List Exchange) (verdict : DocVerdict)
    → Walks (judged_document s d) talk [] [] (Ok verdict)
    → (verdict.refused ≡ None) ↔ AllByRecursion Holds (failures s d talk)
