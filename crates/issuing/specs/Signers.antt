-- The signer of documents, as a plan of questions to the issuer's device (ISO/IEC 18013-5, annex B).
use Rattle.std.specs.Prelude.{ℕ, ℤ, true, false, List, codes, Some, None, Result, Ok, Err}
use Rattle.cert_view.specs.Issued as certs
use Rattle.cert_view.specs.declared.cert_draft.CertDraft.{CertDraft}
use Rattle.cert_view.specs.declared.write_fault.WriteFault.{WriteFault}
use Rattle.issue_spec.specs.declared.spec_fields.SpecFields.{SpecFields}
use Rattle.issue_spec.specs.declared.spec_signer.SpecSigner.{SpecSigner}
use Rattle.issue_spec.specs.declared.spec_signer.SpecSigner.TheVariants.{New, Known}
use Rattle.key_device.specs.Plan.{Plan, Done}
use Rattle.key_device.specs.PlanSteps.{◌>>=◌, mapped}
use Rattle.key_device.specs.Questions.{fresh}
use Rattle.key_device.specs.declared.made.Made.{Made}
use Rattle.issuing.specs.declared.issue_fault.IssueFault.{IssueFault}
use Rattle.issuing.specs.declared.issue_fault.IssueFault.TheVariants.{Device}
use Rattle.issuing.specs.declared.signer.Signer.{Signer}

-- the root: serial number 1, issued by itself
abbrev pub root_draft : ℤ → ℤ → Made → CertDraft
root_draft from until root = record {
  serial = 1;
  issuer = codes "issuer";
  subject = codes "issuer";
  from = from;
  until = until;
  key = root.public;
  signer = false;
  issuer_key = root.key;
}

-- the signer: serial number 2, issued by the root
abbrev pub signer_draft : ℤ → ℤ → Made → Made → CertDraft
signer_draft from until root signer = record {
  serial = 2;
  issuer = codes "issuer";
  subject = codes "signer";
  from = from;
  until = until;
  key = signer.public;
  signer = true;
  issuer_key = root.key;
}

abbrev pub as_issue : Result (List ℕ) WriteFault → Result (List ℕ) IssueFault
as_issue (Ok certificate) = Ok certificate
as_issue (Err fault) = Err Device

-- the certificate of a draft: one question, for the signature of its issuer's key
unfoldable pub certified : CertDraft → Plan (Result (List ℕ) IssueFault)
certified draft = mapped as_issue (certs.issued draft)

abbrev pub with_certificates : Made → List ℕ → List ℕ → Plan (Result Signer IssueFault)
with_certificates signer root_certificate certificate = Done (Ok (record { key = signer.key; certificate = certificate; root = Some root_certificate }))

abbrev pub with_root_certificate : ℤ → ℤ → Made → Made → List ℕ → Plan (Result Signer IssueFault)
with_root_certificate from until root signer root_certificate = certified (signer_draft from until root signer) >>= with_certificates signer root_certificate

abbrev pub with_keys : ℤ → ℤ → Made → Made → Plan (Result Signer IssueFault)
with_keys from until root signer = certified (root_draft from until root) >>= with_root_certificate from until root signer

abbrev pub with_root : ℤ → ℤ → Made → Plan (Result Signer IssueFault)
with_root from until root = fresh Device >>= with_keys from until root

-- a root key and then a signer key, and their certificates, both signed by the root key
unfoldable pub new_signer : ℤ → ℤ → Plan (Result Signer IssueFault)
new_signer from until = fresh Device >>= with_root from until

abbrev pub signer_by : SpecFields → SpecSigner → Plan (Result Signer IssueFault)
signer_by fields New = new_signer fields.from fields.until
signer_by fields (Known key certificate) = Done (Ok (record { key = key; certificate = certificate; root = None }))

abbrev pub signer_of : SpecFields → Plan (Result Signer IssueFault)
signer_of fields = signer_by fields fields.signer
