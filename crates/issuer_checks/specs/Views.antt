-- What contracts see of what is read of a document.
use Rattle.cert_view.specs.Cert.{fields}
use Rattle.cose_msgs.specs.MessageView.{signed}
use Rattle.mso_digests.specs.MsoView.{object_seen}
use Rattle.issuer_checks.specs.declared.issuer_statement.IssuerStatement as issues
use Rattle.issuer_checks.specs.declared.issuer_auth.IssuerAuth as auths
use Rattle.issuer_checks.specs.declared.signer.Signer as signers
use Rattle.verdict_model.specs.IssuerStatement.{IssuerStatement, IssuerAuth, Signer}

abbrev pub auth_seen : auths.IssuerAuth → IssuerAuth
auth_seen a = record { signed = signed a.signed; payload = a.payload.now }

abbrev pub signer_seen : signers.Signer → Signer
signer_seen s = record { auth = auth_seen s.auth; cert = fields s.cert }

abbrev pub issued_seen : issues.IssuerStatement → IssuerStatement
issued_seen it = record { object = object_seen it.object; key = it.key }
