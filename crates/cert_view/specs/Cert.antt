-- What contracts see of a certificate.
use Rattle.cert_view.specs.Tbs.{Tbs}
use Rattle.cert_view.specs.Certificate.{Fields}
use Rattle.cert_view.specs.declared.tbs.TbsFields.{TbsFields}
use Rattle.cert_view.specs.declared.cert.Cert.{Cert}

abbrev pub tbs_fields : TbsFields → Tbs
tbs_fields s = record {
  issuer = s.issuer.now;
  subject = s.subject.now;
  not_before = s.not_before;
  not_after = s.not_after;
  key = s.key;
  signs_documents = s.signs_documents;
}

abbrev pub fields : Cert → Fields
fields c = record { tbs = tbs_fields c.tbs; message = c.message.now; signature = c.signature }
