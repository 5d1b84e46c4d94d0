-- What contracts see of a reader's authentication.
use Rattle.cert_view.specs.Cert.{fields}
use Rattle.cose_msgs.specs.MessageView.{signed}
use Rattle.doc_request.specs.declared.authentication.Authentication as read
use Rattle.doc_request.specs.Known.{Authentication}

abbrev pub authentication_seen : read.Authentication → Authentication
authentication_seen a = record { signed = signed a.signed; cert = fields a.cert }
