-- What contracts see of a document that was read, and of what the documents of a response have left.
use Rattle.std.specs.Prelude.{List, []}
use Rattle.cbor_view.specs.View.{part}
use Rattle.doc_response.specs.declared.issuer_part.IssuerPart.{IssuerPart}
use Rattle.doc_response.specs.declared.device_part.DevicePart.{DevicePart}
use Rattle.doc_response.specs.declared.response_doc.ResponseDoc.{ResponseDoc}
use Rattle.doc_response.specs.declared.response_docs.ResponseDocs.{ResponseDocs}
use Rattle.doc_response.specs.Response.{Document, IssuerSigned, DeviceSigned, documents_of, spread_all, whole_document}
use Rattle.doc_response.specs.ResponseView.{items_or_none, namespaces_of, pairs_or_none, value_or}

abbrev pub issuer_seen : IssuerPart → IssuerSigned
issuer_seen it = record { items = spread_all (namespaces_of (pairs_or_none it.namespaces)); auth = part it.auth }

abbrev pub device_seen : DevicePart → DeviceSigned
device_seen it = record { namespaces = it.namespaces.now; auth = part it.auth }

abbrev pub document_seen : ResponseDoc → Document
document_seen d = whole_document (d.doc_type.now, issuer_seen d.issuer) (device_seen d.device)

abbrev pub documents_left : ResponseDocs → List Document
documents_left it = value_or [] (documents_of (items_or_none it.documents))
