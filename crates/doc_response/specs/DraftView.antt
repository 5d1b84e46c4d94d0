-- What contracts see of a document of a response that is being put together.
use Rattle.doc_response.specs.declared.draft_document.DraftDocument.{DraftDocument}
use Rattle.doc_response.specs.Draft.{Document}

abbrev pub document_seen : DraftDocument → Document
document_seen document = record { answered = document.answered; issuer_auth = document.issuer_auth.now; auth = document.auth }
