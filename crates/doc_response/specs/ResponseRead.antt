-- What contracts see of a response that was read.
use Rattle.doc_response.specs.declared.response.Response as read
use Rattle.doc_response.specs.Response.{Response}
use Rattle.doc_response.specs.ResponseDocs.{documents_left}
use Rattle.doc_response.specs.ResponseErrors.{errors_left}

abbrev pub response_seen : read.Response → Response
response_seen r = record { status = r.status; documents = documents_left r.documents; errors = errors_left r.errors }
