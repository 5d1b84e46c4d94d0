-- What contracts see of a document that was read.
use Rattle.std.specs.Prelude.{[], false, unwrap_or}
use Rattle.cbor_view.specs.Parts.{Part}
use Rattle.cbor_view.specs.View.{part}
use Rattle.doc_store.specs.declared.document.Document as read
use Rattle.doc_store.specs.Store.{Document, document}

-- what no document says
abbrev pub no_document : Document
no_document = record { doc_type = []; uses_mac = false; copies = [] }

-- the document that its bytes spell
abbrev pub document_of : read.Document → Document
document_of d = unwrap_or (document (part d.stored)) no_document

-- the part of the file that it is
abbrev pub document_part : read.Document → Part
document_part d = part d.stored
