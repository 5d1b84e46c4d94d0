-- What contracts see of a request that was read.
use Rattle.std.specs.Prelude.{List, [], ◌++◌, filter_map, Option, Some, None, option_map}
use Rattle.cbor_view.specs.Items.{left}
use Rattle.cbor_view.specs.Pairs.{pairs_left}
use Rattle.cbor_view.specs.Parts.{Part}
use Rattle.cbor_view.specs.View.{part}
use Rattle.cbor_view.specs.declared.pairs.Pairs.{Pairs}
use Rattle.doc_request.specs.declared.doc_ask.DocAsk.{DocAsk}
use Rattle.doc_request.specs.declared.documents.Documents as read
use Rattle.doc_request.specs.declared.element.Element.{Element}
use Rattle.doc_request.specs.declared.elements.Elements.{Elements}
use Rattle.doc_request.specs.declared.request.Request.{Request}
use Rattle.doc_request.specs.declared.wish_draft.WishDraft.{WishDraft}
use Rattle.doc_request.specs.Asked.{Document, documents}
use Rattle.doc_request.specs.Spaces.{element, elements}

abbrev pub element_seen : Element → WishDraft
element_seen e = record { ns = e.ns.now; name = e.name.now; retain = e.retain }

-- the entries that are left of a namespace that was begun
abbrev pub names_left : Option Pairs → List (Part × Part)
names_left None = []
names_left (Some names) = pairs_left names

-- the elements that are left of it, and those of the namespaces after it
abbrev pub elements_left : Elements → List WishDraft
elements_left e = filter_map (element e.ns.now) (names_left e.names) ++ elements (pairs_left e.spaces)

abbrev pub document_seen : DocAsk → Document
document_seen d = record { doc_type = d.doc_type.now; items = d.items.now; reader_auth = option_map part d.reader_auth; wishes = elements (pairs_left d.spaces) }

abbrev pub documents_left : read.Documents → List Document
documents_left d = documents (left d.requests)

abbrev pub begun_left : Option Elements → List WishDraft
begun_left None = []
begun_left (Some elements) = elements_left elements

-- the documents of a request
abbrev pub documents_of : Request → List Document
documents_of r = documents (left r.requests)
