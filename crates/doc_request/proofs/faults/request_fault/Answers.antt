use Rattle.std.proofs.Common.{◌∙◌, ap}
use Rattle.cbor_view.specs.Items.{left}
use Rattle.doc_request.specs.Asked.{request_fault}
use Rattle.doc_request.proofs.FirstFaults.{four_checks, of_field-gives}
use Rattle.doc_request.proofs.faults.request_fault.Goals as goal

pub returns : goal.returns
returns c =
    four_checks _ _ _ _ _ _ _ _ _ _ _ c.earlier-3.ensures c.earlier-2.ensures c.earlier.ensures
    (c.of_field-version.ensures ∙ of_field-gives (λ t. t.now) _ _ c.text.ensures.exact)
    (c.of_field-requests.ensures ∙ of_field-gives left _ _ c.items.ensures.exact)
    c.version_fault.ensures
    c.documents_fault-documents.ensures
    ∙ ap request_fault c.new-map.ensures.map
