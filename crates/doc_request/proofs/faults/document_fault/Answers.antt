use Rattle.std.proofs.Common.{◌∙◌, ap}
use Rattle.std.specs.Prelude.{option_map}
use Rattle.cbor_view.specs.View.{part}
use Rattle.doc_request.specs.Asked.{document_fault}
use Rattle.doc_request.proofs.FirstFaults.{three_checks, of_field-gives}
use Rattle.doc_request.proofs.faults.document_fault.Goals as goal

pub returns : goal.returns
returns c =
    three_checks _ _ _ _ _ _ _ _ c.earlier-2.ensures c.earlier.ensures
    (c.of_field-inside.ensures ∙ of_field-gives (λ b. b.now) _ _ c.encoded.ensures.exact)
    (c.of_field-reader_auth.ensures ∙ of_field-gives (option_map part) _ _ c.optional_item.ensures.exact)
    c.inside_fault.ensures
    ∙ ap document_fault c.new-map.ensures.map
