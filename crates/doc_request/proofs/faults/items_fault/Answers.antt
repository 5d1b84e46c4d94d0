use Rattle.std.proofs.Common.{◌∙◌, ap}
use Rattle.std.specs.Prelude.{option_map}
use Rattle.cbor_view.specs.View.{part}
use Rattle.doc_request.specs.Asked.{items_fault}
use Rattle.doc_request.proofs.FirstFaults.{four_checks, of_field-gives}
use Rattle.doc_request.proofs.faults.items_fault.Goals as goal

pub returns : goal.returns
returns c =
    four_checks _ _ _ _ _ _ _ _ _ _ _ c.earlier-3.ensures c.earlier-2.ensures c.earlier.ensures
    (c.of_field-doc_type.ensures ∙ of_field-gives (λ t. t.now) _ _ c.text.ensures.exact)
    (c.of_field-spaces.ensures ∙ of_field-gives part _ _ c.map.ensures.exact)
    (c.of_field-info.ensures ∙ of_field-gives (option_map part) _ _ c.optional_item.ensures.exact)
    c.namespaces_fault.ensures
    ∙ ap items_fault c.new-map.ensures.map
