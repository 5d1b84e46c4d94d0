-- The end of a spec file: all that has to be there is.
use Rattle.std.specs.Prelude.{List, not, Option, Some, None}
use Rattle.mdoc_outside.specs.OptionSteps.{◌>>=◌, where_true}
use Rattle.issue_spec.specs.SpecSoFar.{SoFar, is_empty}
use Rattle.issue_spec.specs.declared.spec_element.SpecElement.{SpecElement}
use Rattle.issue_spec.specs.declared.spec_fields.SpecFields.{SpecFields}
use Rattle.issue_spec.specs.declared.spec_headers.SpecHeaders.{SpecHeaders}

-- one element or more
abbrev pub some_elements : List SpecElement → Option (List SpecElement)
some_elements elements = where_true (not (is_empty elements)) elements

abbrev pub collected : SpecHeaders → List SpecElement → Option SpecFields
collected h elements = do
  doc_type ← h.doc_type
  uses_mac ← h.uses_mac
  copies ← h.copies
  signer ← h.signer
  signed ← h.signed
  from ← h.from
  until ← h.until
  some ← some_elements elements
  Some (record { doc_type = doc_type; uses_mac = uses_mac; copies = copies; signer = signer; signed = signed; from = from; until = until; update = h.update; elements = some })

abbrev pub fields_of : SoFar → Option SpecFields
fields_of so_far = collected so_far.headers so_far.elements
