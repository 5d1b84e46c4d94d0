use Rattle.std.proofs.Common.{◌≡◌, Err, subst}
use Rattle.mdoc_outside.specs.declared.key_name.KeyName.TheVariants.{IssuerAuth}
use Rattle.cbor_view.specs.Parts.{Part}
use Rattle.cbor_maps.specs.NamedMap.{whole_map}
use Rattle.cbor_maps.specs.Reading.{field, any_in}
use Rattle.doc_response.specs.Response.{issuer_signed, namespaces, with_auth}
use Rattle.doc_response.proofs.BothFaults.{both-faults}
use Rattle.doc_response.proofs.reading.read_issuer_signed.Goals as goal

pub returns-in-Err-Err : goal.returns-in-Err-Err
returns-in-Err-Err c =
    let map = whole_map c.new-map.result in
    subst (λ (m : Part). issuer_signed m ≡ Err c.first_of.result) c.new-map.ensures.map
    (both-faults with_auth (namespaces map) (field IssuerAuth any_in map) c.in-Err-Err.fault c.fault_of-in-Err-Err.result c.first_of.result c.in-Err-Err.other
    c.in-Err-Err.ensures.exact c.in-Err-Err.ensures'.exact c.fault_of-in-Err-Err.ensures c.first_of.ensures)
