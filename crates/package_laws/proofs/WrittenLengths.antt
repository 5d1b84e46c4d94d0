-- No part of a package is longer than the package.
use Rattle.std.proofs.Common.{◌≤◌, ℕ, Bool, List, [], ◌∷◌, length, Some, arith}
use Rattle.std.specs.Prelude.{flat_map}
use Rattle.std.specs.List.{AllByRecursion}
use Rattle.std.proofs.lemmas.List.{length-append}
use Rattle.cbor_maps.specs.Labels.{label_bytes}
use Rattle.cbor_maps.specs.Writing.{key_bytes, map_head}
use Rattle.cbor_view.specs.Shortest.{array_bytes, bytes_bytes, shortest_head}
use Rattle.cose_msgs.specs.Written.{chain_map, sign1_bytes}
use Rattle.doc_store.specs.Store.{Copy}
use Rattle.issue_spec.specs.declared.spec_fields.SpecFields.{SpecFields}
use Rattle.mso_digests.specs.Written.{Draft, object_bytes, object_map}
use Rattle.issuing.specs.Package.{package_bytes}
use Rattle.store_write.specs.Written.{copy_bytes, document_map, store_map}

parts-short : (parts : List (List ℕ)) (most : ℕ) → length (flat_map (λ (part : List ℕ). part) parts) ≤ most → AllByRecursion (λ (part : List ℕ). length part ≤ most) parts
parts-short [] most few = tt
parts-short (part ∷ parts) most few =
    let both = length-append part (flat_map (λ (other : List ℕ). other) parts) in
    (omega (arith, both, few), parts-short parts most (omega (arith, both, few)))

array-parts : (parts : List (List ℕ)) → length (flat_map (λ (part : List ℕ). part) parts) ≤ length (array_bytes parts)
array-parts parts = omega (arith, length-append (shortest_head 4 (length parts)) (flat_map (λ (part : List ℕ). part) parts))

document-array : (doc_type : List ℕ) (uses_mac : Bool) (copies : List (List ℕ)) → length (array_bytes copies) ≤ length (document_map doc_type uses_mac copies)
unfolding document_map key_bytes map_head
document-array doc_type uses_mac copies = simp length-append (omega arith)

store-array : (documents : List (List ℕ)) → length (array_bytes documents) ≤ length (store_map documents)
unfolding store_map key_bytes map_head
store-array documents = simp length-append (omega arith)

pub copies-short : (fields : SpecFields) (copies : List (List ℕ)) (most : ℕ) → length (package_bytes fields copies) ≤ most → AllByRecursion (λ (copy : List ℕ). length copy ≤ most) copies
copies-short fields copies most few =
    let document = document_map fields.doc_type fields.uses_mac copies in
    let one = array-parts (document ∷ []) in
    let own = length-append document [] in
    parts-short copies most (omega (arith, few, store-array (document ∷ []), one, own, document-array fields.doc_type fields.uses_mac copies, array-parts copies))

pub auth-shorter : (copy : Copy) → length copy.issuer_auth ≤ length (copy_bytes copy)
unfolding copy_bytes key_bytes map_head
auth-shorter copy = simp length-append (omega arith)

pub chain-shorter : (chain payload signature : List ℕ) → length chain ≤ length (sign1_bytes (Some chain) (Some payload) signature)
unfolding sign1_bytes chain_map label_bytes map_head
chain-shorter chain payload signature = simp length-append (omega arith)

pub payload-shorter : (chain payload signature : List ℕ) → length payload ≤ length (sign1_bytes (Some chain) (Some payload) signature)
unfolding sign1_bytes
payload-shorter chain payload signature = simp length-append (omega arith)

pub object-shorter : (d : Draft) → length (object_map d) ≤ length (object_bytes d)
object-shorter d =
    omega (arith, length-append (shortest_head 6 24) (bytes_bytes (object_map d)), length-append (shortest_head 2 (length (object_map d))) (object_map d))
