use Rattle.std.proofs.Common.{◌≡◌, ◌+◌, [], ◌∷◌, Some, length, map, refl, sym, ap, ◌∙◌, arith}
use Rattle.std.proofs.lemmas.List.{length-map}
use Rattle.mdoc_outside.specs.declared.key_name.KeyName.TheVariants.{Documents, DocumentErrors, Status}
use Rattle.cbor_view.specs.Shortest.{array_bytes, uint_bytes}
use Rattle.cbor_maps.specs.Writing.{with_values}
use Rattle.doc_response.specs.Answered.{document_error, if_any}
use Rattle.doc_response.specs.AnsweredView.{text_seen}
use Rattle.doc_response.specs.Namespaces.{entries_of}
use Rattle.doc_response.specs.Written.{document_bytes, full_fields, given, not_given}
use Rattle.doc_response.proofs.PutFields.{map-put, any-count}
use Rattle.doc_response.proofs.writing.write_full.Goals as goal

pub returns : goal.returns
returns c =
    let draft = c.args.parts.now in
    let documents = given draft.documents in
    let types = not_given draft in
    let given_counted : c.entries_of.result ≡ entries_of (length documents) =
    c.entries_of.ensures.entries ∙ ap entries_of (c.in_ok-documents.ensures ∙ c.count_given.ensures ∙ ap (λ x. length (given x)) c.documents.ensures) in
    let kept = c.in_ok-types.types.ok in
    let as_many : c.len.result ≡ length c.in_ok-types.types.items = omega (arith, c.len.ensures, kept) in
    let types_counted : c.entries_of-2.result ≡ entries_of (length types) =
    c.entries_of-2.ensures.entries ∙ ap entries_of (as_many ∙ sym (length-map c.in_ok-types.types.items text_seen) ∙ ap length c.in_ok-types.ensures) in
    let status = (Status, Some (uint_bytes draft.status)) ∷ [] in
    let errors = (DocumentErrors, if_any types (array_bytes (map document_error types))) ∷ status in
    let first = any-count Documents documents (array_bytes (map document_bytes documents)) errors in
    let second = any-count DocumentErrors types (array_bytes (map document_error types)) status in
    let count : 2 + (c.entries_of.result + c.entries_of-2.result) ≡ length (with_values (full_fields draft)) = omega (arith, given_counted, types_counted, first, second) in
    map-put [] c.finish.result (2 + (c.entries_of.result + c.entries_of-2.result)) (full_fields draft) count
    (rw c.finish.ensures
    (rw c.in_ok-uint.ensures.ok
    (rw c.status.ensures
    (rw c.in_ok-append_key-2.ensures
    (rw c.in_ok-append_document_errors.ensures
    (rw c.deref.ensures.value
    (rw c.in_ok-types.ensures
    (rw c.in_ok-append_documents.ensures
    (rw c.documents-2.ensures
    (rw c.in_ok-text.ensures.ok
    (rw c.in_ok-append_key.ensures
    (rw c.in_ok-append_map_head.ensures
    (rw c.new-build.ensures
    refl)))))))))))))
