use Rattle.std.proofs.Common.{◌≡◌, ◌+◌, [], length, refl, sym, ap, ◌∙◌, arith}
use Rattle.std.proofs.lemmas.List.{length-map}
use Rattle.mdoc_outside.specs.declared.key_name.KeyName.TheVariants.{Errors}
use Rattle.cbor_maps.specs.Writing.{with_values}
use Rattle.doc_response.specs.Answered.{errors_map}
use Rattle.doc_response.specs.AnsweredView.{element_seen}
use Rattle.doc_response.specs.DraftView.{document_seen}
use Rattle.doc_response.specs.Namespaces.{entries_of}
use Rattle.doc_response.specs.Written.{document_bytes, document_fields}
use Rattle.doc_response.proofs.LastDocument.{on-ok}
use Rattle.doc_response.proofs.PutFields.{map-put, any-count}
use Rattle.doc_response.proofs.writing.append_document.Goals as goal

pub returns : goal.returns
unfolding document_bytes
returns c =
    let d = document_seen c.args.document.now in
    let missing = c.missing_elements-missing.ensures in
    let counted : c.entries_of.result ≡ entries_of (length d.answered.missing) =
    c.entries_of.ensures.entries ∙ ap entries_of (sym (length-map c.missing_elements-missing.result.now element_seen) ∙ ap length missing) in
    let errors = any-count Errors d.answered.missing (errors_map d.answered.missing) [] in
    let count : 3 + c.entries_of.result ≡ length (with_values (document_fields d)) = omega (arith, counted, errors) in
    on-ok c.append_missing.result
    (λ done. map-put c.args.build.now c.append_missing.new.build (3 + c.entries_of.result) (document_fields d) count
    (rw done
    (rw missing
    (rw c.in_ok-append.ensures.ok
    (rw c.as_slice.ensures
    (rw c.in_ok-device_signed.ensures
    (rw c.in_ok-append_key-3.ensures
    (rw c.in_ok-append_issuer_signed.ensures
    (rw c.in_ok-append_key-2.ensures
    (rw c.in_ok-text.ensures.ok
    (rw c.doc_type.ensures
    (rw c.in_ok-append_key.ensures
    (rw c.in_ok-append_map_head.ensures
    refl)))))))))))))
    c.append_missing.ensures
