use Rattle.std.proofs.Common.{◌≡◌, ◌∙◌, length, sym, ap, arith}
use Rattle.doc_response.specs.AnsweredView.{element_seen}
use Rattle.std.proofs.lemmas.List.{length-map}
use Rattle.mdoc_draft.proofs.CoreWritten.{without_errors, with_errors}
use Rattle.mdoc_draft.proofs.response_writer.put_document.Goals as goal

pub returns-then-is_empty : goal.returns-then-is_empty
returns-then-is_empty c =
    let d = c.args.document.now in
    let same : length d.missing ≡ length c.missing_elements.result.now = ap length (sym c.missing_elements.ensures) ∙ length-map c.missing_elements.result.now element_seen in
    let none : length d.missing ≡ 0 = same ∙ grind (arith, c.is_empty.ensures, c.if-is_empty.true) in
    without_errors _ _ d.doc_type d.items d.missing none c.in_ok-put_given.ensures

pub returns : goal.returns
returns c =
    let d = c.args.document.now in
    let same : length d.missing ≡ length c.missing_elements.result.now = ap length (sym c.missing_elements.ensures) ∙ length-map c.missing_elements.result.now element_seen in
    let some : length d.missing ≡ 0 → ⊥ = λ none. grind (arith, c.is_empty.ensures, c.if-is_empty.false, sym same ∙ none) in
    with_errors _ _ _ _ d.doc_type d.items d.missing some
    c.in_ok-put_given-2.ensures c.in_ok-text.ensures.ok (rw c.missing_elements-2.ensures at c.in_ok-append_errors.ensures)
