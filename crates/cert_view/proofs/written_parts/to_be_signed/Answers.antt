use Rattle.std.proofs.Common.{◌≡◌, ◌∙◌, IfOk, ℕ, List, ap, subst}
use Rattle.cert_view.specs.Written.{integer, name}
use Rattle.cert_view.proofs.Assembled.{to-be-signed, validity-kept}
use Rattle.cert_view.proofs.written_parts.to_be_signed.Goals as goal

pub returns : goal.returns
returns c =
    subst (λ (x : List ℕ). IfOk c.sequence.result (λ bytes. bytes.items ≡ x))
    (to-be-signed c.args.draft.now _ _ _ _ _ _
    (c.deref.ensures.value ∙ c.in_ok-serial.ensures ∙ ap integer c.to_be_bytes.ensures)
    (c.deref-2.ensures.value ∙ c.in_ok-issuer.ensures ∙ ap name c.as_slice.ensures)
    (c.deref-3.ensures.value ∙ c.in_ok-validity.ensures ∙ validity-kept _ _ c.requires.from c.requires.until)
    (c.deref-4.ensures.value ∙ c.in_ok-subject.ensures ∙ ap name c.as_slice-2.ensures)
    (c.deref-5.ensures.value ∙ c.in_ok-key.ensures)
    c.extensions-extensions.ensures)
    c.sequence.ensures
