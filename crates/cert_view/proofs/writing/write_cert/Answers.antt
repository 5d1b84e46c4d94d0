use Rattle.std.proofs.Common.{◌≡◌, ◌∙◌, ap}
use Rattle.cert_view.specs.Certificate.{certificate}
use Rattle.cert_view.specs.Written.{certificate_of, written}
use Rattle.cert_view.proofs.WrittenWhole.{read-as-written}
use Rattle.cert_view.proofs.writing.write_cert.Goals as goal

pub returns-clause-read : goal.returns-clause-read
unfolding written
returns-clause-read g c =
    let whole : c.in_ok-certificate_of.field-0 ≡ written c.args.draft.now c.in-Ok.pair =
    c.in_ok-certificate_of.ensures ∙ ap (λ message. certificate_of message c.in-Ok.pair) (c.deref-2.ensures.value ∙ c.in_ok-message.ensures) in
    record {
      pair = c.in-Ok.pair;
      size = c.has_length.ensures;
      read = ap certificate whole ∙ read-as-written c.args.draft.now c.in-Ok.pair c.is_draft.ensures c.has_length.ensures;
    }
