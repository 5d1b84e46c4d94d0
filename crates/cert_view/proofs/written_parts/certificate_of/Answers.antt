use Rattle.std.proofs.Common.{◌∙◌, ℕ, List, [], ◌∷◌, ap}
use Rattle.cert_view.specs.Written.{algorithm, sequence}
use Rattle.cert_view.proofs.written_parts.certificate_of.Goals as goal

pub returns : goal.returns
returns c =
    c.from_vec.ensures ∙ c.in_ok-bytes.ensures
    ∙ ap (λ (s : List ℕ). sequence (c.args.message.now ∷ algorithm ∷ s ∷ [])) (c.deref.ensures.value ∙ c.in_ok-signature.ensures)
