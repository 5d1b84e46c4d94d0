use Rattle.std.proofs.Common.{◌∙◌, ℕ, List, ap, sym}
use Rattle.doc_response.specs.Namespaces.{texts}
use Rattle.doc_response.proofs.FirstsLemmas.{more, more-start, more-added, texts-drop}
use Rattle.doc_response.proofs.namespaces.distinct_texts.Goals as goal

pub loop-text-init : goal.loop-text-init
loop-text-init c = rw c.new-found.ensures.items (more-start (texts c.args.list.now))

pub loop-text-preserved : goal.loop-text-preserved
loop-text-preserved c =
    let found = texts c.loop-text.found.items in
    rw c.in_ok-add.ensures (
    more-added found _ _
    ∙ ap (λ (rest : List (List ℕ)). more found rest) (sym (texts-drop c.args.list.now c.loop-text.text-index _ c.loop-text-test.true))
    ∙ c.loop-text.invariant)
