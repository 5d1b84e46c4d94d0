use Rattle.std.proofs.Common.{sym, ◌∙◌}
use Rattle.mdoc_outside.proofs.WordSteps.{words_first}
use Rattle.mdoc_outside.proofs.words.first_word.Goals as goal

pub returns-in-Some : goal.returns-in-Some
returns-in-Some c =
    words_first c.args.bytes.now c.after_spaces-bytes.result.now c.in-Some.found.0.now c.in-Some.found.1.now
    c.after_spaces-bytes.ensures (sym c.is_empty.ensures ∙ c.if-is_empty.false) c.in-Some.ensures.parts
