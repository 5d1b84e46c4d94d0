use Rattle.std.proofs.Common.{◌≡◌, length, arith}
use Rattle.std.specs.Prelude.{option_copied}
use Rattle.std.proofs.lemmas.Grind.{common_steps}
use Rattle.std.proofs.lemmas.List.{length-map}
use Rattle.doc_request.specs.Views.{document_seen}
use Rattle.wallet_answer.specs.ChoiceView.{shown_seen}
use Rattle.wallet_answer.specs.Progress.{progress_seen}
use Rattle.wallet_answer.proofs.ChoiceLemmas.{choice_nothing, choice_something}
use Rattle.wallet_answer.proofs.choosing.choice_of.Goals as goal

pub returns-then-is_empty : goal.returns-then-is_empty
returns-then-is_empty c =
    let none : length c.in_ok-answered.field-0.answered.items ≡ 0 = grind (arith, common_steps, length-map) in
    choice_nothing c.args.rules.now (option_copied c.args.reader) (shown_seen c.args.shown.now) (document_seen c.args.asked.now) (progress_seen c.in_ok-answered.field-0) c.in_ok-answered.ensures none

pub returns : goal.returns
returns c =
    let something : length c.in_ok-answered.field-0.answered.items ≡ 0 → ⊥ = λ is. grind (arith, common_steps, length-map) in
    rw (c.key.ensures, c.raw.ensures, c.issuer_auth.ensures.stored)
    (choice_something c.args.rules.now (option_copied c.args.reader) (shown_seen c.args.shown.now) (document_seen c.args.asked.now) (progress_seen c.in_ok-answered.field-0) c.in_ok-answered.ensures something)
