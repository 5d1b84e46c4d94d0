use Rattle.std.proofs.Common.{◌≡◌, map}
use Rattle.std.specs.Prelude.{option_copied}
use Rattle.doc_request.specs.Views.{document_seen, elements_left}
use Rattle.wallet_answer.specs.ChoiceView.{shown_seen}
use Rattle.wallet_answer.specs.Progress.{answered_progress, progress_seen, with_wishes}
use Rattle.wallet_model.specs.Released.{wish_for}
use Rattle.wallet_answer.proofs.choosing.answer_wishes.Given as goal

-- the wishes that are left make it the whole answer
abbrev pub invariant-loop-element : goal.invariant-loop-element
invariant-loop-element l =
    (goal.iterator-loop-element).can_next l.element-iterator ×
    (goal.iterator-loop-element).is_finite l.element-iterator ×
    (with_wishes l.rules (option_copied l.reader) (shown_seen l.shown) (progress_seen l.progress) (map (wish_for (document_seen l.asked).doc_type) (elements_left l.element-iterator))
    ≡ answered_progress l.rules (option_copied l.reader) (shown_seen l.shown) (document_seen l.asked))
