use Rattle.std.proofs.Common.{refl, ap, ◌∙◌, List, ℕ}
use Rattle.std.specs.Prelude.{option_copied}
use Rattle.consent.specs.Wish.{wanted}
use Rattle.doc_request.specs.Views.{document_seen, element_seen, elements_left}
use Rattle.wallet_answer.specs.ChoiceView.{shown_seen}
use Rattle.wallet_answer.specs.Progress.{answered_progress, progress_seen}
use Rattle.wallet_answer.proofs.ChoiceLemmas.{wishes_start, wishes_step}
use Rattle.wallet_model.specs.Released.{wish_for}
use Rattle.wallet_answer.proofs.choosing.answer_wishes.Goals as goal

pub loop-element-init : goal.loop-element-init
loop-element-init c = (
  tt,
  tt,
  wishes_start c.args.rules.now (option_copied c.args.reader) (shown_seen c.args.shown.now) _ (document_seen c.args.asked.now) (elements_left c.into_iter-element-iterator.result) c.doc_type-doc_type.result.now
      (rw (c.new.ensures, c.new-2.ensures.items) refl)
      c.doc_type-doc_type.ensures
      (ap elements_left c.into_iter-element-iterator.ensures.into_iter_gives ∙ c.elements-element-items.ensures),
)

pub loop-element-preserved : goal.loop-element-preserved
loop-element-preserved c = (
  tt,
  tt,
  wishes_step c.args.rules.now (option_copied c.args.reader) (shown_seen c.args.shown.now) (progress_seen c.loop-element.progress) (progress_seen c.add.new.self)
      (answered_progress c.args.rules.now (option_copied c.args.reader) (shown_seen c.args.shown.now) (document_seen c.args.asked.now))
      (document_seen c.args.asked.now).doc_type (element_seen c.in-Some.element) (elements_left c.next.new.self) (elements_left c.loop-element.element-iterator)
      (wanted c.wish_of-wish.result) (option_copied c.item_for-found.result)
      c.in-Some.ensures.steps
      (c.wish_of-wish.ensures ∙ ap (λ (text : List ℕ). wish_for text (element_seen c.in-Some.element)) c.doc_type-doc_type.ensures)
      (c.item_for-found.ensures (shown_seen c.args.shown.now).copy c.in_ok-held.ensures)
      (c.in_ok-add.ensures)
      c.loop-element.invariant.2,
)
