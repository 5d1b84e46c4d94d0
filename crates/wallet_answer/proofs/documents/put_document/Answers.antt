use Rattle.std.proofs.Common.{ℕ, List, [], map, subst, sym, ap, ◌∙◌}
use Rattle.std.specs.List.{AllByRecursion}
use Rattle.doc_response.specs.AnsweredView.{element_seen, item_seen}
use Rattle.doc_response.specs.Draft.{with_document}
use Rattle.wallet_answer.specs.ChoiceView.{choice_seen}
use Rattle.wallet_answer.specs.Documents.{AreFresh, IsIssued, part_of_choice, with_part}
use Rattle.wallet_answer.proofs.DraftLemmas.{at_place, has_last, is_fresh, item_more, missing_more, whole}
use Rattle.wallet_answer.proofs.documents.put_document.Goals as goal

pub loop-item-init : goal.loop-item-init
loop-item-init c =
    c.in_ok-document.ensures.ok
    ∙ ap (λ (text : List ℕ). with_document text c.args.choice.now.issuer_auth.now c.args.auth c.args.draft.now) c.doc_type.ensures

pub loop-item-preserved : goal.loop-item-preserved
loop-item-preserved c =
    item_more item_seen c.items-items.result.now c.loop-item.item-index _ (choice_seen c.args.choice.now) c.args.auth c.args.draft.now c.loop-item.draft c.item.new.self
    c.loop-item.invariant c.loop-item-test.true c.in_ok-item.ensures.ok

pub item-requires-clause-document : goal.item-requires-clause-document
item-requires-clause-document c = has_last _ c.args.draft.now c.loop-item.draft c.loop-item.invariant

pub item-requires-clause-item : goal.item-requires-clause-item
item-requires-clause-item c =
    at_place IsIssued item_seen c.items-items.result.now c.loop-item.item-index _
    (subst (λ (list : List (List ℕ × List ℕ)). AllByRecursion IsIssued list) (sym c.items-items.ensures) c.requires.items) c.loop-item-test.true

pub loop-element-init : goal.loop-element-init
loop-element-init c =
    c.loop-item.invariant
    ∙ ap (λ (items : List (List ℕ × List ℕ)). with_part (part_of_choice (choice_seen c.args.choice.now) c.args.auth items []) c.args.draft.now)
    (ap (map item_seen) (whole c.items-items.result.now c.loop-item.item-index c.loop-item-test.false) ∙ c.items-items.ensures)

pub loop-element-preserved : goal.loop-element-preserved
loop-element-preserved c =
    missing_more element_seen c.missing_elements-missing.result.now c.loop-element.element-index _ c.args.choice.now.answered.items (choice_seen c.args.choice.now) c.args.auth c.args.draft.now c.loop-element.draft c.missing.new.self
    c.loop-element.invariant c.loop-element-test.true c.in_ok-missing.ensures.ok

pub missing-requires-clause-document : goal.missing-requires-clause-document
missing-requires-clause-document c = has_last _ c.args.draft.now c.loop-element.draft c.loop-element.invariant

pub missing-requires-clause-distinct : goal.missing-requires-clause-distinct
missing-requires-clause-distinct c =
    is_fresh element_seen c.missing_elements-missing.result.now c.loop-element.element-index _ c.args.choice.now.answered.items (choice_seen c.args.choice.now) c.args.auth c.args.draft.now c.loop-element.draft
    (subst AreFresh (sym c.missing_elements-missing.ensures) c.requires.missing) c.loop-element-test.true c.loop-element.invariant

pub returns : goal.returns
returns c =
    c.loop-element.invariant
    ∙ ap (λ (missing : List (List ℕ × List ℕ)). with_part (part_of_choice (choice_seen c.args.choice.now) c.args.auth c.args.choice.now.answered.items missing) c.args.draft.now)
    (ap (map element_seen) (whole c.missing_elements-missing.result.now c.loop-element.element-index c.loop-element-test.false) ∙ c.missing_elements-missing.ensures)
