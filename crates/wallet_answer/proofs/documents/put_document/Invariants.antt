use Rattle.std.proofs.Common.{◌≡◌, [], map, take}
use Rattle.doc_response.specs.AnsweredView.{element_seen, item_seen}
use Rattle.wallet_answer.specs.ChoiceView.{choice_seen}
use Rattle.wallet_answer.specs.Documents.{part_of_choice, with_part}
use Rattle.wallet_answer.proofs.documents.put_document.Given as goal

-- the document with the items so far, and then with all items and the missing elements so far
abbrev pub invariant-loop-item : goal.invariant-loop-item
invariant-loop-item l = l.draft ≡ with_part (part_of_choice (choice_seen l.choice) l.fn.auth (map item_seen (take l.item-index l.items)) []) l.fn.draft

abbrev pub invariant-loop-element : goal.invariant-loop-element
invariant-loop-element l = l.draft ≡ with_part (part_of_choice (choice_seen l.choice) l.fn.auth l.choice.answered.items (map element_seen (take l.element-index l.missing))) l.fn.draft
