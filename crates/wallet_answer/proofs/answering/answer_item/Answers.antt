use Rattle.cbor_view.specs.View.{part}
use Rattle.doc_request.specs.Views.{documents_of}
use Rattle.key_device.specs.Recording.{talk}
use Rattle.wallet_answer.proofs.DistinctWishes.{are_wishes_distinct}
use Rattle.wallet_answer.specs.SetupView.{setup_of}
use Rattle.wallet_answer.specs.AnswerView.{answer_of}
use Rattle.wallet_answer.proofs.Exits.{answered_no_request, answered_request, is_request}
use Rattle.wallet_answer.proofs.answering.answer_item.Goals as goal

pub answer_request-requires : goal.answer_request-requires
answer_request-requires g c =
    are_wishes_distinct c.args.text.now (documents_of c.in-Ok.request) (is_request c.args.text.now (part c.args.item) (documents_of c.in-Ok.request) c.requires c.in-Ok.ensures)

pub returns-in-Ok-clause-asked : goal.returns-in-Ok-clause-asked
returns-in-Ok-clause-asked g c =
    answered_request (setup_of c.args.setup.now) c.args.session.now c.args.text.now (part c.args.item) (documents_of c.in-Ok.request) (talk c.args.device.now) (talk c.answer_request.new.device) (answer_of c.answer_request.result)
    c.requires c.in-Ok.ensures c.answer_request.ensures.asked

pub returns-in-Err-clause-asked : goal.returns-in-Err-clause-asked
returns-in-Err-clause-asked g c =
    answered_no_request (setup_of c.args.setup.now) c.args.session.now c.args.text.now (part c.args.item) c.in-Err.field-0 (talk c.args.device.now) c.without_items.result
    c.requires c.in-Err.ensures c.without_items.ensures
