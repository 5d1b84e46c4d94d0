use Rattle.wallet_answer.specs.AnswerView.{answer_seen}
use Rattle.wallet_answer.specs.SetupView.{setup_of}
use Rattle.wallet_core.proofs.ReplyExits.{sealed}
use Rattle.wallet_core.proofs.ShortAnswer.{is_short}
use Rattle.wallet_core.proofs.replying.reply_to.Goals as goal

pub seal_answer-requires-clause-short : goal.seal_answer-requires-clause-short
seal_answer-requires-clause-short g c = is_short (setup_of c.args.setup.now) c.args.session c.args.text.now (answer_seen c.in-Ok.answer) c.in-Ok.ensures.asked

pub returns-in-Ok-clause-asked : goal.returns-in-Ok-clause-asked
returns-in-Ok-clause-asked g c =
    sealed (setup_of c.args.setup.now) c.args.session c.args.text.now (answer_seen c.in-Ok.answer) c.seal_answer.result c.in-Ok.ensures.asked c.seal_answer.ensures.round
