use Rattle.std.proofs.Common.{sym, ◌∙◌}
use Rattle.session_seal.proofs.MessageBytes.{establishment_message, length-sealed_text}
use Rattle.session_seal.proofs.data_message.seal_establishment.Goals as goal

pub returns : goal.returns
returns c = establishment_message c.sealed_len.result c.args.reader_key.now _ _ _ (c.sealed_len.ensures ∙ sym (length-sealed_text c.args.key.now c.args.iv.now c.args.text.now)) c.in_ok-head.ensures c.in_ok-message.ensures
