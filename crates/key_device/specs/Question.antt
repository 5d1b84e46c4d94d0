-- The question that borrowed parts make.
use Rattle.key_device.specs.declared.ask.Ask.{Ask}
use Rattle.key_device.specs.declared.ask.Ask.TheVariants as asks
use Rattle.key_device.specs.declared.question.Question.{Question}
use Rattle.key_device.specs.declared.question.Question.TheVariants.{Fresh, Agree, Sign, Verify}

abbrev pub asked : Question → Ask
asked Fresh = asks.Fresh
asked (Agree key peer) = asks.Agree key peer.now
asked (Sign key message) = asks.Sign key message.now
asked (Verify public message signature) = asks.Verify public.now message.now signature.now
