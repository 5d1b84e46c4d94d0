-- What is written and the lines that are left are the whole text.
use Rattle.std.proofs.Common.{◌≡◌, ◌++◌, drop}
use Rattle.key_device.specs.TapeText.{tape_text}
use Rattle.key_device.proofs.tape_text.tape_text.Given as goal

abbrev pub invariant-loop-exchange : goal.invariant-loop-exchange
invariant-loop-exchange l = l.text.items ++ tape_text (drop l.exchange-index l.exchanges) ≡ tape_text l.exchanges
