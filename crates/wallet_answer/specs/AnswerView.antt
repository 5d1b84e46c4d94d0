-- What contracts see of an answer.
use Rattle.std.specs.Prelude.{Option, Some, None, Result, Ok, Err}
use Rattle.mdoc_outside.specs.declared.memory.Memory.{Memory}
use Rattle.wallet_answer.specs.declared.answered.Answer as made
use Rattle.wallet_model.specs.Answer.{Answer}

abbrev pub answer_seen : made.Answer → Answer
answer_seen a = record { text = a.text; places = a.places.items }

-- what a call came to; want of memory is no outcome
abbrev pub answer_of : Result made.Answer Memory → Option Answer
answer_of (Ok a) = Some (answer_seen a)
answer_of (Err wanting) = None
