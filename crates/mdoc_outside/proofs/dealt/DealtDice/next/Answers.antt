use Rattle.mdoc_outside.proofs.GaveWordsLemmas.{none_dealt}
use Rattle.mdoc_outside.proofs.dealt.DealtDice.next.Goals as goal

pub returns-in-Err-Failed-clause-gave : goal.returns-in-Err-Failed-clause-gave
returns-in-Err-Failed-clause-gave g c =
    none_dealt (rw c.in-Err-Failed.field-0-is at c.in-Err-Failed.ensures.gives) (rw c.in-Err-Failed.field-0-is at c.in-Err-Failed.ensures.cause) (cc)

pub returns-in-Err-Memory-clause-gave : goal.returns-in-Err-Memory-clause-gave
returns-in-Err-Memory-clause-gave g c =
    none_dealt (rw c.in-Err-Memory.field-0-is at c.in-Err-Memory.ensures.gives) (rw c.in-Err-Memory.field-0-is at c.in-Err-Memory.ensures.cause) (cc)
