-- The laws that what was written is read, and answers as it was told.
use Rattle.std.specs.Prelude.{◌≡◌, List, [], ◌∷◌, ◌++◌, map, All, Ok}
use Rattle.key_device.specs.HasLine.{HasLine}
use Rattle.key_device.specs.Plan.{asks}
use Rattle.key_device.specs.Tape.{answer_of, tape_after}
use Rattle.key_device.specs.TapeFile.{tape_of}
use Rattle.key_device.specs.TapeText.{tape_text}
use Rattle.key_device.specs.declared.ask.Ask.{Ask}
use Rattle.key_device.specs.declared.exchange.Exchange.{Exchange}
use Rattle.key_device.specs.declared.told.Told.{Told}

-- A law: the file that is written for exchanges is read as these.
abbrev pub IsReadAsWritten : Type 0
IsReadAsWritten = (es : List Exchange) → All HasLine es → tape_of (tape_text es) ≡ Ok es

-- what a tape tells in answer to questions, in order
abbrev pub answers : List Exchange → List Ask → List Told
answers tape [] = []
answers tape (ask ∷ others) = answer_of tape ask ∷ answers (tape_after tape ask) others

-- A law: a tape answers the questions of its first exchanges by what was told.
abbrev pub AnswersAsTold : Type 0
AnswersAsTold = (es tape : List Exchange) → answers (es ++ tape) (asks es) ≡ map (λ e. e.told) es
