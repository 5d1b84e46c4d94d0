-- What contracts see of the words that are left.
use Rattle.std.specs.Prelude.{ℕ, List}
use Rattle.mdoc_outside.specs.Lines.{words}
use Rattle.mdoc_outside.specs.declared.words.Words.{Words}

abbrev pub words_left : Words → List (List ℕ)
words_left left = words left.rest.now
