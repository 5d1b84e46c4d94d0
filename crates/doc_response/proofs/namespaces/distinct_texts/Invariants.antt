use Rattle.std.proofs.Common.{◌≡◌, drop}
use Rattle.doc_response.specs.Answered.{distinct_texts}
use Rattle.doc_response.specs.Namespaces.{texts}
use Rattle.doc_response.proofs.FirstsLemmas.{more}
use Rattle.doc_response.proofs.namespaces.distinct_texts.Given as goal

-- the texts that were found, and the first ones of those that are left and weren't, are the first ones of all
abbrev pub invariant-loop-text : goal.invariant-loop-text
invariant-loop-text l = more (texts l.found.items) (texts (drop l.text-index l.list)) ≡ distinct_texts (texts l.list)
