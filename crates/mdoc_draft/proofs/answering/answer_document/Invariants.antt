use Rattle.std.proofs.Common.{◌≡◌, None, map, drop}
use Rattle.std.specs.Prelude.{option_map}
use Rattle.doc_store.specs.StoredCopy.{copy_of}
use Rattle.mdoc_draft.specs.Core.{answered_with}
use Rattle.mdoc_draft.specs.Released.{wanted_of}
use Rattle.mdoc_draft.proofs.AnsweringLemmas.{with_answers}
use Rattle.mdoc_draft.proofs.answering.answer_document.Given as goal

-- the wishes that are left make it the whole answer
abbrev pub invariant-loop-draft : goal.invariant-loop-draft
invariant-loop-draft l =
    with_answers l.rules (option_map copy_of l.copy) l.document (map (wanted_of l.asked.doc_type) (drop l.draft-index l.wishes))
    ≡ answered_with l.rules None (option_map copy_of l.copy) l.asked
