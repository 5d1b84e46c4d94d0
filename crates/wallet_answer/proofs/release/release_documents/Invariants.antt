use Rattle.std.proofs.Common.{◌≡◌, ◌++◌, drop, map}
use Rattle.doc_request.specs.Views.{document_seen}
use Rattle.wallet_answer.specs.ChoiceView.{choice_seen}
use Rattle.wallet_answer.specs.Texts.{name_seen, reader_seen}
use Rattle.wallet_answer.specs.SetupView.{setup_of}
use Rattle.wallet_model.specs.Released.{choices, selections, types_of_nothing}
use Rattle.wallet_answer.proofs.release.release_documents.Given as goal

-- what is left makes it the whole of both
abbrev pub invariant-loop-place : goal.invariant-loop-place
invariant-loop-place l = record {
  choices : map choice_seen l.selected.choices.items ++ choices (selections (setup_of l.setup) (map document_seen (drop l.place l.documents)) (map reader_seen (drop l.place l.readers)))
      ≡ choices (selections (setup_of l.setup) (map document_seen l.documents) (map reader_seen l.readers));
  nothing : map name_seen l.selected.nothing.items ++ types_of_nothing (selections (setup_of l.setup) (map document_seen (drop l.place l.documents)) (map reader_seen (drop l.place l.readers)))
      ≡ types_of_nothing (selections (setup_of l.setup) (map document_seen l.documents) (map reader_seen l.readers));
}
