use Rattle.std.proofs.Common.{◌≡◌, ◌<◌, ◌+◌, ◌++◌, ℕ, List, None, length, map, drop, get_or, arith, ap, ◌∙◌}
use Rattle.std.specs.Prelude.{option_map}
use Rattle.doc_request.specs.Views.{document_seen}
use Rattle.doc_request.specs.declared.doc_ask.DocAsk.{DocAsk}
use Rattle.wallet_answer.specs.ChoiceView.{choice_seen}
use Rattle.wallet_answer.specs.Selecting.{if_nothing}
use Rattle.wallet_answer.specs.SetupView.{setup_of}
use Rattle.wallet_answer.specs.Texts.{name_seen, reader_seen}
use Rattle.wallet_answer.proofs.SelectionLemmas.{choice_added, choice_here, nothing_here, type_added}
use Rattle.wallet_model.specs.Released.{choice, choices, selections, types_of_nothing}
use Rattle.wallet_answer.proofs.release.release_documents.Goals as goal

pub loop-place-preserved : goal.loop-place-preserved
loop-place-preserved c =
    let W = setup_of c.args.setup.now in
    let place = c.loop-place.place in
    let documents = c.args.documents.now in
    let readers = c.args.readers.now in
    let found = option_map choice_seen c.in_ok-found.found in
    let in_documents : place < length documents = omega arith in
    let in_readers : place < length readers = omega arith in
    let is : found ≡ choice W (reader_seen (get_or readers place None)) (document_seen (get_or documents place c.index-documents-place.result)) =
    c.in_ok-found.ensures ∙ ap (λ (d : DocAsk). choice W (reader_seen (get_or readers place None)) (document_seen d)) c.index-documents-place.is in
    record {
      choices = choice_added (map choice_seen c.loop-place.selected.choices.items) (map choice_seen c.add.new.self.choices.items)
          (choices (selections W (map document_seen (drop (place + 1) documents)) (map reader_seen (drop (place + 1) readers)))) found c.in_ok-add.ensures.choices
          ∙ choice_here W document_seen reader_seen documents readers place c.index-documents-place.result None found
          (map choice_seen c.loop-place.selected.choices.items) in_documents in_readers is _ c.loop-place.invariant.choices;
      nothing = type_added (map name_seen c.loop-place.selected.nothing.items) (map name_seen c.add.new.self.nothing.items)
          (types_of_nothing (selections W (map document_seen (drop (place + 1) documents)) (map reader_seen (drop (place + 1) readers)))) found c.doc_type.result.now c.in_ok-add.ensures.nothing
          ∙ ap (λ (text : List ℕ). map name_seen c.loop-place.selected.nothing.items ++ if_nothing found text (types_of_nothing (selections W (map document_seen (drop (place + 1) documents)) (map reader_seen (drop (place + 1) readers)))))
          (c.doc_type.ensures ∙ ap (λ (d : DocAsk). (document_seen d).doc_type) c.index-documents-place.is)
          ∙ nothing_here W document_seen reader_seen documents readers place c.index-documents-place.result None found
          (map name_seen c.loop-place.selected.nothing.items) in_documents in_readers is _ c.loop-place.invariant.nothing;
    }
