use Rattle.std.proofs.Common.{◌≡◌, ◌+◌, ◌-◌, ◌<◌, List, length, map, arith, ap, sym, subst, ◌∙◌}
use Rattle.std.proofs.lemmas.List.{length-map}
use Rattle.doc_response.specs.AnsweredView.{text_seen}
use Rattle.doc_response.specs.DraftView.{document_seen}
use Rattle.doc_response.specs.Draft.{Document, Draft, with_last, and_item}
use Rattle.doc_response.proofs.LastDocument.{last-set, on-ok}
use Rattle.doc_response.proofs.response_draft.ResponseDraft.item.Goals as goal

pub returns-clause-ok : goal.returns-clause-ok
returns-clause-ok c =
    let inside = c.self.inside in
    let last = c.len-last.result - 1 in
    let some : 0 < length (map document_seen inside.documents.items) = subst (λ (d : Draft). 0 < length d.documents) (sym c.self.view_is) c.requires.document in
    let seen = length-map inside.documents.items document_seen in
    let count : length inside.documents.items ≡ last + 1 = let h = inside.documents.ok in omega (arith, c.len-last.ensures, some, seen, h) in
    on-ok c.item.result
    (λ done. ap (λ (documents : List Document). let draft : Draft = record { status = inside.status; documents = documents; nothing = map text_seen inside.nothing.items } in draft)
    (last-set inside.documents.items last (and_item c.args.ns.now c.args.raw.now) c.index_mut.result.now c.item.new.self count c.index_mut.ensures.value done)
    ∙ ap (with_last (and_item c.args.ns.now c.args.raw.now)) c.self.view_is) c.item.ensures.ok
