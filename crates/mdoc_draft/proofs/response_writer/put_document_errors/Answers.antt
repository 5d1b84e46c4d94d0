use Rattle.std.proofs.Common.{codes}
use Rattle.std.proofs.lemmas.List.{take_all}
use Rattle.mdoc_draft.specs.Entry.{refused_document, refused_of}
use Rattle.mdoc_draft.proofs.CoreWritten.{listed}
use Rattle.mdoc_draft.proofs.response_writer.put_document_errors.Goals as goal

pub returns : goal.returns
returns c =
    let all = take_all c.loop-document.document-index c.args.documents.now c.loop-document-test.false in
    listed (codes "documentErrors") c.args.build.now c.text.new.self c.array.new.self c.loop-document.build c.args.count refused_document (refused_of c.args.documents.now)
    c.in_ok-text.ensures.ok c.in_ok-array.ensures.ok (rw all at c.loop-document.invariant) c.requires c.if-count-eq0.false
