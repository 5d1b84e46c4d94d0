-- The exits after all files are opened.
use Rattle.std.proofs.Common.{inl, inr, refl}
use Rattle.mdoc_frame.proofs.StepLemmas.{on, content_is_request}
use Rattle.mdoc_draft.proofs.command.draft_files.Goals as goal

pub line_of-requires : goal.line_of-requires
line_of-requires g c = content_is_request c.args.files.wishes.now c.in-Ok-read_file.ensures.found c.in-Ok-read_file.request.documents c.in-Ok-read_file.ensures.gives

pub returns-in_default : goal.returns-in_default
returns-in_default g c =
    inr (on _ _ _ _ _ _ c.in-Ok.ensures (inr (on _ _ _ _ _ _ c.in-Ok-read_file.ensures (inr (on _ _ _ _ _ _ c.in-Ok-read_file-2.ensures (refl, inl refl))))))

pub returns : goal.returns
returns g c =
    let printed = rw c.in-Ok-line_of.ensures at c.print_lines.ensures in
    inr (on _ _ _ _ _ _ c.in-Ok.ensures (inr (on _ _ _ _ _ _ c.in-Ok-read_file.ensures (inr (on _ _ _ _ _ _ c.in-Ok-read_file-2.ensures (refl, printed))))))
