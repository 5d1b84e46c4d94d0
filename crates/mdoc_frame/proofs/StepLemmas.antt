-- Steps of a command, one after the other.
use Rattle.std.proofs.Common.{◌≡◌, ℕ, true, false, cond, List, Option, Some, None, Result, Ok, Err, refl, subst, ap, ◌∙◌}
use Rattle.std.specs.Prelude.{length, nat_le}
use Rattle.mdoc_outside.specs.Cabinet.{CabinetTold}
use Rattle.mdoc_outside.specs.ResultSteps.{◌>>=◌}
use Rattle.mdoc_outside.specs.State.{State}
use Rattle.mdoc_outside.specs.declared.limit_name.LimitName.TheVariants.{FileBytes}
use Rattle.mdoc_outside.specs.declared.sink_call.SinkCall.{SinkCall}
use Rattle.doc_request.specs.Draft.{IsRequest}
use Rattle.doc_request.specs.declared.doc_draft.DocDraft.{DocDraft}
use Rattle.mdoc_frame.specs.Content.{Content, OfWishes, form, or_status}
use Rattle.mdoc_frame.specs.Outcome.{FileName, file_content, needed_file_name}
use Rattle.mdoc_frame.specs.Steps.{Gives, ReadsOn}
use Rattle.mdoc_frame.specs.Wishes.{wishes_of}
use Rattle.mdoc_frame.specs.World.{World, world}
use Rattle.mdoc_frame.specs.declared.file_fault.FileFault.{FileFault}
use Rattle.mdoc_frame.specs.declared.role.Role.TheVariants as roles
use Rattle.mdoc_frame.specs.declared.status.Status.TheVariants.{Limit}
use Rattle.mdoc_frame.proofs.RequestLemmas.{wishes_request}

-- a file was opened, and the rest was done
pub on : (file : FileName) (content : Content) (rest : Content → World → Type 0) (cabinet between : State CabinetTold) (sink : State (List SinkCall)) →
    Gives file (Ok content) cabinet between → rest content (world between sink) → ReadsOn file rest (world cabinet sink)
on file content rest cabinet between sink gives goes_on = record {
  found = gives.found;
  content = content;
  held = gives.held;
  opens = gives.gives;
  goes_on = subst (λ (s : State CabinetTold). rest content (world s sink)) gives.read goes_on;
}

read-request : (text : List ℕ) (documents : List DocDraft) (read : Result (List DocDraft) FileFault) → wishes_of text ≡ read →
    or_status roles.Wishes OfWishes read ≡ Ok (OfWishes documents) → IsRequest documents
read-request text documents (Ok others) read is =
    let same : others ≡ documents = cc in wishes_request text documents (read ∙ ap Ok same)
read-request text documents (Err fault) read is = absurd cc

-- a wishes file that is opened gives a request
pub content_is_request : (name : List ℕ) (found : Option (List ℕ)) (documents : List DocDraft) → file_content (needed_file_name roles.Wishes name) found ≡ Ok (OfWishes documents) → IsRequest documents
content_is_request name None documents is = absurd cc
content_is_request name (Some text) documents is =
    elim (nat_le (length text) 16777216) as (λ t. (cond t (Ok text) (Err (Limit FileBytes (length text))) >>= form roles.Wishes) ≡ Ok (OfWishes documents) → IsRequest documents)
    [ true ↦ λ e. read-request text documents (wishes_of text) refl e | false ↦ λ e. absurd cc ] is
