-- Files that are opened alike, and then works that print alike.
use Rattle.std.proofs.Common.{◌≡◌, ℕ, List, [], ◌∷◌, Ok, Err, refl}
use Rattle.doc_store.specs.Agreement.{FilesAgree}
use Rattle.mdoc_frame.specs.Content.{Content}
use Rattle.mdoc_frame.specs.Outcome.{Answer, Failed, FileName, Found, Outcome, after_reads, file_content, if_opened}

-- where the files agree up to what the one outcome releases, the other prints the same lines
abbrev pub AgreeingLines : List ℕ → List ℕ → Outcome → Outcome → Type 0
AgreeingLines one other first second = FilesAgree one other first.released → second.lines ≡ first.lines

-- files that are opened alike
pub reads_alike : (one other : List ℕ) (files : List FileName) (answers : List Answer) (work other_work : List Content → Outcome) →
    ((contents : List Content) → AgreeingLines one other (work contents) (other_work contents)) →
    AgreeingLines one other (after_reads files answers work) (after_reads files answers other_work)
reads_alike one other [] answers work other_work alike = alike []
reads_alike one other (file ∷ files) [] work other_work alike = λ agree. refl
reads_alike one other (file ∷ files) (Failed ∷ answers) work other_work alike = λ agree. refl
reads_alike one other (file ∷ files) ((Found found) ∷ answers) work other_work alike =
    elim (file_content file found) as (λ r.
    AgreeingLines one other (if_opened r (λ content. after_reads files answers (λ contents. work (content ∷ contents))))
    (if_opened r (λ content. after_reads files answers (λ contents. other_work (content ∷ contents))))) [
      | Ok content ↦ reads_alike one other files answers (λ contents. work (content ∷ contents)) (λ contents. other_work (content ∷ contents)) (λ contents. alike (content ∷ contents))
      | Err status ↦ λ agree. refl
    ]
