-- How `draft` ends, and that it prints the same lines for stores that agree.
use Rattle.std.proofs.Common.{◌≡◌, ℕ, true, List, [], ◌∷◌, Option, Some, None, Result, Ok, Err, refl, sym, ap, subst, ◌∙◌}
use Rattle.std.specs.Prelude.{codes, unwrap_or}
use Rattle.doc_store.specs.Agreement.{Agree, FilesAgree}
use Rattle.doc_store.specs.Store.{Store, store}
use Rattle.consent.specs.declared.rule.Rule.{Rule}
use Rattle.doc_request.specs.declared.doc_draft.DocDraft.{DocDraft}
use Rattle.mdoc_draft.specs.Core.{core}
use Rattle.mdoc_draft.specs.Draft.{draft_files, draft_line, draft_outcome, draft_row}
use Rattle.mdoc_draft.specs.Printed.{core_line}
use Rattle.mdoc_draft.specs.Released.{released_places}
use Rattle.mdoc_draft.proofs.AgreeLemmas.{core_same}
use Rattle.mdoc_draft.proofs.RowLemmas.{draft_files_named}
use Rattle.mdoc_frame.specs.Asking.{Sources, no_talks}
use Rattle.mdoc_frame.specs.Content.{Content, OfRules, OfStore, OfWishes, content_of, store_file}
use Rattle.mdoc_frame.specs.OtherStore.{IsStoreFile, PrintsAgreeing, store_found, with_store}
use Rattle.mdoc_frame.specs.Outcome.{Answer, Failed, FileName, Found, Outcome, after_reads, if_opened, named_files, needed_file_name}
use Rattle.mdoc_frame.specs.Pairs.{is_in_form, needed_file, value_of}
use Rattle.mdoc_frame.specs.Steps.{Does, Ends, Opens}
use Rattle.mdoc_frame.specs.World.{World}
use Rattle.mdoc_frame.specs.declared.role.Role.TheVariants as roles
use Rattle.mdoc_frame.specs.declared.status.Status.{Status}
use Rattle.mdoc_frame.specs.declared.status.Status.TheVariants as statuses
use Rattle.mdoc_frame.proofs.EndLemmas.{IsEnd, opens_does}
use Rattle.mdoc_frame.proofs.OtherStoreLemmas.{AgreeingLines, reads_alike}
use Rattle.mdoc_frame.proofs.PairLemmas.{given}
use Rattle.mdoc_frame.proofs.RunLemmas.{is_work}

-- ---- how it ends

pub draft_ends : (contents : List Content) → IsEnd ⊥ ⊥ (draft_outcome contents).status
draft_ends ((OfStore file) ∷ ((OfWishes asked) ∷ ((OfRules rules) ∷ []))) = tt
draft_ends contents = tt

pub draft_works : (contents : List Content) → is_work (draft_outcome contents).status ≡ true
draft_works ((OfStore file) ∷ ((OfWishes asked) ∷ ((OfRules rules) ∷ []))) = refl
draft_works contents = refl

no-device : (contents : List Content) → statuses.Device ≡ (draft_outcome contents).status → ⊥
no-device ((OfStore file) ∷ ((OfWishes asked) ∷ ((OfRules rules) ∷ []))) e = cc
no-device contents e = cc

no-dice : (contents : List Content) → statuses.Dice ≡ (draft_outcome contents).status → ⊥
no-dice ((OfStore file) ∷ ((OfWishes asked) ∷ ((OfRules rules) ∷ []))) e = cc
no-dice contents e = cc

-- what it does, which asks nothing
pub draft_does : (words : List (List ℕ)) (from : Sources) (before now : World) (status : Status) →
    Opens (named_files draft_row words) (λ contents. Ends (draft_outcome contents)) (Unit {0}) before now status →
    Does (named_files draft_row words) (λ told contents. draft_outcome contents) (λ told s contents. told ≡ no_talks) from from before now status
draft_does words from before now status opens = opens_does (named_files draft_row words) draft_outcome from before now status no-device no-dice opens

-- ---- what it prints

documents-are : (bytes : List ℕ) (documents : Store) → store bytes ≡ Some documents → (store_file bytes).documents ≡ documents
documents-are bytes documents loads = ap (λ (found : Option Store). unwrap_or found []) loads

lines-alike : (one other : List ℕ) (asked : List DocDraft) (rules : List Rule) →
    FilesAgree one other (released_places rules None (store_file one).documents asked) →
    draft_line (store_file other).documents asked rules ≡ draft_line (store_file one).documents asked rules
lines-alike one other asked rules agree =
    let first : (store_file one).documents ≡ agree.first = documents-are one agree.first agree.first_loads in
    let second : (store_file other).documents ≡ agree.second = documents-are other agree.second agree.second_loads in
    let same : core rules None agree.first asked ≡ core rules None agree.second asked =
    core_same rules None agree.first agree.second asked
    (subst (λ (documents : Store). Agree agree.first agree.second (released_places rules None documents asked)) first agree.agree) in
    ap core_line (ap (λ (documents : Store). core rules None documents asked) second ∙ sym same ∙ sym (ap (λ (documents : Store). core rules None documents asked) first))

draft-alike : (one other : List ℕ) (contents : List Content) →
    AgreeingLines one other (draft_outcome (OfStore (store_file one) ∷ contents)) (draft_outcome (OfStore (store_file other) ∷ contents))
draft-alike one other ((OfWishes asked) ∷ ((OfRules rules) ∷ [])) agree =
    ap (λ (line : List ℕ). line ∷ []) (lines-alike one other asked rules agree)
draft-alike one other contents agree = refl

others-stay : (wishes rules : List ℕ) (answers : List Answer) (other : List ℕ) →
    with_store (needed_file_name roles.Wishes wishes ∷ (needed_file_name roles.Rules rules ∷ [])) answers other ≡ answers
others-stay wishes rules [] other = refl
others-stay wishes rules (first ∷ []) other = refl
others-stay wishes rules (first ∷ (second ∷ answers)) other = refl

-- the lines of `draft` over these answers, with this file in place of the store
abbrev lines_with : List FileName → List Answer → List ℕ → List (List ℕ)
lines_with files answers other = (after_reads files (with_store files answers other) draft_outcome).lines

draft-agreeing : (store_name wishes rules : List ℕ) (answers : List Answer) (one other : List ℕ) →
    store_found (draft_files store_name wishes rules) answers ≡ Some one → IsStoreFile one → IsStoreFile other →
    FilesAgree one other (after_reads (draft_files store_name wishes rules) answers draft_outcome).released →
    lines_with (draft_files store_name wishes rules) answers other ≡ (after_reads (draft_files store_name wishes rules) answers draft_outcome).lines
draft-agreeing store_name wishes rules [] one other found first second agree = absurd cc
draft-agreeing store_name wishes rules (Failed ∷ answers) one other found first second agree = absurd cc
draft-agreeing store_name wishes rules ((Found None) ∷ answers) one other found first second agree = absurd cc
draft-agreeing store_name wishes rules ((Found (Some bytes)) ∷ answers) one other found first second agree =
    let files : List FileName = needed_file_name roles.Wishes wishes ∷ (needed_file_name roles.Rules rules ∷ []) in
    let after : Content → List Answer → Outcome = λ content found_after. after_reads files found_after (λ contents. draft_outcome (content ∷ contents)) in
    let same : bytes ≡ one = cc in
    let read : content_of roles.Store (Some bytes) ≡ Ok (OfStore (store_file one)) = ap (λ (b : List ℕ). content_of roles.Store (Some b)) same ∙ first in
    let this : if_opened (content_of roles.Store (Some bytes)) (λ content. after content answers) ≡ after (OfStore (store_file one)) answers =
    ap (λ (r : Result Content Status). if_opened r (λ content. after content answers)) read in
    let that : if_opened (content_of roles.Store (Some other)) (λ content. after content (with_store files answers other)) ≡ after (OfStore (store_file other)) answers =
    ap (λ (r : Result Content Status). if_opened r (λ content. after content (with_store files answers other))) second
    ∙ ap (λ (l : List Answer). after (OfStore (store_file other)) l) (others-stay wishes rules answers other) in
    ap (λ (o : Outcome). o.lines) that
    ∙ reads_alike one other files answers (λ contents. draft_outcome (OfStore (store_file one) ∷ contents)) (λ contents. draft_outcome (OfStore (store_file other) ∷ contents))
    (draft-alike one other) (subst (λ (o : Outcome). FilesAgree one other o.released) this agree)
    ∙ sym (ap (λ (o : Outcome). o.lines) this)

draft-for : (words : List (List ℕ)) (store_name wishes rules : Option (List ℕ)) → is_in_form draft_row words ≡ true →
    value_of (codes "--store") words ≡ store_name → value_of (codes "--wishes") words ≡ wishes → value_of (codes "--rules") words ≡ rules →
    PrintsAgreeing (named_files draft_row words) draft_outcome
draft-for words None wishes rules form store_is wishes_is rules_is =
    absurd (given draft_row words 0 (needed_file (codes "--store") roles.Store) form refl refl store_is)
draft-for words (Some store_name) None rules form store_is wishes_is rules_is =
    absurd (given draft_row words 1 (needed_file (codes "--wishes") roles.Wishes) form refl refl wishes_is)
draft-for words (Some store_name) (Some wishes) None form store_is wishes_is rules_is =
    absurd (given draft_row words 2 (needed_file (codes "--rules") roles.Rules) form refl refl rules_is)
draft-for words (Some store_name) (Some wishes) (Some rules) form store_is wishes_is rules_is =
    let files : named_files draft_row words ≡ draft_files store_name wishes rules =
    draft_files_named words store_name wishes rules (sym store_is) (sym wishes_is) (sym rules_is) in
    λ answers one other found first second agree.
    ap (λ (l : List FileName). lines_with l answers other) files
    ∙ draft-agreeing store_name wishes rules answers one other (ap (λ (l : List FileName). store_found l answers) (sym files) ∙ found) first second
    (subst (λ (l : List FileName). FilesAgree one other (after_reads l answers draft_outcome).released) files agree)
    ∙ sym (ap (λ (l : List FileName). (after_reads l answers draft_outcome).lines) files)

-- it prints the same lines for stores that agree up to what is released
pub draft_agrees : (words : List (List ℕ)) → is_in_form draft_row words ≡ true → PrintsAgreeing (named_files draft_row words) draft_outcome
draft_agrees words form =
    draft-for words (value_of (codes "--store") words) (value_of (codes "--wishes") words) (value_of (codes "--rules") words) form refl refl refl
