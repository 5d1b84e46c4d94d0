-- How `issue` ends; and that it reads no store.
use Rattle.std.proofs.Common.{◌≡◌, ℕ, true, List, [], ◌∷◌, Option, Some, None, Result, Ok, Err, refl, sym, ap, ◌∙◌}
use Rattle.std.specs.Prelude.{codes}
use Rattle.issuing.specs.declared.issue_fault.IssueFault.{IssueFault}
use Rattle.issuing.specs.declared.issue_fault.IssueFault.TheVariants as faults
use Rattle.issue_spec.specs.declared.spec_fields.SpecFields.{SpecFields}
use Rattle.key_device.specs.Plan.{OutOfMemory, over_all}
use Rattle.mdoc_frame.specs.Asking.{Talks, no_talks}
use Rattle.mdoc_frame.specs.Content.{Content, OfSpec}
use Rattle.mdoc_frame.specs.OtherStore.{PrintsAgreeing, store_found}
use Rattle.mdoc_frame.specs.Outcome.{Answer, FileName, Outcome, named_files}
use Rattle.mdoc_frame.specs.Pairs.{value_of}
use Rattle.mdoc_frame.specs.declared.status.Status.TheVariants as statuses
use Rattle.mdoc_frame.proofs.EndLemmas.{IsEnd, begins_nothing}
use Rattle.mdoc_frame.proofs.RunLemmas.{is_work}
use Rattle.mdoc_issue.specs.Issue.{fault_status, issue_asks, issue_files, issue_of, issue_outcome, issue_row}
use Rattle.mdoc_issue.proofs.RowLemmas.{issue_file, no_issue_file}
use Rattle.issuing.specs.Package.{issued_package}
use Rattle.issuing.specs.declared.issued.Issued.{Issued}

-- ---- how it ends

fault-ends : (fault : IssueFault) → IsEnd ⊥ (Unit {0}) (fault_status fault)
fault-ends faults.Device = tt
fault-ends faults.Dice = tt
fault-ends (faults.Limit limit number) = tt
fault-ends faults.Memory = tt

issued-ends : (out : List ℕ) (fields : SpecFields) (result : Option (Result Issued IssueFault)) → IsEnd ⊥ (Unit {0}) (issue_of out fields result).status
issued-ends out fields None = tt
issued-ends out fields (Some (Err fault)) = fault-ends fault
issued-ends out fields (Some (Ok issued)) = tt

pub issue_ends : (out : List ℕ) (told : Talks) (contents : List Content) → IsEnd ⊥ (Unit {0}) (issue_outcome out told contents).status
issue_ends out told ((OfSpec fields) ∷ []) = issued-ends out fields (over_all (issued_package fields) told.wallet told.reader told.words).outcome
issue_ends out told contents = tt

fault-works : (fault : IssueFault) → is_work (fault_status fault) ≡ true
fault-works faults.Device = refl
fault-works faults.Dice = refl
fault-works (faults.Limit limit number) = refl
fault-works faults.Memory = refl

issued-works : (out : List ℕ) (fields : SpecFields) (result : Option (Result Issued IssueFault)) → is_work (issue_of out fields result).status ≡ true
issued-works out fields None = refl
issued-works out fields (Some (Err fault)) = fault-works fault
issued-works out fields (Some (Ok issued)) = refl

pub issue_works : (out : List ℕ) (told : Talks) (contents : List Content) → is_work (issue_outcome out told contents).status ≡ true
issue_works out told ((OfSpec fields) ∷ []) = issued-works out fields (over_all (issued_package fields) told.wallet told.reader told.words).outcome
issue_works out told contents = refl

-- where memory is wanting before it, nothing is asked
pub issue_wanting : (contents : List Content) → issue_asks no_talks statuses.Memory contents
issue_wanting ((OfSpec fields) ∷ []) = record { end = OutOfMemory; asks = begins_nothing (issued_package fields); ends = refl }
issue_wanting contents = refl

-- ---- it reads no store

no-store : (spec : List ℕ) (answers : List Answer) (one : List ℕ) → store_found (issue_files spec) answers ≡ Some one → ⊥
no-store spec [] one found = cc
no-store spec (answer ∷ answers) one found = cc

no-file-store : (answers : List Answer) (one : List ℕ) → store_found [] answers ≡ Some one → ⊥
no-file-store answers one found = cc

issue-for : (words : List (List ℕ)) (work : List Content → Outcome) (spec : Option (List ℕ)) → value_of (codes "--spec") words ≡ spec → PrintsAgreeing (named_files issue_row words) work
issue-for words work None is = λ answers one other found first second agree. absurd (no-file-store answers one (ap (λ (l : List FileName). store_found l answers) (sym (no_issue_file words is)) ∙ found))
issue-for words work (Some spec) is = λ answers one other found first second agree. absurd (no-store spec answers one (ap (λ (l : List FileName). store_found l answers) (sym (issue_file words spec is)) ∙ found))

pub issue_agrees : (words : List (List ℕ)) (work : List Content → Outcome) → PrintsAgreeing (named_files issue_row words) work
issue_agrees words work = issue-for words work (value_of (codes "--spec") words) refl
