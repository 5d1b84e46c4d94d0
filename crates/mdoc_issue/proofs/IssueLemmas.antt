-- What `issue` asked, and what it comes to by it.
use Rattle.std.proofs.Common.{◌≡◌, ℕ, List, [], ◌∷◌, ◌++◌, Option, Some, None, Result, Ok, Err, inl, inr, refl, sym, ap, subst, ◌∙◌}
use Rattle.std.proofs.lemmas.List.{append-nil}
use Rattle.issuing.specs.Ends.{Cause, end_at}
use Rattle.issuing.specs.declared.issue_fault.IssueFault.{IssueFault}
use Rattle.issuing.specs.declared.issue_fault.IssueFault.TheVariants as faults
use Rattle.issue_spec.specs.declared.spec_fields.SpecFields.{SpecFields}
use Rattle.key_device.specs.Plan.{Finished, End, FollowsAll, Plan, OutOfWords, OutOfMemory, over_all}
use Rattle.key_device.specs.declared.exchange.Exchange.{Exchange}
use Rattle.key_device.proofs.OverLemmas.{is_over_all, is_over_all_undealt}
use Rattle.issuing.specs.Package.{issued_package}
use Rattle.issuing.specs.declared.issued.Issued.{Issued}
use Rattle.mdoc_frame.specs.Asking.{AskCauses, Sources}
use Rattle.mdoc_frame.specs.Content.{OfSpec}
use Rattle.mdoc_issue.specs.Issue.{fault_status, issue_asks, issue_of, issue_outcome}
use Rattle.mdoc_frame.specs.Steps.{Ends, Works, WritesFiles}
use Rattle.mdoc_frame.specs.World.{World}
use Rattle.mdoc_frame.specs.declared.status.Status.{Status}
use Rattle.mdoc_frame.specs.declared.status.Status.TheVariants as statuses
use Rattle.mdoc_frame.proofs.EndLemmas.{ends_asking, wants}

-- the package's plan was followed, from these talks to those
abbrev pub IssueFollows : SpecFields → Sources → Sources → End (Result Issued IssueFault) → Type 0
IssueFollows fields from to end =
    FollowsAll (issued_package fields) from.talks.wallet from.talks.reader from.talks.words to.talks.wallet to.talks.reader to.talks.words end

over-same : {A : Type 0} (plan : Plan A) (es os : List Exchange) (ws : List ℕ) → (over_all plan es os ws).outcome ≡ (over_all plan (es ++ []) (os ++ []) (ws ++ [])).outcome
over-same plan es os ws = rw (append-nil es, append-nil os, append-nil ws) refl

over-starved : {A : Type 0} (plan : Plan A) (es os : List Exchange) (ws : List ℕ) → (over_all plan es os ws).outcome ≡ (over_all plan (es ++ []) (os ++ []) ws).outcome
over-starved plan es os ws = rw (append-nil es, append-nil os) refl

came : (fields : SpecFields) (from to : Sources) (result : Result Issued IssueFault) (f : IssueFollows fields from to (Finished result)) →
    (over_all (issued_package fields) f.gained f.gained_other f.words).outcome ≡ Some result
came fields from to result f =
    over-same (issued_package fields) f.gained f.gained_other f.words
    ∙ ap (λ c. c.outcome) (is_over_all (Result Issued IssueFault) (issued_package fields) _ f.gained _ [] _ f.gained_other _ [] _ f.words _ [] result f f.joined f.joined_other f.joined_words)

starved : (fields : SpecFields) (from to : Sources) (f : IssueFollows fields from to OutOfWords) → (over_all (issued_package fields) f.gained f.gained_other f.words).outcome ≡ None
starved fields from to f =
    over-starved (issued_package fields) f.gained f.gained_other f.words
    ∙ ap (λ c. c.outcome) (is_over_all_undealt (Result Issued IssueFault) (issued_package fields) _ f.gained _ [] _ f.gained_other _ [] _ f.words _ f f.joined f.joined_other f.joined_words)

-- the work of `issue`
abbrev pub IssueWorks : List ℕ → SpecFields → Sources → Sources → World → World → Status → Type 0
IssueWorks out fields from to old now status = Works (issue_outcome out) issue_asks from to (OfSpec fields ∷ []) old now status

works-by : (out : List ℕ) (fields : SpecFields) (from to : Sources) (end : End (Result Issued IssueFault)) (f : IssueFollows fields from to end) (result : Option (Result Issued IssueFault))
    (old now : World) (status : Status) → (over_all (issued_package fields) f.gained f.gained_other f.words).outcome ≡ result →
    issue_asks (record { wallet = f.gained; reader = f.gained_other; words = f.words }) status (OfSpec fields ∷ []) → AskCauses status from to →
    Ends (issue_of out fields result) old now status → IssueWorks out fields from to old now status
works-by out fields from to end f result old now status is asks asking ends = (
  record { wallet = f.gained; reader = f.gained_other; words = f.words },
  record { wallet = f.joined; reader = f.joined_other; words = f.joined_words },
  asks,
  asking,
  subst (λ (r : Option (Result Issued IssueFault)). Ends (issue_of out fields r) old now status) (sym is) ends,
)

-- a package was made, and then written and told
pub issue_came : (out : List ℕ) (fields : SpecFields) (from to : Sources) (issued : Issued) → IssueFollows fields from to (Finished (Ok issued)) →
    Cause from.wallet_faults to.wallet_faults from.reader_faults to.reader_faults from.dice_faults to.dice_faults (Ok issued) →
    (old now : World) (status : Status) → Ends (issue_of out fields (Some (Ok issued))) old now status → IssueWorks out fields from to old now status
issue_came out fields from to issued f same old now status ends =
    works-by out fields from to (Finished (Ok issued)) f (Some (Ok issued)) old now status (came fields from to (Ok issued) f) (record { end = Finished (Ok issued); asks = f.fits; ends = tt })
    (ends_asking (issue_of out fields (Some (Ok issued))) old now status from to (λ e. cc) (λ e. cc) (record { wallet = same.0; reader = same.1; dice = same.2 }) ends) ends

-- nothing was issued
pub issue_failed : (out : List ℕ) (fields : SpecFields) (from to : Sources) (fault : IssueFault) → IssueFollows fields from to (end_at (Err fault)) →
    Cause {A = Issued} from.wallet_faults to.wallet_faults from.reader_faults to.reader_faults from.dice_faults to.dice_faults (Err fault) →
    (w : World) → IssueWorks out fields from to w w (fault_status fault)
issue_failed out fields from to faults.Device f (inl holder) w =
    works-by out fields from to (Finished (Err faults.Device)) f (Some (Err faults.Device)) w w statuses.Device (came fields from to (Err faults.Device) f)
    (record { end = Finished (Err faults.Device); asks = f.fits; ends = tt }) (inl (record { wallet = holder.0; reader = holder.1; dice = holder.2 })) (refl, (refl, refl))
issue_failed out fields from to faults.Device f (inr issuer) w =
    works-by out fields from to (Finished (Err faults.Device)) f (Some (Err faults.Device)) w w statuses.Device (came fields from to (Err faults.Device) f)
    (record { end = Finished (Err faults.Device); asks = f.fits; ends = tt }) (inr (record { wallet = issuer.0; reader = issuer.1; dice = issuer.2 })) (refl, (refl, refl))
issue_failed out fields from to faults.Dice f cause w =
    works-by out fields from to OutOfWords f None w w statuses.Dice (starved fields from to f)
    (record { end = OutOfWords; asks = f.fits; ends = refl }) (record { wallet = cause.0; reader = cause.1; dice = cause.2 }) (refl, (refl, refl))
issue_failed out fields from to (faults.Limit limit number) f cause w =
    works-by out fields from to (Finished (Err (faults.Limit limit number))) f (Some (Err (faults.Limit limit number))) w w (statuses.Limit limit number) (came fields from to (Err (faults.Limit limit number)) f)
    (record { end = Finished (Err (faults.Limit limit number)); asks = f.fits; ends = tt }) (record { wallet = cause.0; reader = cause.1; dice = cause.2 }) (refl, (refl, refl))
issue_failed out fields from to faults.Memory f cause w =
    let result = (over_all (issued_package fields) f.gained f.gained_other f.words).outcome in
    works-by out fields from to OutOfMemory f result w w statuses.Memory refl
    (record { end = OutOfMemory; asks = f.fits; ends = refl }) (record { wallet = cause.0; reader = cause.1; dice = cause.2 })
    (wants (issue_of out fields result).files (issue_of out fields result).lines (issue_of out fields result).status w)
