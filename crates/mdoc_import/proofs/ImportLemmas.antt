-- What `import` asked, and what it comes to by it.
use Rattle.std.proofs.Common.{◌≡◌, ℕ, ℤ, List, [], ◌∷◌, ◌++◌, Option, Some, None, Result, Ok, Err, inr, refl, sym, ap, subst, ◌∙◌}
use Rattle.std.proofs.lemmas.List.{append-nil}
use Rattle.cert_view.specs.declared.root.Root.{Root}
use Rattle.key_device.specs.Gave.{Counts}
use Rattle.key_device.specs.Plan.{Finished, End, Fits, Follows, Plan, OutOfMemory, over}
use Rattle.key_device.specs.declared.exchange.Exchange.{Exchange}
use Rattle.key_device.proofs.OverLemmas.{is_over_its_talk}
use Rattle.package_import.specs.Import.{came_to, import_checks, is_device}
use Rattle.package_import.specs.declared.import_fault.ImportFault.{ImportFault}
use Rattle.package_import.specs.declared.import_fault.ImportFault.TheVariants as faults
use Rattle.package_import.specs.declared.imported.Imported.{Imported}
use Rattle.mdoc_frame.specs.Asking.{AskCauses, Sources, EndsAs}
use Rattle.mdoc_frame.specs.Content.{OfPackage, OfRoots, OfStore, StoreFile}
use Rattle.mdoc_import.specs.Import.{import_asks, import_of, import_outcome, import_status, merged_status}
use Rattle.mdoc_frame.specs.Outcome.{FileName}
use Rattle.mdoc_frame.specs.Steps.{Does, Ends, Works}
use Rattle.mdoc_frame.specs.World.{World}
use Rattle.mdoc_frame.specs.declared.status.Status.{Status}
use Rattle.mdoc_frame.specs.declared.status.Status.TheVariants as statuses
use Rattle.mdoc_frame.proofs.EndLemmas.{wants, ends_asking}

-- only the reader's device was asked
pub record ReaderAlone (from to : Sources) : Type 0 where
  pub wallet : to.talks.wallet ≡ from.talks.wallet
  pub words : to.talks.words ≡ from.talks.words
  pub wallet_faults : to.wallet_faults ≡ from.wallet_faults
  pub dice_faults : to.dice_faults ≡ from.dice_faults

over-same : {A : Type 0} (plan : Plan A) (es : List Exchange) → (over plan es).outcome ≡ (over plan (es ++ [])).outcome
over-same plan es = rw (append-nil es) refl

came : {A : Type 0} (plan : Plan A) {old new : List Exchange} (result : A) (f : Follows plan old new (Some result)) → (over plan f.gained).outcome ≡ Some result
came {A} plan {old} {new} result f = over-same plan f.gained ∙ ap (λ c. c.outcome) (is_over_its_talk A plan old f.gained new [] result f f.joined)

module _ (store : List ℕ) (roots : List Root) (moment : ℤ) (own received : StoreFile) (from to : Sources) (alone : ReaderAlone from to) where
  -- the work of `import`
  abbrev pub ImportWorks : World → World → Status → Type 0
  ImportWorks old now status = Works (import_outcome store moment) (import_asks moment) from to (OfPackage received ∷ (OfRoots roots ∷ (OfStore own ∷ []))) old now status

  -- the plan of the package's checks was followed
  abbrev pub ImportFollows : Option (Result Imported ImportFault) → Type 0
  ImportFollows outcome = Follows (import_checks roots moment own.documents received.documents) from.talks.reader to.talks.reader outcome

  works-by : (outcome : Option (Result Imported ImportFault)) (f : ImportFollows outcome) (end : End (Result Imported ImportFault)) (result : Option (Result Imported ImportFault)) (old now : World) (status : Status) →
      (over (import_checks roots moment own.documents received.documents) f.gained).outcome ≡ result →
      Fits (import_checks roots moment own.documents received.documents) f.gained [] [] end → EndsAs end status → AskCauses status from to → Ends (import_of store result) old now status → ImportWorks old now status
  works-by outcome f end result old now status is asks ends asking writes = (
    record { wallet = []; reader = f.gained; words = [] },
    record { wallet = alone.wallet ∙ sym (append-nil from.talks.wallet); reader = f.joined; words = alone.words ∙ sym (append-nil from.talks.words) },
    record { end = end; asks = asks; ends = ends; wallet = refl; words = refl },
    asking,
    subst (λ (r : Option (Result Imported ImportFault)). Ends (import_of store r) old now status) (sym is) writes,
  )

  no-device : (merged : Option (List ℕ)) → statuses.Device ≡ merged_status merged → ⊥
  no-device None e = cc
  no-device (Some bytes) e = cc

  no-dice : (merged : Option (List ℕ)) → statuses.Dice ≡ merged_status merged → ⊥
  no-dice None e = cc
  no-dice (Some bytes) e = cc

  -- the package was merged, or a document is refused
  pub import_came : (imported : Imported) → ImportFollows (Some (Ok imported)) → to.reader_faults ≡ from.reader_faults →
      (old now : World) (status : Status) → Ends (import_of store (Some (Ok imported))) old now status → ImportWorks old now status
  import_came imported f same old now status ends =
      works-by (Some (Ok imported)) f (Finished (Ok imported)) (Some (Ok imported)) old now status (came _ (Ok imported) f) f.fits tt
      (ends_asking (import_of store (Some (Ok imported))) old now status from to (no-device imported.merged) (no-dice imported.merged)
      (record { wallet = alone.wallet_faults; reader = same; dice = alone.dice_faults }) ends) ends

  -- nothing was imported
  pub import_failed : (fault : ImportFault) → ImportFollows (came_to (Err fault)) → Counts (is_device (Err fault)) from.reader_faults to.reader_faults →
      (w : World) → ImportWorks w w (import_status fault)
  import_failed faults.Device f counts w =
      works-by (Some (Err faults.Device)) f (Finished (Err faults.Device)) (Some (Err faults.Device)) w w statuses.Device (came _ (Err faults.Device) f) f.fits tt
      (inr (record { wallet = alone.wallet_faults; reader = counts.0; dice = alone.dice_faults })) (refl, (refl, refl))
  import_failed (faults.Limit limit number) f counts w =
      works-by (Some (Err (faults.Limit limit number))) f (Finished (Err (faults.Limit limit number))) (Some (Err (faults.Limit limit number))) w w (statuses.Limit limit number)
      (came _ (Err (faults.Limit limit number)) f) f.fits tt (record { wallet = alone.wallet_faults; reader = counts; dice = alone.dice_faults }) (refl, (refl, refl))
  import_failed faults.Memory f counts w =
      let result = (over (import_checks roots moment own.documents received.documents) f.gained).outcome in
      works-by None f OutOfMemory result w w statuses.Memory refl f.fits refl (record { wallet = alone.wallet_faults; reader = counts; dice = alone.dice_faults })
      (wants (import_of store result).files (import_of store result).lines (import_of store result).status w)

-- what `import` does, by equal files, stores and moments
pub import_by : (files files_found : List FileName) (store store_found : List ℕ) (moment moment_found : ℤ) (from to : Sources) (before now : World) (status : Status) →
    files ≡ files_found → store ≡ store_found → moment_found ≡ moment → Does files_found (import_outcome store_found moment_found) (import_asks moment_found) from to before now status →
    Does files (import_outcome store moment) (import_asks moment) from to before now status
import_by files files_found store store_found moment moment_found from to before now status files_is store_is moment_is does =
    subst (λ (m : ℤ). Does files (import_outcome store m) (import_asks m) from to before now status) moment_is
    (subst (λ (s : List ℕ). Does files (import_outcome s moment_found) (import_asks moment_found) from to before now status) (sym store_is)
    (subst (λ (f : List FileName). Does f (import_outcome store_found moment_found) (import_asks moment_found) from to before now status) (sym files_is) does))
