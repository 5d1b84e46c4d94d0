-- What `import` prints tells nothing of the store but that the merged one exceeds a limit.
use Rattle.std.proofs.Common.{◌≡◌, ℕ, ℤ, Bool, true, false, List, [], ◌∷◌, length, Option, Some, None, Result, Ok, Err, refl, sym, ap, subst, ◌∙◌}
use Rattle.std.specs.Prelude.{codes, nat_le, option_map}
use Rattle.doc_store.specs.Store.{Store}
use Rattle.key_device.specs.Plan.{Done, Draw, Other, Plan, Then, over, over_all}
use Rattle.key_device.specs.PlanSteps.{mapped}
use Rattle.key_device.specs.Tape.{answer_of, tape_after}
use Rattle.key_device.specs.declared.device_fault.DeviceFault.{DeviceFault}
use Rattle.key_device.specs.declared.exchange.Exchange.{Exchange}
use Rattle.package_import.specs.Import.{are_accepted, by_verdicts, if_accepted, if_few, if_short, import_checks}
use Rattle.verdict_model.specs.Checked.{checked}
use Rattle.verdict_model.specs.declared.package_verdict.PackageVerdict.{PackageVerdict}
use Rattle.store_write.specs.Merged.{merged}
use Rattle.store_write.specs.Written.{store_bytes}
use Rattle.mdoc_frame.specs.OtherStore.{IsStoreFile, PrintsAlike, PrintsSame, store_found, with_store}
use Rattle.mdoc_frame.specs.Asking.{Talks}
use Rattle.mdoc_import.specs.Import.{moment_of, store_of, import_row, import_files, import_of, import_outcome}
use Rattle.mdoc_frame.specs.Content.{Content, OfPackage, OfRoots, OfStore, StoreFile, content_of, store_file}
use Rattle.mdoc_frame.specs.Pairs.{file_or_none, is_in_form, needed_file, value_of}
use Rattle.mdoc_frame.specs.Outcome.{Answer, Failed, FileName, Found, Outcome, after_reads, file_content, if_opened, named_files, needed_file_name}
use Rattle.mdoc_frame.specs.declared.role.Role.TheVariants as roles
use Rattle.mdoc_frame.specs.declared.status.Status.{Status}
use Rattle.mdoc_frame.proofs.PairLemmas.{given}
use Rattle.mdoc_import.proofs.RowLemmas.{import_names}

-- a plan whose outcome is mapped into another one has that one's outcome over each tape
outcome-turned : {A B : Type 0} (f : A → B) (plan : Plan A) (tape other : List Exchange) (words : List ℕ) →
    (over_all (mapped f plan) tape other words).outcome ≡ option_map f (over_all plan tape other words).outcome
outcome-turned f (Done a) tape other words = refl
outcome-turned f (Then ask next) tape other words = outcome-turned f (next (answer_of tape ask)) (tape_after tape ask) other words
outcome-turned f (Other ask next) tape other words = outcome-turned f (next (answer_of other ask)) tape (tape_after other ask) words
outcome-turned f (Draw next) tape other (w ∷ ws) = outcome-turned f (next w) tape other ws
outcome-turned f (Draw next) tape other [] = refl

module _ (name : List ℕ) where
  short-same : (verdicts : List PackageVerdict) (short other_short : Bool) (bytes other : List ℕ) →
      PrintsSame (import_of name (Some (if_short short bytes verdicts))) (import_of name (Some (if_short other_short other verdicts)))
  short-same verdicts true true bytes other = λ a b. refl
  short-same verdicts false other_short bytes other = λ a b. absurd (a tt)
  short-same verdicts true false bytes other = λ a b. absurd (b tt)

  few-same : (verdicts : List PackageVerdict) (few other_few : Bool) (one other : Store) →
      PrintsSame (import_of name (Some (if_few few one verdicts))) (import_of name (Some (if_few other_few other verdicts)))
  few-same verdicts true true one other =
      short-same verdicts (nat_le (length (store_bytes one)) 16777216) (nat_le (length (store_bytes other)) 16777216) (store_bytes one) (store_bytes other)
  few-same verdicts false other_few one other = λ a b. absurd (a tt)
  few-same verdicts true false one other = λ a b. absurd (b tt)

  accepted-same : (verdicts : List PackageVerdict) (accepted : Bool) (one other : Store) →
      PrintsSame (import_of name (Some (if_accepted accepted one verdicts))) (import_of name (Some (if_accepted accepted other verdicts)))
  accepted-same verdicts true one other = few-same verdicts (nat_le (length one) 16) (nat_le (length other) 16) one other
  accepted-same verdicts false one other = λ a b. refl

  verdicts-same : (one other received : Store) (found : Option (Result (List PackageVerdict) DeviceFault)) →
      PrintsSame (import_of name (option_map (by_verdicts one received) found)) (import_of name (option_map (by_verdicts other received) found))
  verdicts-same one other received None = λ a b. refl
  verdicts-same one other received (Some (Err fault)) = λ a b. refl
  verdicts-same one other received (Some (Ok verdicts)) = accepted-same verdicts (are_accepted verdicts) (merged one received) (merged other received)

  module _ (moment : ℤ) (told : Talks) where
    work-same : (received roots : Content) (one other : StoreFile) →
        PrintsSame (import_outcome name moment told (received ∷ (roots ∷ (OfStore one ∷ [])))) (import_outcome name moment told (received ∷ (roots ∷ (OfStore other ∷ []))))
    unfolding import_checks
    work-same (OfPackage received) (OfRoots roots) one other =
        let plan : Plan (Result (List PackageVerdict) DeviceFault) = checked roots moment received.documents in
        let same : (own : StoreFile) → (over (import_checks roots moment own.documents received.documents) told.reader).outcome ≡ option_map (by_verdicts own.documents received.documents) (over plan told.reader).outcome =
        λ own. outcome-turned (by_verdicts own.documents received.documents) plan told.reader [] [] in
        subst (λ found. PrintsSame (import_of name (over (import_checks roots moment one.documents received.documents) told.reader).outcome) (import_of name found)) (sym (same other))
        (subst (λ found. PrintsSame (import_of name found) (import_of name (option_map (by_verdicts other.documents received.documents) (over plan told.reader).outcome))) (sym (same one))
        (verdicts-same one.documents other.documents received.documents (over plan told.reader).outcome))
    work-same received roots one other = λ a b. refl

    -- once the package and the roots are opened
    opened-same : (received roots : Content) (bytes one other : List ℕ) (answers : List Answer) → bytes ≡ one → IsStoreFile one → IsStoreFile other →
        PrintsSame (if_opened (content_of roles.Store (Some bytes)) (λ content. import_outcome name moment told (received ∷ (roots ∷ (content ∷ [])))))
        (if_opened (content_of roles.Store (Some other)) (λ content. import_outcome name moment told (received ∷ (roots ∷ (content ∷ [])))))
    opened-same received roots bytes one other answers same first second =
        let go : Content → Outcome = λ content. import_outcome name moment told (received ∷ (roots ∷ (content ∷ []))) in
        let is : content_of roles.Store (Some bytes) ≡ Ok (OfStore (store_file one)) = ap (λ (b : List ℕ). content_of roles.Store (Some b)) same ∙ first in
        subst (λ (r : Result Content Status). PrintsSame (if_opened r go) (if_opened (content_of roles.Store (Some other)) go)) (sym is)
        (subst (λ (r : Result Content Status). PrintsSame (if_opened (Ok (OfStore (store_file one))) go) (if_opened r go)) (sym second)
        (work-same received roots (store_file one) (store_file other)))

    files-same : (received_name roots_name store_name : List ℕ) (answers : List Answer) (one other : List ℕ) →
        store_found (import_files received_name roots_name store_name) answers ≡ Some one → IsStoreFile one → IsStoreFile other →
        PrintsSame (after_reads (import_files received_name roots_name store_name) answers (import_outcome name moment told))
        (after_reads (import_files received_name roots_name store_name) (with_store (import_files received_name roots_name store_name) answers other) (import_outcome name moment told))
    files-same received_name roots_name store_name [] one other found first second = absurd cc
    files-same received_name roots_name store_name (a ∷ []) one other found first second = absurd cc
    files-same received_name roots_name store_name (a ∷ (b ∷ [])) one other found first second = absurd cc
    files-same received_name roots_name store_name (a ∷ (b ∷ (Failed ∷ answers))) one other found first second = absurd cc
    files-same received_name roots_name store_name (a ∷ (b ∷ ((Found None) ∷ answers))) one other found first second = absurd cc
    files-same received_name roots_name store_name (Failed ∷ (b ∷ ((Found (Some bytes)) ∷ answers))) one other found first second = λ x y. refl
    files-same received_name roots_name store_name ((Found f) ∷ (Failed ∷ ((Found (Some bytes)) ∷ answers))) one other found first second =
        elim (file_content (needed_file_name roles.Package received_name) f) as (λ r. PrintsSame
        (if_opened r (λ content. after_reads (needed_file_name roles.Roots roots_name ∷ []) (Failed ∷ []) (λ contents. import_outcome name moment told (content ∷ contents))))
        (if_opened r (λ content. after_reads (needed_file_name roles.Roots roots_name ∷ []) (Failed ∷ []) (λ contents. import_outcome name moment told (content ∷ contents))))) [
          | Ok content ↦ λ x y. refl
          | Err status ↦ λ x y. refl
        ]
    files-same received_name roots_name store_name ((Found f) ∷ ((Found g) ∷ ((Found (Some bytes)) ∷ answers))) one other found first second =
        let same : bytes ≡ one = cc in
        elim (file_content (needed_file_name roles.Package received_name) f) as (λ r. PrintsSame
        (if_opened r (λ received. if_opened (file_content (needed_file_name roles.Roots roots_name) g) (λ roots. if_opened (content_of roles.Store (Some bytes)) (λ content. import_outcome name moment told (received ∷ (roots ∷ (content ∷ [])))))))
        (if_opened r (λ received. if_opened (file_content (needed_file_name roles.Roots roots_name) g) (λ roots. if_opened (content_of roles.Store (Some other)) (λ content. import_outcome name moment told (received ∷ (roots ∷ (content ∷ [])))))))) [
          | Ok received ↦ elim (file_content (needed_file_name roles.Roots roots_name) g) as (λ s. PrintsSame
              (if_opened s (λ roots. if_opened (content_of roles.Store (Some bytes)) (λ content. import_outcome name moment told (received ∷ (roots ∷ (content ∷ []))))))
              (if_opened s (λ roots. if_opened (content_of roles.Store (Some other)) (λ content. import_outcome name moment told (received ∷ (roots ∷ (content ∷ []))))))) [
                | Ok roots ↦ opened-same received roots bytes one other answers same first second
                | Err status ↦ λ x y. refl
              ]
          | Err status ↦ λ x y. refl
        ]

import-for : (words : List (List ℕ)) (moment : ℤ) (told : Talks) (received roots store : Option (List ℕ)) → is_in_form import_row words ≡ true →
    value_of (codes "--package") words ≡ received → value_of (codes "--roots") words ≡ roots → value_of (codes "--store") words ≡ store →
    PrintsAlike (named_files import_row words) (import_outcome (store_of words) moment told)
import-for words moment told None roots store form received_is roots_is store_is =
    absurd (given import_row words 0 (needed_file (codes "--package") roles.Package) form refl refl received_is)
import-for words moment told (Some received) None store form received_is roots_is store_is =
    absurd (given import_row words 1 (needed_file (codes "--roots") roles.Roots) form refl refl roots_is)
import-for words moment told (Some received) (Some roots) None form received_is roots_is store_is =
    absurd (given import_row words 2 (file_or_none (codes "--store") roles.Store) form refl refl store_is)
import-for words moment told (Some received) (Some roots) (Some store) form received_is roots_is store_is =
    λ answers one other found first second.
    let files : named_files import_row words ≡ import_files received roots store =
    (import_names words received roots store (sym received_is) (sym roots_is) (sym store_is)).0 in
    let work : List Content → Outcome = import_outcome (store_of words) moment told in
    subst (λ (l : List FileName). PrintsSame (after_reads l answers work) (after_reads l (with_store l answers other) work)) (sym files)
    (files-same (store_of words) moment told received roots store answers one other
    (ap (λ (l : List FileName). store_found l answers) (sym files) ∙ found) first second)

-- it prints the same lines for every store, unless the merged one exceeds a limit
pub import_alike : (words : List (List ℕ)) (moment : ℤ) (told : Talks) → is_in_form import_row words ≡ true →
    PrintsAlike (named_files import_row words) (import_outcome (store_of words) moment told)
import_alike words moment told form =
    import-for words moment told (value_of (codes "--package") words) (value_of (codes "--roots") words) (value_of (codes "--store") words) form refl refl refl
