use Rattle.std.proofs.Common.{◌≡◌, ◌∙◌, ap, sym, ℕ, ℤ, List, Option, Some, to_z, of_z, w64, to_z-of_z}
use Rattle.mdoc_outside.specs.declared.key_name.KeyName.TheVariants as keys
use Rattle.cbor_maps.specs.Writing.{put}
use Rattle.mso_digests.specs.Written.{date_bytes, validity_map}
use Rattle.mso_digests.proofs.ValidityBytes.{three_written, four_written}
use Rattle.mso_digests.proofs.WrittenDates.{in-years-kept}
use Rattle.mso_digests.proofs.written.write_validity.Goals as goal

-- the bytes of a date, by the slice of them
sliced : (moment : ℤ) (a b : List ℕ) → to_z w64 (of_z w64 moment) ≡ moment → date_bytes (to_z w64 (of_z w64 moment)) ≡ Some a → b ≡ a → date_bytes moment ≡ Some b
sliced moment a b kept is same = ap date_bytes (sym kept) ∙ is ∙ ap (λ (x : List ℕ). Some x) (sym same)

pub returns-in-None : goal.returns-in-None
returns-in-None c =
    c.finish.ensures
    ∙ c.in_ok-map-in-None.ensures
    ∙ three_written c.args.signed c.args.from c.args.until _ _ _
    (sliced _ _ _ (to_z-of_z c.ranges.signed) c.in_ok-signed_date.ensures c.as_slice.ensures)
    (sliced _ _ _ (to_z-of_z c.ranges.from) c.in_ok-from_date.ensures c.as_slice-in-None.ensures)
    (sliced _ _ _ (to_z-of_z c.ranges.until) c.in_ok-until_date.ensures c.as_slice-in-None-2.ensures)
    ∙ ap (λ (u : Option ℤ). validity_map c.args.signed c.args.from c.args.until u) (sym c.in-None.is)

pub returns : goal.returns
returns c =
    c.finish-in-Some.ensures
    ∙ c.in_ok-map-in-Some-2.ensures
    ∙ ap (λ (m : List ℕ). put m keys.ExpectedUpdate (Some c.as_slice-in-Some-4.result.now)) c.in_ok-map-in-Some.ensures
    ∙ four_written c.args.signed c.args.from c.args.until c.in-Some.update _ _ _ _
    (sliced _ _ _ (to_z-of_z c.ranges.signed) c.in_ok-signed_date.ensures c.as_slice-in-Some.ensures)
    (sliced _ _ _ (to_z-of_z c.ranges.from) c.in_ok-from_date.ensures c.as_slice-in-Some-2.ensures)
    (sliced _ _ _ (to_z-of_z c.ranges.until) c.in_ok-until_date.ensures c.as_slice-in-Some-3.ensures)
    (sliced _ _ _ (in-years-kept c.in-Some.update (rw c.in-Some.is at c.requires.update)) c.in_ok-update_date-in-Some.ensures c.as_slice-in-Some-4.ensures)
    ∙ ap (λ (u : Option ℤ). validity_map c.args.signed c.args.from c.args.until u) (sym c.in-Some.is)
