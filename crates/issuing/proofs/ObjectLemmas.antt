-- The security object of a copy may be written.
use Rattle.std.proofs.Common.{◌≡◌, refl, sym, subst, ℕ, ℤ, List, [], Option, Some, None}
use Rattle.std.specs.Prelude.{IfSome}
use Rattle.std.specs.Option.{ForSome}
use Rattle.issue_spec.specs.SpecFacts.{IsSpec}
use Rattle.issue_spec.specs.declared.spec_fields.SpecFields.{SpecFields}
use Rattle.mdl_table.specs.MomentText.{IsInYears}
use Rattle.mso_digests.specs.Written.{AreOnce, AreTexts, Entry}
use Rattle.issuing.proofs.ItemLemmas.{once_after, texts_after}
use Rattle.issuing.specs.IssuedItems.{entries_of, items_of}

pub update_is : (update : Option ℤ) → ForSome update IsInYears → IfSome update IsInYears
update_is None all = tt
update_is (Some moment) all = all moment refl

pub texts_of : (fields : SpecFields) (salts : List (List ℕ)) (ds : List Entry) → IsSpec fields → ds ≡ entries_of (items_of fields.elements salts) → AreTexts ds
texts_of fields salts ds is same = subst (λ (es : List Entry). AreTexts es) (sym same) (texts_after [] fields.elements salts is.elements.each)

pub once_of : (fields : SpecFields) (salts : List (List ℕ)) (ds : List Entry) → ds ≡ entries_of (items_of fields.elements salts) → AreOnce ds
once_of fields salts ds same = subst (λ (es : List Entry). AreOnce es) (sym same) (once_after [] fields.elements salts)
