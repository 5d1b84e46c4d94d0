-- What is found of a package before it is taken into a store (ISO/IEC 18013-5, 9.1.2 and 9.3.1): of each copy of a
-- document, in order, what its issuer says, and then whether each of its items has its digest there, up to the first
-- check that fails.
use Rattle.std.specs.Prelude.{ℕ, ℤ, List, [], ◌∷◌, length, Option, Some, None, Result, Ok, Err}
use Rattle.cbor_view.specs.Parts.{Part}
use Rattle.cert_view.specs.declared.root.Root.{Root}
use Rattle.doc_store.specs.Store.{Copy, Document, Store}
use Rattle.issuer_items.specs.Item.{Item, item}
use Rattle.issuer_items.specs.declared.item_fault.ItemFault.{ItemFault}
use Rattle.key_device.specs.Plan.{Plan, Done}
use Rattle.key_device.specs.PlanSteps.{◌>>=◌, each, mapped}
use Rattle.key_device.specs.declared.device_fault.DeviceFault.{DeviceFault}
use Rattle.key_device.specs.declared.device_fault.DeviceFault.TheVariants.{Failed}
use Rattle.mso_digests.specs.Digests.{digest_at}
use Rattle.mso_digests.specs.Object.{Object}
use Rattle.verdict_model.specs.declared.package_verdict.PackageVerdict.{PackageVerdict}
use Rattle.sha2.specs.Sha256.{sha256}
use Rattle.verdict_model.specs.Elements.{digest_check}
use Rattle.verdict_model.specs.IssuerStatement.{issued}
use Rattle.verdict_model.specs.Steps as steps
use Rattle.verdict_model.specs.Steps.{Stop}
use Rattle.verdict_model.specs.declared.doc_check.DocCheck.{DocCheck}
use Rattle.verdict_model.specs.declared.element_check.ElementCheck.{ElementCheck}
use Rattle.verdict_model.specs.declared.element_check.ElementCheck.TheVariants as checks
use Rattle.verdict_model.specs.declared.named.Named.{Named}

-- why the checks of a document end: one of a copy fails, one of an item does, or the reader's device failed to answer
pub data Failure : Type 0 where
  DocFails : DocCheck → Failure
  ItemFails : Named → ElementCheck → Failure
  Unanswered : Failure

-- ---- the items of a copy

abbrev pub named : List ℕ → List ℕ → List ℕ → Named
named doc_type ns name = record { doc_type = doc_type; ns = ns; name = name }

abbrev pub or_rest : Named → Option ElementCheck → Result (Unit {0}) Failure → Result (Unit {0}) Failure
or_rest element None rest = rest
or_rest element (Some check) rest = Err (ItemFails element check)

-- whether the object has the digest of an item as it is stored, and then the rest
abbrev pub item_check : Object → List ℕ → List ℕ × List ℕ → Result Item ItemFault → Result (Unit {0}) Failure → Result (Unit {0}) Failure
item_check o doc_type stored (Ok it) rest = or_rest (named doc_type stored.0 it.name) (digest_check (sha256 stored.1) (digest_at stored.0 it.digest_id o.digests)) rest
item_check o doc_type stored (Err fault) rest = Err (ItemFails (named doc_type stored.0 []) checks.ItemForm)

-- the first of the items whose check fails
abbrev pub items_check : Object → List ℕ → List (List ℕ × List ℕ) → Result (Unit {0}) Failure
items_check o doc_type [] = Ok tt
items_check o doc_type (stored ∷ items) = item_check o doc_type stored (item stored.1) (items_check o doc_type items)

-- ---- a copy

abbrev pub as_failure : {A : Type 0} → Result A Stop → Result A Failure
as_failure (Ok value) = Ok value
as_failure (Err (steps.Refused check)) = Err (DocFails check)
as_failure (Err steps.Unanswered) = Err Unanswered

-- the issuer's signature as one item
abbrev pub signature_of : Copy → Part
signature_of copy = record { at = 0; bytes = copy.issuer_auth }

unfoldable pub copy_checks : List Root → ℤ → List ℕ → Copy → Plan (Result (Unit {0}) Failure)
copy_checks roots moment doc_type copy =
    mapped as_failure (issued roots moment doc_type (signature_of copy)) >>= λ said. Done (items_check said.object doc_type copy.items)

-- ---- a document, of which the first check that fails is told

abbrev pub verdict_with : Document → Option DocCheck → Option (Named × ElementCheck) → PackageVerdict
verdict_with document refused item = record { doc_type = document.doc_type; copies = length document.copies; refused = refused; item = item }

abbrev pub package_verdict : Document → Result (List (Unit {0})) Failure → Result PackageVerdict DeviceFault
package_verdict document (Ok all) = Ok (verdict_with document None None)
package_verdict document (Err (DocFails check)) = Ok (verdict_with document (Some check) None)
package_verdict document (Err (ItemFails element check)) = Ok (verdict_with document None (Some (element, check)))
package_verdict document (Err Unanswered) = Err Failed

unfoldable pub checked_document : List Root → ℤ → Document → Plan (Result PackageVerdict DeviceFault)
checked_document roots moment document =
    mapped (package_verdict document) (each (copy_checks roots moment document.doc_type) document.copies)

-- ---- the package

unfoldable pub checked : List Root → ℤ → Store → Plan (Result (List PackageVerdict) DeviceFault)
checked roots moment documents = each (checked_document roots moment) documents
