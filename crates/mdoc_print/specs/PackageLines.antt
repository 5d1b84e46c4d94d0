-- What is printed of a package: for each document that it is accepted, with how many copies, or which check of it fails
-- first.
use Rattle.std.specs.Prelude.{ℕ, List, ◌++◌, map, filter, Bool, not, Option, Some, None, codes}
use Rattle.std.specs.Fmt.{decimal}
use Rattle.mdoc_print.specs.Printed.{line, name_text}
use Rattle.package_import.specs.Import.{is_accepted}
use Rattle.verdict_model.specs.declared.package_verdict.PackageVerdict.{PackageVerdict}
use Rattle.verdict_model.specs.declared.doc_check.DocCheck.{DocCheck}
use Rattle.verdict_model.specs.declared.doc_check.DocCheck.TheVariants as docs
use Rattle.verdict_model.specs.declared.element_check.ElementCheck.{ElementCheck}
use Rattle.verdict_model.specs.declared.element_check.ElementCheck.TheVariants as elements
use Rattle.verdict_model.specs.declared.named.Named.{Named}

-- ---- the names of the checks, without the values that differ

abbrev pub doc_check_text : DocCheck → List ℕ
doc_check_text docs.DocNotRequested = codes "DocNotRequested"
doc_check_text docs.IssuerAuthForm = codes "IssuerAuthForm"
doc_check_text docs.CertForm = codes "CertForm"
doc_check_text docs.CertUntrusted = codes "CertUntrusted"
doc_check_text docs.CertSignature = codes "CertSignature"
doc_check_text docs.CertTime = codes "CertTime"
doc_check_text docs.KeyUse = codes "KeyUse"
doc_check_text docs.IssuerSignature = codes "IssuerSignature"
doc_check_text docs.MsoForm = codes "MsoForm"
doc_check_text docs.DocTypeDiffers = codes "DocTypeDiffers"
doc_check_text (docs.SignedTime signed from) = codes "SignedTime"
doc_check_text (docs.NotYetValid from moment) = codes "NotYetValid"
doc_check_text (docs.Expired until moment) = codes "Expired"
doc_check_text docs.DeviceKeyForm = codes "DeviceKeyForm"
doc_check_text docs.DeviceAuthForm = codes "DeviceAuthForm"
doc_check_text docs.DeviceSignature = codes "DeviceSignature"
doc_check_text docs.DeviceKeyRefused = codes "DeviceKeyRefused"
doc_check_text (docs.DeviceMac kept made) = codes "DeviceMac"

abbrev pub element_check_text : ElementCheck → List ℕ
element_check_text elements.ItemForm = codes "ItemForm"
element_check_text elements.NoDigest = codes "NoDigest"
element_check_text (elements.DigestDiffers kept made) = codes "DigestDiffers"
element_check_text elements.Repeated = codes "Repeated"
element_check_text elements.NotRequested = codes "NotRequested"

-- ---- the lines

abbrev pub finding : ℕ → Option DocCheck → Option (Named × ElementCheck) → List ℕ
finding copies (Some check) item = codes " refused " ++ doc_check_text check
finding copies None (Some found) = codes " refused " ++ element_check_text found.1
finding copies None None = codes " accepted copies " ++ decimal copies

abbrev pub verdict_line : PackageVerdict → List ℕ
verdict_line verdict = line (codes "document " ++ name_text verdict.doc_type ++ finding verdict.copies verdict.refused verdict.item)

abbrev pub is_refused : PackageVerdict → Bool
is_refused verdict = not (is_accepted verdict)

-- of each document, in order
abbrev pub package_lines : List PackageVerdict → List (List ℕ)
package_lines verdicts = map verdict_line verdicts

-- of those that are refused
abbrev pub refusal_lines : List PackageVerdict → List (List ℕ)
refusal_lines verdicts = map verdict_line (filter is_refused verdicts)
