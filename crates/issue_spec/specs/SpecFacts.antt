-- What holds of a spec that was read, so that documents can be issued by it.
use Rattle.std.specs.Prelude.{◌≡◌, ◌≤◌, ◌<◌, nat_le, List, [], ◌∷◌, length, Bool, true, false, not, ◌&&◌, IsTrue, is_ok}
use Rattle.std.specs.Int.{is_in_range}
use Rattle.std.specs.List.{All}
use Rattle.std.specs.Option.{ForSome}
use Rattle.cert_view.specs.Certificate.{certificate}
use Rattle.mdl_table.specs.MomentText.{IsInYears}
use Rattle.mdoc_outside.specs.WordForm.{is_name}
use Rattle.issue_spec.specs.SpecChecks.{is_early, are_in_order}
use Rattle.issue_spec.specs.SpecNamespaces.{namespaces_of}
use Rattle.issue_spec.specs.SpecSoFar.{has_element}
use Rattle.issue_spec.specs.SpecValue.{is_value}
use Rattle.issue_spec.specs.declared.spec_element.SpecElement.{SpecElement}
use Rattle.issue_spec.specs.declared.spec_fields.SpecFields.{SpecFields}
use Rattle.issue_spec.specs.declared.spec_line.SpecLine.{SpecLine}
use Rattle.issue_spec.specs.declared.spec_line.SpecLine.TheVariants.{Header, Element}
use Rattle.issue_spec.specs.declared.spec_signer.SpecSigner.{SpecSigner}
use Rattle.issue_spec.specs.declared.spec_signer.SpecSigner.TheVariants.{New, Known}

-- two names, and a value that may stand in the map of an item
abbrev pub is_element : SpecElement → Bool
is_element e = is_name e.ns && is_name e.name && is_value e.value

-- each element is one
abbrev pub AreElements : List SpecElement → Type 0
AreElements elements = All (λ e. IsTrue (is_element e)) elements

-- an element that a line says is one
abbrev pub is_line : SpecLine → Bool
is_line (Header header) = true
is_line (Element e) = is_element e

-- whether no two elements have one namespace and name
abbrev pub are_distinct : List SpecElement → Bool
are_distinct [] = true
are_distinct (e ∷ es) = not (has_element es e) && are_distinct es

-- the elements of a copy: at most 512 in at most 16 namespaces, each once, with values of at most 262,144 bytes
pub record IsCopy (elements : List SpecElement) : Type 0 where
  pub each : AreElements elements
  pub few : length elements ≤ 512
  pub namespaces : length (namespaces_of elements) ≤ 16
  pub distinct : are_distinct elements ≡ true
  pub short : All (λ e. length e.value ≤ 262_144) elements

-- a key of 4 bytes, whose certificate is read
abbrev pub is_signer : SpecSigner → Bool
is_signer New = true
is_signer (Known key bytes) = is_ok (certificate bytes) && nat_le (length bytes) 8192

abbrev pub is_new : SpecSigner → Bool
is_new New = true
is_new (Known key bytes) = false

pub record IsSpec (fields : SpecFields) : Type 0 where
  pub doc_type : is_name fields.doc_type ≡ true
  pub copies : is_in_range 1 64 fields.copies ≡ true
  pub signer : is_signer fields.signer ≡ true
  pub signed : IsInYears fields.signed
  pub from : IsInYears fields.from
  pub until : IsInYears fields.until
  pub update : ForSome fields.update IsInYears
  pub order : are_in_order fields ≡ true
  -- certificates that are made say no time before 1950
  pub late : is_new fields.signer ≡ true → (is_early fields.from ≡ false) × (is_early fields.until ≡ false)
  pub elements : IsCopy fields.elements
  pub some : 0 < length fields.elements
