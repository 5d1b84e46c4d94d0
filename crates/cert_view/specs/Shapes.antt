-- Elements and their parts, as a shape wants them.
use Rattle.std.specs.Prelude.{ℕ, ◌==◌, Bool, true, false, if◌then◌else◌, List, [], ◌∷◌, Option, Some, None, Result, Ok, Err}
use Rattle.mdoc_outside.specs.ResultSteps.{◌>>=◌, or_fault}
use Rattle.mdoc_outside.specs.OptionSteps.{◌>>=◌ as ◌>>?◌}
use Rattle.der_view.specs.declared.der_fault.DerFault.{DerFault}
use Rattle.der_view.specs.Parts.{Part, der, parts_of}
use Rattle.der_view.specs.Reading.{tag_of}
use Rattle.cert_view.specs.declared.cert_check.CertCheck.TheVariants.{Der, Shape}
use Rattle.cert_view.specs.declared.cert_fault.CertFault.{CertFault}
use Rattle.cert_view.specs.Faults.{fault}

-- the one element that all of the bytes spell
abbrev pub as_element : Result Part DerFault → Result Part CertFault
as_element (Ok p) = Ok p
as_element (Err found) = Err (fault Der found.at)

abbrev pub element_of : List ℕ → Result Part CertFault
element_of bytes = as_element (der bytes)

abbrev pub has_tag : ℕ → Part → Bool
has_tag tag p = tag_of p.bytes == tag

abbrev pub tagged : ℕ → Part → Result Part CertFault
tagged tag p = if has_tag tag p then Ok p else Err (fault Shape p.at)

-- whether the parts all read
abbrev pub all_read : List (Result Part DerFault) → Result (Unit {0}) CertFault
all_read [] = Ok tt
all_read ((Ok p) ∷ ps) = all_read ps
all_read ((Err found) ∷ ps) = Err (fault Der found.at)

-- the parts of an element of that tag, which all read
abbrev pub parts_in : ℕ → Part → Result (List (Result Part DerFault)) CertFault
parts_in tag p = do
  q ← tagged tag p
  read ← all_read (parts_of q)
  Ok (parts_of q)

-- the first part, and those after it
abbrev pub front : List (Result Part DerFault) → Option (Part × List (Result Part DerFault))
front ((Ok p) ∷ ps) = Some (p, ps)
front parts = None

abbrev pub is_empty : List (Result Part DerFault) → Bool
is_empty [] = true
is_empty (p ∷ ps) = false

-- a value where no part is left
abbrev pub at_end : {A : Type 0} → A → List (Result Part DerFault) → Option A
at_end value parts = if is_empty parts then Some value else None

-- exactly so many
abbrev pub one : List (Result Part DerFault) → Option Part
one parts = front parts >>? λ a. at_end a.0 a.1

abbrev pub two : List (Result Part DerFault) → Option (Part × Part)
two parts = front parts >>? λ a. front a.1 >>? λ b. at_end (a.0, b.0) b.1

abbrev pub three : List (Result Part DerFault) → Option (Part × Part × Part)
three parts = front parts >>? λ a. front a.1 >>? λ b. front b.1 >>? λ c. at_end (a.0, b.0, c.0) c.1

-- the parts of an element of that tag, as many as they are to be
abbrev pub of_shape : {A : Type 0} → (List (Result Part DerFault) → Option A) → ℕ → Part → Result A CertFault
of_shape shape tag p = do
  parts ← parts_in tag p
  or_fault (fault Shape p.at) (shape parts)
