-- The parts of a to-be-signed part, in the order of TBSCertificate (RFC 5280, 4.1.2): a sentence over their whole
-- list, so that too few and too many of them are no layout alike.
use Rattle.std.specs.Prelude.{◌≡◌, ℕ, Bool, true, false, List, [], ◌∷◌, ◌++◌, map, Result, Ok}
use Rattle.std.specs.Option.{option_to_list}
use Rattle.der_view.specs.declared.der_fault.DerFault.{DerFault}
use Rattle.der_view.specs.Parts.{Part}
use Rattle.cert_view.specs.Shapes.{has_tag}
use Rattle.cert_view.specs.Tbs.{Layout}

abbrev pub starts_with : ℕ → List Part → Bool
starts_with tag [] = false
starts_with tag (p ∷ ps) = has_tag tag p

-- OPTIONAL, before others (X.680, 25.6): a part with that tag; or none, and the next part has another tag
abbrev pub IsOptionalBefore : ℕ → List Part → List Part → Type 0
IsOptionalBefore tag [] others = starts_with tag others ≡ false
IsOptionalBefore tag (p ∷ []) others = has_tag tag p ≡ true
IsOptionalBefore tag (p ∷ (q ∷ ps)) others = ⊥

abbrev pub as_read : Part → Result Part DerFault
as_read p = Ok p

-- Seven parts, the unique identifiers [1] and [2], of which each may be missing, and at most one part after them,
-- the extensions. They all read, and there are no others.
pub record IsLayout (parts : List (Result Part DerFault)) (l : Layout) : Type 0 where
  pub issuer_unique_id : List Part
  pub subject_unique_id : List Part
  pub whole : parts ≡ map as_read (l.version ∷ l.serial ∷ l.algorithm ∷ l.issuer ∷ l.validity ∷ l.subject ∷ l.key ∷ (issuer_unique_id ++ (subject_unique_id ++ option_to_list l.extensions)))
  pub issuer_id : IsOptionalBefore 0x81 issuer_unique_id (subject_unique_id ++ option_to_list l.extensions)
  pub subject_id : IsOptionalBefore 0x82 subject_unique_id (option_to_list l.extensions)
