-- Extensions (RFC 5280, 4.1.2.9 and 4.2), of which the extended key usage (4.2.1.12) is looked into.
use Rattle.std.specs.Prelude.{◌≡◌, ◌↔◌, ℕ, Bool, true, false, List, [], ◌∷◌, ◌++◌, map, filter, Contains, IsTrue}
use Rattle.std.specs.List.{AllZip}
use Rattle.std.specs.Str.{bytes_eq}
use Rattle.der_view.specs.Element.{element}
use Rattle.cert_view.specs.Extensions.{extended_key_usage, document_signer}
use Rattle.certificate_laws.specs.MadeOf.{HasTag, IsMadeOf, IsOptional}

-- An extension: the identifier that is its extnID, and the bytes that its extnValue holds.
pub record Extension : Type 0 where
  pub identifier : List ℕ
  pub value : List ℕ

-- Extension ::= SEQUENCE { extnID OBJECT IDENTIFIER, critical BOOLEAN DEFAULT FALSE, extnValue OCTET STRING }
pub record IsExtension (bytes : List ℕ) (extension : Extension) : Type 0 where
  pub critical : List (List ℕ)
  pub whole : IsMadeOf 0x30 (element 0x06 extension.identifier ∷ (critical ++ element 0x04 extension.value ∷ [])) bytes
  pub boolean : IsOptional (HasTag 0x01) critical

-- ExtKeyUsageSyntax ::= SEQUENCE OF KeyPurposeId, of which each is an OBJECT IDENTIFIER
abbrev pub IsKeyUsage : List ℕ → List (List ℕ) → Type 0
IsKeyUsage value purposes = IsMadeOf 0x30 (map (element 0x06) purposes) value

abbrev pub is_key_usage : Extension → Bool
is_key_usage extension = bytes_eq extension.identifier extended_key_usage

-- the list of an extended key usage, which holds the purpose of a document signer or doesn't
pub record Lists (usage : Extension) (signs_documents : Bool) : Type 0 where
  pub purposes : List (List ℕ)
  pub is : IsKeyUsage usage.value purposes
  pub signer : IsTrue signs_documents ↔ Contains purposes document_signer

-- It is in its form, and where it is the extended key usage, that is.
pub record IsFormed (bytes : List ℕ) (extension : Extension) : Type 0 where
  pub is : IsExtension bytes extension
  pub lists : is_key_usage extension ≡ true → (signs_documents : Bool) × Lists extension signs_documents

-- Of the extensions of a certificate those that are the extended key usage: no two are. It signs documents
-- where the list of the one that is holds that purpose.
abbrev pub AllowSigning : List Extension → Bool → Type 0
AllowSigning [] signs_documents = signs_documents ≡ false
AllowSigning (usage ∷ []) signs_documents = Lists usage signs_documents
AllowSigning (usage ∷ (other ∷ usages)) signs_documents = ⊥

-- extensions [3] EXPLICIT SEQUENCE OF Extension
pub record AreExtensions (signs_documents : Bool) (bytes : List ℕ) : Type 0 where
  pub list : List ℕ
  pub parts : List (List ℕ)
  pub extensions : List Extension
  pub explicit : IsMadeOf 0xa3 (list ∷ []) bytes
  pub whole : IsMadeOf 0x30 parts list
  pub each : AllZip IsExtension parts extensions
  pub usage : AllowSigning (filter is_key_usage extensions) signs_documents

-- They are OPTIONAL: without them it signs no documents.
abbrev pub MayHaveExtensions : List (List ℕ) → Bool → Type 0
MayHaveExtensions [] signs_documents = signs_documents ≡ false
MayHaveExtensions (part ∷ []) signs_documents = AreExtensions signs_documents part
MayHaveExtensions (part ∷ (other ∷ parts)) signs_documents = ⊥
