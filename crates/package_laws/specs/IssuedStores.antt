-- That a package which was issued is a store (ISO/IEC 18013-5, 9.1.2, and this project's own form of a store).
use Rattle.std.specs.Prelude.{◌≡◌, ℕ, false, List, [], ◌∷◌, length, Some, Ok}
use Rattle.std.specs.List.{All, AllByRecursion}
use Rattle.doc_store.specs.Store.{Copy, Document, store}
use Rattle.issuing.specs.Ends.{end_at}
use Rattle.issuing.specs.IssuedItems.{items_of, raw_items}
use Rattle.issue_spec.specs.SpecFacts.{IsSpec}
use Rattle.issue_spec.specs.SpecFile.{spec_of}
use Rattle.issue_spec.specs.declared.spec_fields.SpecFields.{SpecFields}
use Rattle.key_device.specs.HasLine.{HasLine}
use Rattle.key_device.specs.Plan.{FollowsAll, Walks}
use Rattle.key_device.specs.declared.exchange.Exchange.{Exchange}
use Rattle.issuing.specs.Package.{issued_package}
use Rattle.issuing.specs.declared.issued.Issued.{Issued}
use Rattle.store_write.specs.Storable.{IsStore, by_namespace}
use Rattle.store_write.specs.Written.{store_bytes}

-- the document of a spec with these copies
abbrev pub document_of : SpecFields → List Copy → Document
document_of fields copies = record { doc_type = fields.doc_type; uses_mac = fields.uses_mac; copies = copies }

-- A copy has an item for each element of its spec, each with a salt of 32 bytes, and isn't used yet.
pub record IsCopyOf (fields : SpecFields) (copy : Copy) : Type 0 where
  pub salts : List (List ℕ)
  pub one_each : length salts ≡ length fields.elements
  pub sized : All (λ s. length s ≡ 32) salts
  pub items : copy.items ≡ raw_items (items_of fields.elements salts)
  pub used : copy.used ≡ false

-- The bytes are a store of one document of the spec with as many copies as it asks for, which is within the limits of the
-- form, and is read so, with the items of each copy by their namespaces.
pub record IsPackage (fields : SpecFields) (package_bytes : List ℕ) : Type 0 where
  pub copies : List Copy
  pub count : length copies ≡ fields.copies
  pub each : AllByRecursion (IsCopyOf fields) copies
  pub written : package_bytes ≡ store_bytes (document_of fields copies ∷ [])
  pub storable : IsStore (document_of fields copies ∷ [])
  pub read : store package_bytes ≡ Some (by_namespace (document_of fields copies ∷ []))

-- A law: by a spec that was read, what the plan of issuing comes to is such a package, whatever the devices told, within
-- the values of its type, and whatever words the dice dealt.
abbrev pub IsPlannedStore : Type 0
IsPlannedStore =
    (text : List ℕ) (fields : SpecFields) (issued : Issued) (es os : List Exchange) (ws : List ℕ)
    → spec_of text ≡ Ok fields → IsSpec fields
    → All HasLine es → All HasLine os → Walks (issued_package fields) es os ws (Ok issued)
    → IsPackage fields issued.package

-- A law: so is what a call answered that followed the plan over the talks of two recorders and the words dealt.
abbrev pub IsIssuedStore : Type 0
IsIssuedStore =
    (text : List ℕ) (fields : SpecFields) (issued : Issued) (holder issuer holder' issuer' : List Exchange) (dealt dealt' : List ℕ)
    → spec_of text ≡ Ok fields → IsSpec fields
    → All HasLine holder' → All HasLine issuer' → FollowsAll (issued_package fields) holder issuer dealt holder' issuer' dealt' (end_at (Ok issued))
    → IsPackage fields issued.package
