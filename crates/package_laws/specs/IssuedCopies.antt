-- That in each copy of a package the issuer signed an object that is made from the items of the copy (ISO/IEC 18013-5,
-- 9.1.2.4).
use Rattle.std.specs.Prelude.{◌≡◌, ℕ, List, [], ◌∷◌, map, Some, Ok}
use Rattle.std.specs.List.{All, AllByRecursion}
use Rattle.cose_msgs.specs.Message.{Signed, sign1}
use Rattle.cose_msgs.specs.Written.{IsReadAs}
use Rattle.doc_store.specs.Store.{Copy}
use Rattle.issuing.specs.Ends.{end_at}
use Rattle.issue_spec.specs.SpecFacts.{IsSpec}
use Rattle.issue_spec.specs.SpecFile.{spec_of}
use Rattle.issue_spec.specs.declared.spec_fields.SpecFields.{SpecFields}
use Rattle.key_device.specs.HasLine.{HasLine}
use Rattle.key_device.specs.Plan.{FollowsAll, Walks}
use Rattle.key_device.specs.declared.exchange.Exchange.{Exchange}
use Rattle.mso_digests.specs.MadeFrom.{MadeFrom}
use Rattle.mso_digests.specs.Object.{Object, object}
use Rattle.issuing.specs.Package.{issued_package}
use Rattle.issuing.specs.declared.issued.Issued.{Issued}
use Rattle.package_laws.specs.IssuedStores.{document_of}
use Rattle.store_write.specs.Storable.{copy_by_namespace}
use Rattle.store_write.specs.Written.{store_bytes}

-- The issuer's signature of a copy has an object as its payload that says what the spec says, and was made from the items
-- of the copy.
pub record IsSigned (fields : SpecFields) (copy : Copy) : Type 0 where
  pub signed : Signed
  pub signature : IsReadAs sign1 copy.issuer_auth signed
  pub payload : List ℕ
  pub has_payload : signed.payload ≡ Some payload
  pub says : Object
  pub is_object : object payload ≡ Ok says
  pub made_from : MadeFrom says copy.items
  pub doc_type : says.doc_type ≡ fields.doc_type
  pub signed_at : says.signed ≡ fields.signed
  pub from : says.from ≡ fields.from
  pub until : says.until ≡ fields.until

-- The bytes are a store of one document of the spec, whose copies are signed so, also as they are read of it: with their
-- items by their namespaces.
pub record AreSigned (fields : SpecFields) (package_bytes : List ℕ) : Type 0 where
  pub copies : List Copy
  pub written : package_bytes ≡ store_bytes (document_of fields copies ∷ [])
  pub each : AllByRecursion (IsSigned fields) copies
  pub read : AllByRecursion (IsSigned fields) (map copy_by_namespace copies)

-- A law: by a spec that was read, the copies of each package that the plan of issuing comes to are signed so.
abbrev pub ArePlannedSigned : Type 0
ArePlannedSigned =
    (text : List ℕ) (fields : SpecFields) (issued : Issued) (es os : List Exchange) (ws : List ℕ)
    → spec_of text ≡ Ok fields → IsSpec fields
    → All HasLine es → All HasLine os → Walks (issued_package fields) es os ws (Ok issued)
    → AreSigned fields issued.package

-- A law: and those of what a call answered that followed the plan.
abbrev pub AreIssuedSigned : Type 0
AreIssuedSigned =
    (text : List ℕ) (fields : SpecFields) (issued : Issued) (holder issuer holder' issuer' : List Exchange) (dealt dealt' : List ℕ)
    → spec_of text ≡ Ok fields → IsSpec fields
    → All HasLine holder' → All HasLine issuer' → FollowsAll (issued_package fields) holder issuer dealt holder' issuer' dealt' (end_at (Ok issued))
    → AreSigned fields issued.package
