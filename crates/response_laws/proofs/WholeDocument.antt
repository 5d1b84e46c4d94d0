-- A document whose pieces have a spelling, and are few.
use Rattle.std.proofs.Common.{◌<◌, ◌^◌, ℕ, List, [], ◌∷◌, length}
use Rattle.std.specs.List.{AllByRecursion}
use Rattle.cbor_maps.specs.WrittenReads.{SpellsItem}
use Rattle.doc_response.specs.Draft.{Document}
use Rattle.doc_response.specs.WrittenReads.{AreWritable, IsText}
use Rattle.response_laws.specs.Writable.{HasFew, IsAuth, IsDocument, IsName}

pub record AreNames (elements : List (List ℕ × List ℕ)) : Type 0 where
  pub few : length elements < 2 ^ 32
  pub each : AllByRecursion IsName elements

pub record IsWhole (document : Document) : Type 0 where
  pub doc_type : IsText document.answered.doc_type
  pub items : AreWritable document.answered.items
  pub missing : AreNames document.answered.missing
  pub issuer_auth : SpellsItem 28 document.issuer_auth
  pub auth : IsAuth document.auth

whole : (d : Document) → IsDocument d → HasFew d → IsWhole d
whole d is few = record {
  doc_type = is.doc_type;
  items = record { few = few.items; each = is.items };
  missing = record { few = few.missing; each = is.missing };
  issuer_auth = is.issuer_auth;
  auth = is.auth;
}

pub all-whole : (documents : List Document) → AllByRecursion IsDocument documents → AllByRecursion HasFew documents → AllByRecursion IsWhole documents
all-whole [] all few = tt
all-whole (d ∷ documents) all few = (whole d all.0 few.0, all-whole documents all.1 few.1)
