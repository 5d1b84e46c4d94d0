-- That a security object was made from items (ISO/IEC 18013-5, 9.1.2.4): the digest of an item is the SHA-256 of its
-- IssuerSignedItemBytes, and is found under its namespace and its digest identifier.
use Rattle.std.specs.Prelude.{◌≡◌, ◌⊎◌, ℕ, List, [], ◌∷◌, Ok}
use Rattle.std.specs.List.{AllByRecursion}
use Rattle.issuer_items.specs.Item.{Item, item}
use Rattle.sha2.specs.Sha256.{sha256}
use Rattle.mso_digests.specs.Digests.{Digest}
use Rattle.mso_digests.specs.Object.{Object}
use Rattle.mso_digests.specs.Written.{Entry, listed}

-- the bytes of an item, with its namespace
abbrev pub Placed : Type 0
Placed = List ℕ × List ℕ

-- the digest is that of the item
pub record IsDigestOf (d : Digest) (placed : Placed) : Type 0 where
  pub it : Item
  pub is_item : item placed.1 ≡ Ok it
  pub namespace : d.namespace ≡ placed.0
  pub number : d.number ≡ it.digest_id
  pub digest : d.digest ≡ sha256 placed.1

-- one of a list, at least
abbrev pub SomeOf : {A : Type 0} → (A → Type 0) → List A → Type 0
SomeOf P [] = ⊥
SomeOf P (x ∷ xs) = P x ⊎ SomeOf P xs

-- each digest is that of one of the items
abbrev pub Lists : List Digest → List Placed → Type 0
Lists digests items = AllByRecursion (λ d. SomeOf (IsDigestOf d) items) digests

-- each item has its digest there
abbrev pub Covers : List Digest → List Placed → Type 0
Covers digests items = AllByRecursion (λ p. SomeOf (λ d. IsDigestOf d p) digests) items

pub record MadeFrom (object : Object) (items : List Placed) : Type 0 where
  pub lists : Lists object.digests items
  pub covers : Covers object.digests items

-- each of the digests that are to be written is that of the item at its place
abbrev pub AreDigestsOf : List Entry → List Placed → Type 0
AreDigestsOf [] [] = Unit {0}
AreDigestsOf (d ∷ ds) (p ∷ ps) = IsDigestOf (listed d) p × AreDigestsOf ds ps
AreDigestsOf ds ps = ⊥
