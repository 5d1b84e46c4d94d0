-- That what is read of a message or a key of COSE is there in the bytes that it was read from, each part at its place.
use Rattle.std.specs.Prelude.{◌≡◌, ◌⊎◌, ℕ, pos, negsuc, List, [], ◌∷◌, Option, Some, Ok, IfSome}
use Rattle.cbor_view.specs.Parts.{LiesIn, Part, bytes_in, items_in}
use Rattle.cbor_maps.specs.Labels.{labelled}
use Rattle.key_device.specs.declared.point.Point.{Point}
use Rattle.cose_msgs.specs.Message.{Authenticated, Signed, untagged}
use Rattle.message_laws.specs.StringLies.{StringLies}

-- The array of a message (RFC 9052, sections 4.2 and 6.2) is the item, or stands under the tag of its kind. Its first
-- item holds the protected bytes, its second one is the unprotected map, its third one holds the payload, where there is
-- one, and its last one the signature or the tag.
pub record ArrayLies (tag : ℕ) (all item : Part) (protected : List ℕ) (payload : Option (List ℕ)) (last : List ℕ) : Type 0 where
  pub first : Part
  pub second : Part
  pub third : Part
  pub fourth : Part
  pub array : items_in (untagged tag item) ≡ Some (first ∷ (second ∷ (third ∷ (fourth ∷ []))))
  pub protected_lies : StringLies bytes_in all first protected
  pub unprotected_lies : LiesIn all second
  pub payload_lies : IfSome payload (StringLies bytes_in all third)
  pub last_lies : StringLies bytes_in all fourth last

-- the item itself, or the first one of the array that it is
abbrev pub IsFirstOf : Part → Part → Type 0
IsFirstOf value item = (item ≡ value) ⊎ ((others : List Part) × (items_in value ≡ Some (item ∷ others)))

-- The certificate under label 33 of a map (RFC 9360, section 2): the string there, or the first one of an array.
pub record CertificateLies (all map : Part) (certificate : List ℕ) : Type 0 where
  pub value : Part
  pub item : Part
  pub under : labelled map (pos 33) ≡ Ok (Some value)
  pub first : IsFirstOf value item
  pub stands_in : StringLies bytes_in all item certificate

-- a signature (COSE_Sign1; RFC 9052, section 4.2), whose certificate stands in the unprotected map
pub record SignatureLies (all item : Part) (signature : Signed) : Type 0 where
  pub parts : ArrayLies 18 all item signature.protected signature.payload signature.signature
  pub chain : IfSome signature.chain (CertificateLies all parts.second)

-- a code (COSE_Mac0; section 6.2)
abbrev pub CodeLies : Part → Part → Authenticated → Type 0
CodeLies all item code = ArrayLies 17 all item code.protected code.payload code.tag

-- a key (COSE_Key; section 7, and RFC 9053, section 7.1.1): the coordinates stand under the labels -2 and -3
pub record KeyLies (all item : Part) (key : Point) : Type 0 where
  pub first : Part
  pub second : Part
  pub under_first : labelled item (negsuc 1) ≡ Ok (Some first)
  pub under_second : labelled item (negsuc 2) ≡ Ok (Some second)
  pub x_lies : StringLies bytes_in all first key.x
  pub y_lies : StringLies bytes_in all second key.y
