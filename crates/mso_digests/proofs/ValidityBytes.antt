-- A validity as its fields are appended.
use Rattle.std.proofs.Common.{◌≡◌, ℕ, ℤ, List, Some, None, refl}
use Rattle.mdoc_outside.specs.declared.key_name.KeyName.TheVariants as keys
use Rattle.cbor_maps.specs.Writing.{map_head, put}
use Rattle.mso_digests.specs.Written.{date_bytes, validity_map}

pub three_written : (signed from until : ℤ) (a b c : List ℕ) → date_bytes signed ≡ Some a → date_bytes from ≡ Some b → date_bytes until ≡ Some c → put (put (put (map_head 3) keys.Signed (Some a)) keys.ValidFrom (Some b)) keys.ValidUntil (Some c) ≡ validity_map signed from until None
unfolding validity_map
three_written signed from until a b c ea eb ec = rw (ea, eb, ec) refl

pub four_written : (signed from until update : ℤ) (a b c d : List ℕ) → date_bytes signed ≡ Some a → date_bytes from ≡ Some b → date_bytes until ≡ Some c → date_bytes update ≡ Some d → put (put (put (put (map_head 4) keys.Signed (Some a)) keys.ValidFrom (Some b)) keys.ValidUntil (Some c)) keys.ExpectedUpdate (Some d) ≡ validity_map signed from until (Some update)
unfolding validity_map
four_written signed from until update a b c d ea eb ec ed = rw (ea, eb, ec, ed) refl
