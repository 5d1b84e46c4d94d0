-- The mobile security object (ISO/IEC 18013-5, 9.1.2.4): what the payload of an issuer's signature says, or the first
-- check that fails.
use Rattle.std.specs.Prelude.{ℕ, Bool, ℤ, List, [], ◌∷◌, codes, eqb, Option, Some, None, Result, Ok}
use Rattle.std.specs.List.{starts_with}
use Rattle.std.specs.Str.{bytes_eq}
use Rattle.mdoc_outside.specs.declared.key_name.KeyName.{KeyName}
use Rattle.mdoc_outside.specs.declared.key_name.KeyName.TheVariants as keys
use Rattle.mdoc_outside.specs.ResultSteps.{◌>>=◌, or_fault}
use Rattle.cbor_view.specs.Parts.{Part, cbor, tagged, text_in}
use Rattle.cbor_maps.specs.declared.map_fault.MapFault.{MapFault}
use Rattle.cbor_maps.specs.declared.map_fault.MapFault.TheVariants as maps
use Rattle.cbor_maps.specs.Reading.{distinct, field, optional_field, of_kind, there, any_in, map_in, map_fault, tagged_string, spelled_item}
use Rattle.cose_msgs.specs.Steps.{check}
use Rattle.mdl_table.specs.Calendar.{moment_of}
use Rattle.mso_digests.specs.declared.mso_fault.MsoFault.{MsoFault}
use Rattle.mso_digests.specs.declared.mso_fault.MsoFault.TheVariants as faults
use Rattle.mso_digests.specs.Digests.{Digest, digests_in, is_digest_map, have_length, has_distinct_digests}
use Rattle.std.specs.Prelude.{option_and_then}

-- The document type, the digests of the items, the bytes of the device key, and three moments in seconds since
-- 1970: when it was signed, and from when and until when it is valid.
pub record Object : Type 0 where
  pub doc_type : List ℕ
  pub digests : List Digest
  pub device_key : List ℕ
  pub signed : ℤ
  pub from : ℤ
  pub until : ℤ

-- ---- first, no key of a table is there twice

abbrev pub object_names : List KeyName
object_names = keys.Version ∷ keys.DigestAlgorithm ∷ keys.ValueDigests ∷ keys.DeviceKeyInfo ∷ keys.DocType ∷ keys.ValidityInfo ∷ []

abbrev pub validity_names : List KeyName
validity_names = keys.Signed ∷ keys.ValidFrom ∷ keys.ValidUntil ∷ keys.ExpectedUpdate ∷ []

abbrev pub distinct_in : List KeyName → Option Part → Result (Unit {0}) MapFault
distinct_in names None = Ok tt
distinct_in names (Some map) = distinct names map

-- neither a namespace nor a digest identifier in it
abbrev pub digests_distinct : Option Part → Result (Unit {0}) MapFault
digests_distinct None = Ok tt
digests_distinct (Some map) = check (maps.Doubled keys.ValueDigests) (has_distinct_digests map)

abbrev pub distinct_keys : Part → Result (Unit {0}) MapFault
distinct_keys map = do
  each ← distinct object_names map
  digests ← optional_field keys.ValueDigests any_in map
  digest ← digests_distinct digests
  info ← optional_field keys.DeviceKeyInfo any_in map
  key ← distinct_in (keys.DeviceKey ∷ []) info
  validity ← optional_field keys.ValidityInfo any_in map
  distinct_in validity_names validity

-- ---- then each key is there with a value of its kind

-- The texts of the moments, as they stand.
pub record Validity : Type 0 where
  pub signed : List ℕ
  pub from : List ℕ
  pub until : List ℕ
  pub update : Option (List ℕ)

pub record Contents : Type 0 where
  pub version : List ℕ
  pub algorithm : List ℕ
  pub digests : Part
  pub device_key : List ℕ
  pub doc_type : List ℕ
  pub validity : Validity

-- a date and time: a text under tag 0 (tdate; RFC 8949, section 3.4.1)
abbrev pub date_text : Part → Option (List ℕ)
date_text value = option_and_then text_in (tagged 0 value)

abbrev pub date_under : KeyName → Part → Result (List ℕ) MapFault
date_under name map = field name any_in map >>= λ value. of_kind name (date_text value)

abbrev pub optional_date : KeyName → Option Part → Result (Option (List ℕ)) MapFault
optional_date name None = Ok None
optional_date name (Some value) = there (of_kind name (date_text value))

abbrev pub validity_of : Part → Result Validity MapFault
validity_of map = do
  signed ← date_under keys.Signed map
  from ← date_under keys.ValidFrom map
  until ← date_under keys.ValidUntil map
  update ← optional_field keys.ExpectedUpdate any_in map
  next ← optional_date keys.ExpectedUpdate update
  Ok (record { signed = signed; from = from; until = until; update = next })

abbrev pub contents_of : Part → Result Contents MapFault
contents_of map = do
  version ← field keys.Version text_in map
  algorithm ← field keys.DigestAlgorithm text_in map
  digests ← field keys.ValueDigests any_in map
  listed ← check (maps.Field keys.ValueDigests) (is_digest_map digests)
  info ← field keys.DeviceKeyInfo map_in map
  key ← field keys.DeviceKey any_in info
  doc_type ← field keys.DocType text_in map
  dates ← field keys.ValidityInfo map_in map
  validity ← validity_of dates
  Ok (record { version = version; algorithm = algorithm; digests = digests; device_key = key.bytes; doc_type = doc_type; validity = validity })

-- ---- then the values

-- a version 1.x
abbrev pub is_version : List ℕ → Bool
is_version text = starts_with eqb text (codes "1.")

abbrev pub is_sha256 : List ℕ → Bool
is_sha256 text = bytes_eq text (codes "SHA-256")

abbrev pub moment_under : List ℕ → Result ℤ MsoFault
moment_under text = or_fault faults.Date (moment_of text)

abbrev pub update_of : Option (List ℕ) → Result (Unit {0}) MsoFault
update_of None = Ok tt
update_of (Some text) = moment_under text >>= λ moment. Ok tt

-- The moments of a validity.
pub record Moments : Type 0 where
  pub signed : ℤ
  pub from : ℤ
  pub until : ℤ

abbrev pub moments_of : Validity → Result Moments MsoFault
moments_of v = do
  signed ← moment_under v.signed
  from ← moment_under v.from
  until ← moment_under v.until
  update ← update_of v.update
  Ok (record { signed = signed; from = from; until = until })

abbrev pub object_with : Contents → Result Object MsoFault
object_with c = do
  version ← check faults.Version (is_version c.version)
  algorithm ← check faults.Algorithm (is_sha256 c.algorithm)
  lengths ← check faults.DigestLength (have_length (digests_in c.digests))
  moments ← moments_of c.validity
  Ok (record { doc_type = c.doc_type; digests = digests_in c.digests; device_key = c.device_key; signed = moments.signed; from = moments.from; until = moments.until })

abbrev pub object_of_map : Part → Result Object MsoFault
object_of_map map = do
  distinct ← map_fault faults.Doubled faults.Field (distinct_keys map)
  contents ← map_fault faults.Doubled faults.Field (contents_of map)
  object_with contents

-- the payload is tag 24 over a string of bytes, and the string is CBOR
unfoldable pub object : List ℕ → Result Object MsoFault
object payload = do
  inside ← tagged_string faults.Cbor (cbor payload)
  map ← spelled_item (λ other. faults.Cbor) (cbor inside)
  object_of_map map
