-- Security objects as they are written (ISO/IEC 18013-5, 9.1.2.4): the keys in the order of their tables, every head as
-- short as it can be, the digests grouped by namespace.
use Rattle.std.specs.Prelude.{◌≡◌, ℕ, Bool, false, ◌==◌, ◌&&◌, if◌then◌else◌, ℤ, List, [], ◌∷◌, ◌++◌, map, flat_map, filter, codes, Option, Some, option_map, option_and_then, IsUtf8, IfSome}
use Rattle.std.specs.List.{list_any, AllByRecursion}
use Rattle.std.specs.Str.{bytes_eq}
use Rattle.mdoc_outside.specs.declared.key_name.KeyName.TheVariants as keys
use Rattle.cbor_view.specs.Shortest.{bytes_bytes, map_bytes, tag_bytes, text_bytes, uint_bytes}
use Rattle.cbor_maps.specs.Writing.{named_map, encoded_bytes}
use Rattle.cose_msgs.specs.Written.{key_bytes}
use Rattle.key_device.specs.declared.point.Point.{Point}
use Rattle.mdl_table.specs.MomentText.{text_of, IsInYears}
use Rattle.mso_digests.specs.Digests.{Digest}
use Rattle.mso_digests.specs.Object.{Object}

-- a digest that is to be written: a namespace, a digest identifier, and the digest
abbrev pub Entry : Type 0
Entry = List ℕ × ℕ × List ℕ

-- ---- the digests, grouped

abbrev pub is_of : List ℕ → Entry → Bool
is_of namespace d = bytes_eq d.0 namespace

abbrev pub has_namespace : List ℕ → List Entry → Bool
has_namespace namespace ds = list_any (is_of namespace) ds

abbrev pub group : List ℕ → List Entry → List Entry
group namespace ds = filter (is_of namespace) ds

-- each namespace once, in the order of first appearance, of digests with others before them
abbrev pub namespaces_after : List Entry → List Entry → List (List ℕ)
namespaces_after before [] = []
namespaces_after before (d ∷ ds) =
    if has_namespace d.0 before then namespaces_after (before ++ d ∷ []) ds else d.0 ∷ namespaces_after (before ++ d ∷ []) ds

abbrev pub namespaces : List Entry → List (List ℕ)
namespaces ds = namespaces_after [] ds

abbrev pub digest_pair : Entry → List ℕ × List ℕ
digest_pair d = (uint_bytes d.1, bytes_bytes d.2)

abbrev pub group_bytes : List Entry → List ℕ → List ℕ
group_bytes ds namespace = map_bytes (map digest_pair (group namespace ds))

abbrev pub namespace_pair : List Entry → List ℕ → List ℕ × List ℕ
namespace_pair ds namespace = (text_bytes namespace, group_bytes ds namespace)

unfoldable pub digests_bytes : List Entry → List ℕ
digests_bytes ds = map_bytes (map (namespace_pair ds) (namespaces ds))

-- the digests in the order in which they are written
abbrev pub listed : Entry → Digest
listed d = record { namespace = d.0; number = d.1; digest = d.2 }

abbrev pub grouped : List Entry → List Digest
grouped ds = map listed (flat_map (λ namespace. group namespace ds) (namespaces ds))

-- ---- the object

-- What an object is written from.
pub record Draft : Type 0 where
  pub doc_type : List ℕ
  pub digests : List Entry
  pub device_key : Point
  pub signed : ℤ
  pub from : ℤ
  pub until : ℤ
  pub update : Option ℤ

-- a date and time, of a moment in the years 0 to 9999
abbrev pub date_bytes : ℤ → Option (List ℕ)
date_bytes moment = option_map (λ text. tag_bytes 0 (text_bytes text)) (text_of moment)

unfoldable pub validity_map : ℤ → ℤ → ℤ → Option ℤ → List ℕ
validity_map signed from until update =
    named_map ((keys.Signed, date_bytes signed) ∷ (keys.ValidFrom, date_bytes from) ∷ (keys.ValidUntil, date_bytes until) ∷ (keys.ExpectedUpdate, option_and_then date_bytes update) ∷ [])

unfoldable pub key_map : Point → List ℕ
key_map key = named_map ((keys.DeviceKey, Some (key_bytes key)) ∷ [])

unfoldable pub object_map : Draft → List ℕ
object_map d =
    named_map ((keys.Version, Some (text_bytes (codes "1.0"))) ∷ (keys.DigestAlgorithm, Some (text_bytes (codes "SHA-256")))
    ∷ (keys.ValueDigests, Some (digests_bytes d.digests)) ∷ (keys.DeviceKeyInfo, Some (key_map d.device_key))
    ∷ (keys.DocType, Some (text_bytes d.doc_type)) ∷ (keys.ValidityInfo, Some (validity_map d.signed d.from d.until d.update)) ∷ [])

-- the payload: tag 24 over the bytes of the map
abbrev pub object_bytes : Draft → List ℕ
object_bytes d = encoded_bytes (object_map d)

-- what is read of it
abbrev pub drafted : Draft → Object
drafted d = record { doc_type = d.doc_type; digests = grouped d.digests; device_key = key_bytes d.device_key; signed = d.signed; from = d.from; until = d.until }

-- ---- what can be written

-- no namespace and digest identifier together stand twice
abbrev pub is_same : Entry → Entry → Bool
is_same d e = bytes_eq d.0 e.0 && d.1 == e.1

abbrev pub AreOnce : List Entry → Type 0
AreOnce [] = Unit {0}
AreOnce (d ∷ ds) = (list_any (is_same d) ds ≡ false) × AreOnce ds

-- each namespace is a text
abbrev pub AreTexts : List Entry → Type 0
AreTexts ds = AllByRecursion (λ d. IsUtf8 d.0) ds

-- the moments are in the years 0 to 9999
pub record AreInYears (d : Draft) : Type 0 where
  pub signed : IsInYears d.signed
  pub from : IsInYears d.from
  pub until : IsInYears d.until
  pub update : IfSome d.update IsInYears
