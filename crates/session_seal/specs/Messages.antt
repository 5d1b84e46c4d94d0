-- The messages of a session (ISO/IEC 18013-5, 9.1.1.4): what the fields of one say, or none where it is outside its
-- form. Keys may be in any order, each named key is there once, and other keys are ignored.
use Rattle.std.specs.Prelude.{ℕ, ◌||◌, Bool, List, [], ◌∷◌, Option, Some, None, is_some, Result, Ok, Err}
use Rattle.mdoc_outside.specs.declared.key_name.KeyName.TheVariants as names
use Rattle.mdoc_outside.specs.OptionSteps.{where_true}
use Rattle.mdoc_outside.specs.ResultSteps.{◌>>=◌}
use Rattle.cbor_view.specs.declared.cbor_fault.CborFault.{CborFault}
use Rattle.cbor_view.specs.Parts.{Part, cbor, uint_in, bytes_in}
use Rattle.cbor_maps.specs.declared.map_fault.MapFault.{MapFault}
use Rattle.cbor_maps.specs.Reading.{distinct, field, optional_field, encoded_in}
use Rattle.cose_msgs.specs.declared.key_fault.KeyFault.{KeyFault}
use Rattle.cose_msgs.specs.Key.{key_of}
use Rattle.key_device.specs.declared.point.Point.{Point}

-- SessionData: a sealed text, a status, or both. One with a status alone is a status message, by which its end says
-- that it ends the session (table 20).
pub record SessionData : Type 0 where
  pub sealed : Option (List ℕ)
  pub status : Option ℕ

abbrev pub data_of_map : Part → Result SessionData MapFault
data_of_map map = do
  each ← distinct (names.Data ∷ names.Status ∷ []) map
  sealed ← optional_field names.Data bytes_in map
  status ← optional_field names.Status uint_in map
  Ok (record { sealed = sealed; status = status })

abbrev pub has_field : SessionData → Bool
has_field message = is_some message.sealed || is_some message.status

abbrev pub with_field : Result SessionData MapFault → Option SessionData
with_field (Ok message) = where_true (has_field message) message
with_field (Err fault) = None

abbrev pub data_of_item : Result Part CborFault → Option SessionData
data_of_item (Ok map) = with_field (data_of_map map)
data_of_item (Err fault) = None

unfoldable pub session_data : List ℕ → Option SessionData
session_data bytes = data_of_item (cbor bytes)

-- SessionEstablishment: the reader's ephemeral key, as bytes of a COSE_Key and as its point, and a sealed text.
pub record Establishment : Type 0 where
  pub reader_key : List ℕ
  pub point : Point
  pub sealed : List ℕ

-- the key's bytes and the sealed text, before the key is read
pub record KeyAndText : Type 0 where
  pub reader_key : List ℕ
  pub sealed : List ℕ

abbrev pub key_and_text : Part → Result KeyAndText MapFault
key_and_text map = do
  each ← distinct (names.EReaderKey ∷ names.Data ∷ []) map
  reader_key ← field names.EReaderKey encoded_in map
  sealed ← field names.Data bytes_in map
  Ok (record { reader_key = reader_key; sealed = sealed })

abbrev pub with_point : KeyAndText → Result Point KeyFault → Option Establishment
with_point fields (Ok point) = Some (record { reader_key = fields.reader_key; point = point; sealed = fields.sealed })
with_point fields (Err fault) = None

abbrev pub with_key : KeyAndText → Result Part CborFault → Option Establishment
with_key fields (Ok item) = with_point fields (key_of item)
with_key fields (Err fault) = None

abbrev pub with_fields : Result KeyAndText MapFault → Option Establishment
with_fields (Ok fields) = with_key fields (cbor fields.reader_key)
with_fields (Err fault) = None

abbrev pub establishment_of_item : Result Part CborFault → Option Establishment
establishment_of_item (Ok map) = with_fields (key_and_text map)
establishment_of_item (Err fault) = None

unfoldable pub establishment : List ℕ → Option Establishment
establishment bytes = establishment_of_item (cbor bytes)
