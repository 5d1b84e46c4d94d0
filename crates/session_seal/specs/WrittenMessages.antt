-- The messages of a session as they are written (ISO/IEC 18013-5, 9.1.1.4): the keys in the order of their tables,
-- every head as short as it can be.
use Rattle.std.specs.Prelude.{ℕ, Bool, true, false, List, [], ◌∷◌, ◌++◌, Option, Some, None, option_map}
use Rattle.mdoc_outside.specs.declared.key_name.KeyName.TheVariants as names
use Rattle.cbor_view.specs.Shortest.{bytes_bytes, shortest_head, uint_bytes}
use Rattle.cbor_maps.specs.Writing.{named_map, encoded_bytes, key_bytes, map_head}
use Rattle.session_seal.specs.Messages.{SessionData}

unfoldable pub session_data_bytes : SessionData → List ℕ
session_data_bytes message = named_map ((names.Data, option_map bytes_bytes message.sealed) ∷ (names.Status, option_map uint_bytes message.status) ∷ [])

-- a status message
abbrev pub status_bytes : ℕ → List ℕ
status_bytes status = session_data_bytes (record { sealed = None; status = Some status })

-- the status of an answer: 20 (termination) where it is the last one
abbrev pub last_status : Bool → Option ℕ
last_status true = Some 20
last_status false = None

-- SessionEstablishment, whose key is given as the bytes of a COSE_Key
unfoldable pub establishment_bytes : List ℕ → List ℕ → List ℕ
establishment_bytes reader_key sealed = named_map ((names.EReaderKey, Some (encoded_bytes reader_key)) ∷ (names.Data, Some (bytes_bytes sealed)) ∷ [])

-- what is before a sealed text of so many bytes, and after it
abbrev pub field_count : Bool → ℕ
field_count true = 2
field_count false = 1

unfoldable pub data_head : ℕ → Bool → List ℕ
data_head length last = map_head (field_count last) ++ key_bytes names.Data ++ shortest_head 2 length

abbrev pub status_field : Bool → List ℕ
status_field true = key_bytes names.Status ++ uint_bytes 20
status_field false = []

unfoldable pub establishment_head : List ℕ → ℕ → List ℕ
establishment_head reader_key length = map_head 2 ++ key_bytes names.EReaderKey ++ encoded_bytes reader_key ++ key_bytes names.Data ++ shortest_head 2 length
