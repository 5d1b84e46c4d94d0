-- The transcript of a session (ISO/IEC 18013-5, 9.1.5.1), and the payloads of the device's and the reader's
-- authentication (9.1.3 and 9.1.4), which are detached. All are over bytes: each part stands there as the
-- bytes that it has, whatever these are and however deep the items that they spell.
use Rattle.std.specs.Prelude.{ℕ, List, [], ◌∷◌, codes}
use Rattle.cbor_view.specs.Shortest.{array_bytes, text_bytes}
use Rattle.cbor_maps.specs.Writing.{encoded_bytes}

-- SessionTranscript: DeviceEngagementBytes and EReaderKeyBytes, each tag 24 over a string of bytes, and Handover
unfoldable pub transcript : List ℕ → List ℕ → List ℕ → List ℕ
transcript engagement reader_key handover = array_bytes (encoded_bytes engagement ∷ encoded_bytes reader_key ∷ handover ∷ [])

-- SessionTranscriptBytes
unfoldable pub transcript_bytes : List ℕ → List ℕ
transcript_bytes transcript = encoded_bytes transcript

-- DeviceAuthentication: the document type is a text, and the device's namespaces are the bytes of their map
unfoldable pub device_authentication : List ℕ → List ℕ → List ℕ → List ℕ
device_authentication transcript doc_type namespaces = array_bytes (text_bytes (codes "DeviceAuthentication") ∷ transcript ∷ text_bytes doc_type ∷ encoded_bytes namespaces ∷ [])

-- ReaderAuthentication: the items that are asked for are ItemsRequestBytes, with their tag
unfoldable pub reader_authentication : List ℕ → List ℕ → List ℕ
reader_authentication transcript items = array_bytes (text_bytes (codes "ReaderAuthentication") ∷ transcript ∷ items ∷ [])

-- what the device signs or authenticates, and what the reader signs
unfoldable pub device_payload : List ℕ → List ℕ → List ℕ → List ℕ
device_payload transcript doc_type namespaces = encoded_bytes (device_authentication transcript doc_type namespaces)

unfoldable pub reader_payload : List ℕ → List ℕ → List ℕ
reader_payload transcript items = encoded_bytes (reader_authentication transcript items)
