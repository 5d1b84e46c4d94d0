-- What can be told from the bytes of a transcript and of a payload, so that no bytes can be moved from one part
-- into another.
use Rattle.std.specs.Prelude.{◌≡◌, ℕ, ◌<◌, ◌^◌, List, length, IsUtf8}
use Rattle.cbor_view.specs.Spelling.{Spelled}
use Rattle.cbor_view.specs.Tree.{Tree}
use Rattle.cose_msgs.specs.Transcript.{transcript, device_payload, reader_payload}

-- The bytes spell one item of CBOR, however deep.
pub record IsOneItem (bytes : List ℕ) : Type 0 where
  pub item : Tree
  pub spelled : Spelled item bytes

-- a string of bytes has a spelling
abbrev pub IsShort : List ℕ → Type 0
IsShort bytes = length bytes < 2 ^ 32

-- Equal transcripts have equal engagements, reader keys and handovers, whatever the handovers are.
abbrev pub TranscriptHasParts : Type 0
TranscriptHasParts =
    (e f k l h i : List ℕ) → IsShort e → IsShort f → IsShort k → IsShort l
    → transcript e k h ≡ transcript f l i → (e ≡ f) × (k ≡ l) × (h ≡ i)

-- A transcript whose handover is one item is one item.
abbrev pub TranscriptIsItem : Type 0
TranscriptIsItem = (e k h : List ℕ) → IsShort e → IsShort k → IsOneItem h → IsOneItem (transcript e k h)

-- Equal payloads of the device over transcripts that are one item have equal transcripts, document types and
-- namespaces.
abbrev pub DevicePayloadHasParts : Type 0
DevicePayloadHasParts =
    (t u d c n m : List ℕ) → IsOneItem t → IsOneItem u → IsUtf8 d → IsUtf8 c → IsShort (device_payload t d n)
    → device_payload t d n ≡ device_payload u c m → (t ≡ u) × (d ≡ c) × (n ≡ m)

-- Equal payloads of the reader over such transcripts have equal transcripts and items.
abbrev pub ReaderPayloadHasParts : Type 0
ReaderPayloadHasParts =
    (t u i j : List ℕ) → IsOneItem t → IsOneItem u → IsShort (reader_payload t i)
    → reader_payload t i ≡ reader_payload u j → (t ≡ u) × (i ≡ j)

-- A payload of the device is never one of the reader.
abbrev pub PayloadsDiffer : Type 0
PayloadsDiffer = (t d n u i : List ℕ) → IsShort (device_payload t d n) → ¬ (device_payload t d n ≡ reader_payload u i)
