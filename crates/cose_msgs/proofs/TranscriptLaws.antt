-- The parts of a transcript, and those of a payload, can be told from its bytes.
use Rattle.std.proofs.Common.{◌≡◌, ℕ, ◌+◌, ◌<◌, ◌^◌, List, [], ◌∷◌, ◌++◌, length, drop, get_or, refl, sym, ap, ◌∙◌, subst, arith}
use Rattle.std.proofs.lemmas.List.{append-nil, append_cancel_right, length-append, length-drop}
use Rattle.std.specs.Prelude.{IsUtf8}
use Rattle.cbor_view.specs.Reading.{item_at}
use Rattle.cbor_view.specs.Shortest.{bytes_bytes, shortest_head, text_bytes}
use Rattle.cbor_view.specs.Spelling.{Spelled}
use Rattle.cbor_view.specs.Tree.{Tree, Bytes, Tag, Text, levels}
use Rattle.cbor_view.proofs.HeadReading.{first-same, second-same}
use Rattle.cbor_view.proofs.ItemReading.{item-again}
use Rattle.cbor_view.proofs.ShortestSpelling.{shortest-spelled}
use Rattle.cbor_view.proofs.WrittenParts.{AllPieces, piece-array, piece-shortest}
use Rattle.cbor_maps.specs.Writing.{encoded_bytes}
use Rattle.cose_msgs.specs.Transcript.{transcript, device_authentication, reader_authentication, device_payload, reader_payload}
use Rattle.cose_msgs.specs.TranscriptLaws.{TranscriptHasParts, DevicePayloadHasParts, ReaderPayloadHasParts, PayloadsDiffer, TranscriptIsItem}

-- ---- two things at the front of the same bytes

record AreSame (t u : Tree) (a b r s : List ℕ) : Type 0 where
  item : t ≡ u
  front : a ≡ b
  rest : r ≡ s

same-item : (t u : Tree) (a b r s : List ℕ) → Spelled t a → Spelled u b → a ++ r ≡ b ++ s → AreSame t u a b r s
same-item t u a b r s is are e =
    let d = levels t + levels u in
    let one = item-again t d a r is (omega arith) in
    let two = item-again u d b s are (omega arith) in
    let same = sym one ∙ ap (item_at d) e ∙ two in
    let rest : r ≡ s = second-same (t, r) (u, s) same in
    record {
      item = first-same (t, r) (u, s) same;
      front = append_cancel_right a b s (ap (λ (x : List ℕ). a ++ x) (sym rest) ∙ e);
      rest = rest;
    }

record AreParts (a b r s : List ℕ) : Type 0 where
  front : a ≡ b
  rest : r ≡ s

same-encoded : (a b r s : List ℕ) → length a < 2 ^ 32 → length b < 2 ^ 32 → encoded_bytes a ++ r ≡ encoded_bytes b ++ s → AreParts a b r s
same-encoded a b r s short less e =
    let both = same-item (Tag 24 (Bytes a)) (Tag 24 (Bytes b)) (encoded_bytes a) (encoded_bytes b) r s (shortest-spelled (Tag 24 (Bytes a)) (omega arith, short)) (shortest-spelled (Tag 24 (Bytes b)) (omega arith, less)) e in
    let item = both.item in
    record { front = cc; rest = both.rest }

same-text : (a b r s : List ℕ) → IsUtf8 a → IsUtf8 b → length a < 2 ^ 32 → length b < 2 ^ 32 → text_bytes a ++ r ≡ text_bytes b ++ s → AreParts a b r s
same-text a b r s text other short less e =
    let both = same-item (Text a) (Text b) (text_bytes a) (text_bytes b) r s (shortest-spelled (Text a) (short, text)) (shortest-spelled (Text b) (less, other)) e in
    let item = both.item in
    record { front = cc; rest = both.rest }

-- ---- transcripts

pub transcript-parts : TranscriptHasParts
unfolding transcript
transcript-parts e f k l h i a b c d same =
    let one = same-encoded e f (encoded_bytes k ++ (h ++ [])) (encoded_bytes l ++ (i ++ [])) a b (ap (λ (x : List ℕ). drop 1 x) same) in
    let two = same-encoded k l (h ++ []) (i ++ []) c d one.rest in
    (one.front, two.front, sym (append-nil h) ∙ two.rest ∙ append-nil i)

pub transcript-item : TranscriptIsItem
unfolding transcript
transcript-item e k h a b is =
    let d = levels is.item + 2 in
    let pieces : AllPieces d (encoded_bytes e ∷ encoded_bytes k ∷ h ∷ []) = (
      piece-shortest d (Tag 24 (Bytes e)) (omega arith, a) (omega arith),
      (
        piece-shortest d (Tag 24 (Bytes k)) (omega arith, b) (omega arith),
        (record { item = is.item; spelled = is.spelled; nesting = omega arith }, tt),
      ),
    ) in
    let p = piece-array d (encoded_bytes e ∷ encoded_bytes k ∷ h ∷ []) pieces (omega arith) in
    record { item = p.item; spelled = p.spelled }

-- ---- payloads

-- what is encoded is shorter than its encoding
inner-short : (a : List ℕ) → length (encoded_bytes a) < 2 ^ 32 → length a < 2 ^ 32
inner-short a short = omega (arith, length-append (shortest_head 6 24) (bytes_bytes a), length-append (shortest_head 2 (length a)) a)

same-payload : (a b : List ℕ) → length (encoded_bytes a) < 2 ^ 32 → encoded_bytes a ≡ encoded_bytes b → a ≡ b
same-payload a b short e =
    let less : length (encoded_bytes b) < 2 ^ 32 = subst (λ (x : List ℕ). length x < 2 ^ 32) e short in
    (same-encoded a b [] [] (inner-short a short) (inner-short b less) (ap (λ (x : List ℕ). x ++ []) e)).front

-- the end of what the device authenticates
abbrev device_rest : List ℕ → List ℕ → List ℕ
device_rest doc_type namespaces = text_bytes doc_type ++ (encoded_bytes namespaces ++ [])

device-after : (t d n : List ℕ) → drop 22 (device_authentication t d n) ≡ t ++ device_rest d n
unfolding device_authentication
device-after t d n = refl

reader-after : (t i : List ℕ) → drop 22 (reader_authentication t i) ≡ t ++ (i ++ [])
unfolding reader_authentication
reader-after t i = refl

rest-short : (t d n : List ℕ) → length (t ++ device_rest d n) < 2 ^ 32 → (length d < 2 ^ 32) × (length n < 2 ^ 32)
rest-short t d n short =
    let whole = length-append t (device_rest d n) in
    let parts = length-append (text_bytes d) (encoded_bytes n ++ []) in
    let text = length-append (shortest_head 3 (length d)) d in
    let tagged = length-append (encoded_bytes n) [] in
    let string = length-append (shortest_head 6 24) (bytes_bytes n) in
    let inner = length-append (shortest_head 2 (length n)) n in
    (omega arith, omega arith)

device-short : (t d n : List ℕ) → length (device_payload t d n) < 2 ^ 32 → (length d < 2 ^ 32) × (length n < 2 ^ 32)
unfolding device_payload
device-short t d n short =
    let inner = inner-short (device_authentication t d n) short in
    let dropped = length-drop 22 (device_authentication t d n) in
    rest-short t d n (rw (← device-after t d n) (omega arith))

pub device-parts : DevicePayloadHasParts
unfolding device_payload
device-parts t u d c n m is are text other short e =
    let whole = same-payload (device_authentication t d n) (device_authentication u c m) short e in
    let after : t ++ device_rest d n ≡ u ++ device_rest c m = sym (device-after t d n) ∙ ap (λ (x : List ℕ). drop 22 x) whole ∙ device-after u c m in
    let items = same-item is.item are.item t u (device_rest d n) (device_rest c m) is.spelled are.spelled after in
    let one = device-short t d n short in
    let two = device-short u c m (subst (λ (x : List ℕ). length x < 2 ^ 32) e short) in
    let texts = same-text d c (encoded_bytes n ++ []) (encoded_bytes m ++ []) text other one.0 two.0 items.rest in
    (items.front, texts.front, (same-encoded n m [] [] one.1 two.1 texts.rest).front)

pub reader-parts : ReaderPayloadHasParts
unfolding reader_payload
reader-parts t u i j is are short e =
    let whole = same-payload (reader_authentication t i) (reader_authentication u j) short e in
    let after : t ++ (i ++ []) ≡ u ++ (j ++ []) = sym (reader-after t i) ∙ ap (λ (x : List ℕ). drop 22 x) whole ∙ reader-after u j in
    let items = same-item is.item are.item t u (i ++ []) (j ++ []) is.spelled are.spelled after in
    (items.front, sym (append-nil i) ∙ items.rest ∙ append-nil j)

-- they begin with the heads of arrays of four and of three
device-first : (t d n : List ℕ) → get_or (device_authentication t d n) 0 0 ≡ 132
unfolding device_authentication
device-first t d n = refl

reader-first : (t i : List ℕ) → get_or (reader_authentication t i) 0 0 ≡ 131
unfolding reader_authentication
reader-first t i = refl

pub payloads-differ : PayloadsDiffer
unfolding device_payload reader_payload
payloads-differ t d n u i short e =
    let whole = same-payload (device_authentication t d n) (reader_authentication u i) short e in
    let first : ◌≡◌ {A = ℕ} 132 131 = sym (device-first t d n) ∙ ap (λ (x : List ℕ). get_or x 0 0) whole ∙ reader-first u i in
    absurd (omega (arith, first))
