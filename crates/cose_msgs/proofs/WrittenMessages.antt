-- A message that was written is read as it was given.
use Rattle.std.proofs.Common.{◌≡◌, ◌&&◌, ◌<◌, ◌^◌, ℕ, ℤ, pos, negsuc, true, false, not, List, [], ◌∷◌, length, Option, Some, None, Ok, option_map, IfSome, refl, ap, ◌∙◌, arith, eq-eqb, inl}
use Rattle.cbor_view.specs.Label.{Label, entries_or_none}
use Rattle.cbor_view.specs.Parts.{Part, pairs_in}
use Rattle.cbor_view.specs.Shortest.{array_bytes, bytes_bytes, int_bytes, null_bytes}
use Rattle.cbor_view.specs.Tree.{Unsigned, Negative, Bytes, Simple}
use Rattle.cbor_view.proofs.WrittenParts.{IsPiece, piece-deeper, piece-shortest, cbor-piece, tree-shortest, AllPieces, items-written, array-untagged, piece-array}
use Rattle.cbor_maps.specs.Labels.{LabelledFields, labelled_values, labelled_map, labelled, label_bytes}
use Rattle.cbor_maps.specs.Writing.{map_head}
use Rattle.cbor_maps.specs.Reading.{map_in}
use Rattle.cbor_maps.specs.WrittenReads.{AreLabelled}
use Rattle.cbor_maps.proofs.LabelledMaps.{IsLabelled, under-label, no-label, piece-label, piece-of-fields, piece-labelled, map-labelled, pairs-labelled}
use Rattle.cose_msgs.specs.Headers.{has_label, label_in, are_distinct, has_distinct_labels, protected_map, has_algorithm, chain_in}
use Rattle.cose_msgs.specs.Message.{bytes_or_null, sign1, mac0}
use Rattle.std.specs.Borrow.{Bor}
use Rattle.mdoc_outside.specs.Borrowed.{content}
use Rattle.cose_msgs.specs.Written.{es256, hmac256, chain_map, payload_bytes, sign1_bytes, mac0_bytes, IsReadAs}
use Rattle.cose_msgs.proofs.WrittenKeys.{leaf}

-- ---- maps of at most one label

no-later : (label : Option Label) → has_label label [] ≡ false
no-later None = refl
no-later (Some label) = refl

one-distinct : (map key value : Part) → pairs_in map ≡ Some ((key, value) ∷ []) → has_distinct_labels map ≡ true
one-distinct map key value e = ap (λ (o : Option (List (Part × Part))). are_distinct (entries_or_none o)) e ∙ ap (λ b. not b && true) (no-later (label_in key))

none-distinct : (map : Part) → pairs_in map ≡ Some [] → has_distinct_labels map ≡ true
none-distinct map e = ap (λ (o : Option (List (Part × Part))). are_distinct (entries_or_none o)) e

-- ---- the protected maps

abbrev algorithm_field : ℤ → LabelledFields
algorithm_field number = (pos 1, Some (int_bytes number)) ∷ []

-- the map of an algorithm
abbrev algorithm_map : ℤ → List ℕ
algorithm_map number = labelled_map (algorithm_field number)

record IsProtected (number : ℤ) (bytes : List ℕ) : Type 0 where
  piece : IsPiece 32 bytes
  map : protected_map bytes ≡ Ok (record { at = 0; bytes = bytes })
  distinct : has_distinct_labels (record { at = 0; bytes = bytes }) ≡ true
  algorithm : has_algorithm number (record { at = 0; bytes = bytes }) ≡ true
  short : length bytes < 2 ^ 32

es256-fields : AreLabelled (labelled_values (algorithm_field (negsuc 6)))
es256-fields = (omega arith, leaf (int_bytes (negsuc 6)) (piece-shortest 0 (Negative 6) (omega arith) (omega arith)), tt)

hmac256-fields : AreLabelled (labelled_values (algorithm_field (pos 5)))
hmac256-fields = (omega arith, leaf (int_bytes (pos 5)) (piece-shortest 0 (Unsigned 5) (omega arith) (omega arith)), tt)

es256-value : IsLabelled (record { at = 0; bytes = es256 }) (pos 1) (int_bytes (negsuc 6))
unfolding es256
es256-value = under-label 0 (algorithm_field (negsuc 6)) (pos 1) (int_bytes (negsuc 6)) es256-fields (omega arith) refl

es256-pairs : has_distinct_labels (record { at = 0; bytes = es256 }) ≡ true
unfolding es256
es256-pairs = one-distinct (record { at = 0; bytes = algorithm_map (negsuc 6) }) _ _ (pairs-labelled 0 (algorithm_field (negsuc 6)) es256-fields (omega arith))

es256-is-map : map_in (record { at = 0; bytes = es256 }) ≡ Some (record { at = 0; bytes = es256 })
unfolding es256
es256-is-map = map-labelled 0 (algorithm_field (negsuc 6)) es256-fields (omega arith)

es256-piece : IsPiece 32 es256
unfolding es256
es256-piece = piece-labelled (algorithm_field (negsuc 6)) es256-fields (omega arith)

es256-short : length es256 < 2 ^ 32
unfolding es256 map_head label_bytes
es256-short = omega arith

es256-protected : IsProtected (negsuc 6) es256
es256-protected = let v = es256-value in record {
  piece = es256-piece;
  map = rw (cbor-piece es256 es256-piece) (rw es256-is-map refl);
  distinct = es256-pairs;
  algorithm = rw v.is (rw (tree-shortest (Negative 6) (omega arith) (omega arith)) refl);
  short = es256-short;
}

hmac256-value : IsLabelled (record { at = 0; bytes = hmac256 }) (pos 1) (int_bytes (pos 5))
unfolding hmac256
hmac256-value = under-label 0 (algorithm_field (pos 5)) (pos 1) (int_bytes (pos 5)) hmac256-fields (omega arith) refl

hmac256-pairs : has_distinct_labels (record { at = 0; bytes = hmac256 }) ≡ true
unfolding hmac256
hmac256-pairs = one-distinct (record { at = 0; bytes = algorithm_map (pos 5) }) _ _ (pairs-labelled 0 (algorithm_field (pos 5)) hmac256-fields (omega arith))

hmac256-is-map : map_in (record { at = 0; bytes = hmac256 }) ≡ Some (record { at = 0; bytes = hmac256 })
unfolding hmac256
hmac256-is-map = map-labelled 0 (algorithm_field (pos 5)) hmac256-fields (omega arith)

hmac256-piece : IsPiece 32 hmac256
unfolding hmac256
hmac256-piece = piece-labelled (algorithm_field (pos 5)) hmac256-fields (omega arith)

hmac256-short : length hmac256 < 2 ^ 32
unfolding hmac256 map_head label_bytes
hmac256-short = omega arith

hmac256-protected : IsProtected (pos 5) hmac256
hmac256-protected = let v = hmac256-value in record {
  piece = hmac256-piece;
  map = rw (cbor-piece hmac256 hmac256-piece) (rw hmac256-is-map refl);
  distinct = hmac256-pairs;
  algorithm = rw v.is (rw (tree-shortest (Unsigned 5) (omega arith) (omega arith)) refl);
  short = hmac256-short;
}

-- ---- the unprotected map

abbrev chain_fields : Option (List ℕ) → LabelledFields
chain_fields chain = (pos 33, option_map bytes_bytes chain) ∷ []

-- a string that may be left out is short
abbrev pub IsShort : Option (List ℕ) → Type 0
IsShort o = IfSome o (λ b. length b < 2 ^ 32)

chain-are : (chain : Option (List ℕ)) → IsShort chain → AreLabelled (labelled_values (chain_fields chain))
chain-are None short = tt
chain-are (Some b) short = (omega arith, leaf (bytes_bytes b) (piece-shortest 0 (Bytes b) short (omega arith)), tt)

chain-few : (chain : Option (List ℕ)) → length (labelled_values (chain_fields chain)) < 2 ^ 32
chain-few None = omega arith
chain-few (Some b) = omega arith

chain-piece : (chain : Option (List ℕ)) → IsShort chain → IsPiece 31 (chain_map chain)
unfolding chain_map
chain-piece None short = piece-deeper 1 31 (labelled_map (chain_fields None)) (omega arith) (piece-of-fields 0 (chain_fields None) tt (omega arith))
chain-piece (Some b) short = piece-deeper 1 31 (labelled_map (chain_fields (Some b))) (omega arith) (piece-of-fields 0 (chain_fields (Some b)) (piece-label 0 (pos 33) (omega arith), piece-shortest 0 (Bytes b) short (omega arith), tt) (omega arith))

chain-is-map : (at : ℕ) (chain : Option (List ℕ)) → IsShort chain → map_in (record { at = at; bytes = chain_map chain }) ≡ Some (record { at = at; bytes = chain_map chain })
unfolding chain_map
chain-is-map at chain short = map-labelled at (chain_fields chain) (chain-are chain short) (chain-few chain)

chain-distinct : (at : ℕ) (chain : Option (List ℕ)) → IsShort chain → has_distinct_labels (record { at = at; bytes = chain_map chain }) ≡ true
unfolding chain_map
chain-distinct at None short = none-distinct (record { at = at; bytes = labelled_map (chain_fields None) }) (pairs-labelled at (chain_fields None) tt (omega arith))
chain-distinct at (Some b) short = one-distinct (record { at = at; bytes = labelled_map (chain_fields (Some b)) }) _ _ (pairs-labelled at (chain_fields (Some b)) (chain-are (Some b) short) (omega arith))

no-chain : (at : ℕ) → labelled (record { at = at; bytes = chain_map None }) (pos 33) ≡ Ok None
unfolding chain_map
no-chain at = no-label at (chain_fields None) (pos 33) tt (omega arith) refl

one-chain : (at : ℕ) (b : List ℕ) → length b < 2 ^ 32 → IsLabelled (record { at = at; bytes = chain_map (Some b) }) (pos 33) (bytes_bytes b)
unfolding chain_map
one-chain at b short = under-label at (chain_fields (Some b)) (pos 33) (bytes_bytes b) (chain-are (Some b) short) (omega arith) refl

chain-read : (at : ℕ) (chain : Option (List ℕ)) → IsShort chain → chain_in (record { at = at; bytes = chain_map chain }) ≡ chain
chain-read at None short = rw (no-chain at) refl
chain-read at (Some b) short = let c = one-chain at b short in rw c.is (rw (tree-shortest (Bytes b) short (omega arith)) refl)

-- ---- the payload

payload-piece : (payload : Option (List ℕ)) → IsShort payload → IsPiece 31 (payload_bytes payload)
payload-piece None short = piece-shortest 31 (Simple 22) (inl (omega arith)) (omega arith)
payload-piece (Some b) short = piece-shortest 31 (Bytes b) short (omega arith)

payload-read : (at : ℕ) (payload : Option (List ℕ)) → IsShort payload → bytes_or_null (record { at = at; bytes = payload_bytes payload }) ≡ Some payload
payload-read at None short = rw (tree-shortest (Simple 22) (inl (omega arith)) (omega arith)) refl
payload-read at (Some b) short = rw (tree-shortest (Bytes b) short (omega arith)) refl

-- a borrowed string that may be left out
pub short-content : (o : Option (Bor (List ℕ))) → IfSome o (λ b. length b.now < 2 ^ 32) → IsShort (option_map content o)
short-content None short = tt
short-content (Some b) short = short

-- ---- the messages

pub record IsSigned (chain payload : Option (List ℕ)) (signature : List ℕ) : Type 0 where
  pub chain_short : IsShort chain
  pub payload_short : IsShort payload
  pub signature_length : length signature ≡ 64

abbrev sign1_parts : Option (List ℕ) → Option (List ℕ) → List ℕ → List (List ℕ)
sign1_parts chain payload signature = bytes_bytes es256 ∷ chain_map chain ∷ payload_bytes payload ∷ bytes_bytes signature ∷ []

bytes-piece : (b : List ℕ) → length b < 2 ^ 32 → IsPiece 31 (bytes_bytes b)
bytes-piece b short = piece-shortest 31 (Bytes b) short (omega arith)

sign1-pieces : (chain payload : Option (List ℕ)) (signature : List ℕ) → IsSigned chain payload signature → AllPieces 31 (sign1_parts chain payload signature)
sign1-pieces chain payload signature is = let n = is.signature_length in
    (bytes-piece es256 es256-short, (chain-piece chain is.chain_short, (payload-piece payload is.payload_short, (bytes-piece signature (omega arith), tt))))

sign1-value : (chain payload : Option (List ℕ)) (signature : List ℕ) → IsSigned chain payload signature → sign1 (record { at = 0; bytes = array_bytes (sign1_parts chain payload signature) }) ≡ Ok (record { protected = es256; chain = chain; payload = payload; signature = signature })
sign1-value chain payload signature is =
    let n = is.signature_length in
    let p = es256-protected in
    rw (array-untagged (sign1_parts chain payload signature) 0 (omega arith))
    (rw (items-written 31 (sign1_parts chain payload signature) 0 (sign1-pieces chain payload signature is) (omega arith) (omega arith))
    (rw (tree-shortest (Bytes es256) es256-short (omega arith))
    (rw (chain-is-map _ chain is.chain_short)
    (rw (payload-read _ payload is.payload_short)
    (rw (tree-shortest (Bytes signature) (omega arith) (omega arith))
    (rw p.map (rw (p.distinct, chain-distinct _ chain is.chain_short) (rw p.algorithm
    (rw (eq-eqb (length signature) 64 is.signature_length) (rw (chain-read _ chain is.chain_short) refl))))))))))

pub sign1-read : (chain payload : Option (List ℕ)) (signature : List ℕ) → IsSigned chain payload signature → IsReadAs sign1 (sign1_bytes chain payload signature) (record { protected = es256; chain = chain; payload = payload; signature = signature })
unfolding sign1_bytes
sign1-read chain payload signature is = record {
  one = cbor-piece (array_bytes (sign1_parts chain payload signature)) (piece-array 31 (sign1_parts chain payload signature) (sign1-pieces chain payload signature is) (omega arith));
  value_is = sign1-value chain payload signature is;
}

abbrev mac0_parts : List ℕ → List (List ℕ)
mac0_parts tag = bytes_bytes hmac256 ∷ chain_map None ∷ null_bytes ∷ bytes_bytes tag ∷ []

mac0-pieces : (tag : List ℕ) → length tag ≡ 32 → AllPieces 31 (mac0_parts tag)
mac0-pieces tag n = (bytes-piece hmac256 hmac256-short, (chain-piece None tt, (payload-piece None tt, (bytes-piece tag (omega arith), tt))))

mac0-value : (tag : List ℕ) → length tag ≡ 32 → mac0 (record { at = 0; bytes = array_bytes (mac0_parts tag) }) ≡ Ok (record { protected = hmac256; payload = None; tag = tag })
mac0-value tag n =
    let p = hmac256-protected in
    rw (array-untagged (mac0_parts tag) 0 (omega arith))
    (rw (items-written 31 (mac0_parts tag) 0 (mac0-pieces tag n) (omega arith) (omega arith))
    (rw (tree-shortest (Bytes hmac256) hmac256-short (omega arith))
    (rw (chain-is-map _ None tt)
    (rw (payload-read _ None tt)
    (rw (tree-shortest (Bytes tag) (omega arith) (omega arith))
    (rw p.map (rw (p.distinct, chain-distinct _ None tt) (rw p.algorithm
    (rw (eq-eqb (length tag) 32 n) refl)))))))))

pub mac0-read : (tag : List ℕ) → length tag ≡ 32 → IsReadAs mac0 (mac0_bytes tag) (record { protected = hmac256; payload = None; tag = tag })
unfolding mac0_bytes
mac0-read tag n = record {
  one = cbor-piece (array_bytes (mac0_parts tag)) (piece-array 31 (mac0_parts tag) (mac0-pieces tag n) (omega arith));
  value_is = mac0-value tag n;
}
