-- An authentication that is written is an item of two levels.
use Rattle.std.proofs.Common.{◌≡◌, ◌<◌, ◌≤◌, ◌^◌, ℕ, pos, List, [], ◌∷◌, length, None, Some, sym, subst, arith, inl}
use Rattle.cbor_view.specs.Shortest.{bytes_bytes, null_bytes}
use Rattle.cbor_view.specs.Tree.{Bytes, Simple}
use Rattle.cbor_view.proofs.WrittenParts.{IsPiece, piece-array, piece-shortest}
use Rattle.cbor_maps.specs.Labels.{label_bytes}
use Rattle.cbor_maps.specs.Writing.{map_head}
use Rattle.cbor_maps.proofs.LabelledMaps.{piece-label, piece-of-fields}
use Rattle.cose_msgs.specs.Written.{chain_map, es256, sign1_bytes}
use Rattle.doc_request.specs.Written.{IsAuthentication}

es256-short : length es256 < 2 ^ 32
unfolding es256 map_head label_bytes
es256-short = omega arith

string-piece : (bytes : List ℕ) → length bytes < 2 ^ 32 → IsPiece 1 (bytes_bytes bytes)
string-piece bytes short = piece-shortest 1 (Bytes bytes) short (omega arith)

chain-piece : (chain : List ℕ) → length chain < 2 ^ 32 → IsPiece 1 (chain_map (Some chain))
unfolding chain_map
chain-piece chain short = piece-of-fields 0 ((pos 33, Some (bytes_bytes chain)) ∷ []) (piece-label 0 (pos 33) (omega arith), piece-shortest 0 (Bytes chain) short (omega arith), tt) (omega arith)

message-piece : (chain signature : List ℕ) → length chain ≤ 8192 → length signature ≡ 64 → IsPiece 2 (sign1_bytes (Some chain) None signature)
unfolding sign1_bytes
message-piece chain signature short long =
    piece-array 1 (bytes_bytes es256 ∷ chain_map (Some chain) ∷ null_bytes ∷ bytes_bytes signature ∷ [])
    (string-piece es256 es256-short, (chain-piece chain (omega arith), (piece-shortest 1 (Simple 22) (inl (omega arith)) (omega arith), (string-piece signature (omega arith), tt))))
    (omega arith)

pub auth-piece : (auth : List ℕ) → IsAuthentication auth → IsPiece 2 auth
auth-piece auth is = subst (IsPiece 2) (sym is.written) (message-piece is.chain is.signature is.short is.long)
