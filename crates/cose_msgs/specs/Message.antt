-- The messages COSE_Sign1 and COSE_Mac0 (RFC 9052, sections 4.2 and 6.2): what one says, or the first check that
-- fails.
use Rattle.std.specs.Prelude.{ℕ, ◌&&◌, if◌then◌else◌, pos, negsuc, List, [], ◌∷◌, Option, Some, None, option_map, unwrap_or, Result, Ok, Err}
use Rattle.mdoc_outside.specs.ResultSteps.{◌>>=◌, or_fault}
use Rattle.cbor_view.specs.Parts.{Part, tree_in, tagged, items_in, bytes_in}
use Rattle.cbor_view.specs.Tree.{is_null}
use Rattle.cbor_maps.specs.Reading.{map_in}
use Rattle.cose_msgs.specs.declared.cose_fault.CoseFault.{CoseFault}
use Rattle.cose_msgs.specs.declared.cose_fault.CoseFault.TheVariants.{Shape, Header, Algorithm, TagLength, SignatureLength}
use Rattle.cose_msgs.specs.Headers.{has_distinct_labels, protected_map, has_algorithm, chain_in}
use Rattle.cose_msgs.specs.Steps.{check, of_length}

-- The array: the protected bytes, the unprotected map, the payload or none, and the signature or tag.
pub record Message : Type 0 where
  pub protected : List ℕ
  pub unprotected : Part
  pub payload : Option (List ℕ)
  pub last : List ℕ

-- a string of bytes, or null for none
abbrev pub bytes_or_null : Part → Option (Option (List ℕ))
bytes_or_null item = if is_null (tree_in item) then Some None else option_map (λ (b : List ℕ). Some b) (bytes_in item)

abbrev pub of_four : Part → Part → Part → Part → Result Message CoseFault
of_four first second third fourth = do
  protected ← or_fault Shape (bytes_in first)
  unprotected ← or_fault Shape (map_in second)
  payload ← or_fault Shape (bytes_or_null third)
  last ← or_fault Shape (bytes_in fourth)
  Ok (record { protected = protected; unprotected = unprotected; payload = payload; last = last })

abbrev pub of_items : List Part → Result Message CoseFault
of_items (first ∷ second ∷ third ∷ fourth ∷ []) = of_four first second third fourth
of_items _ = Err Shape

abbrev pub of_array : Option (List Part) → Result Message CoseFault
of_array None = Err Shape
of_array (Some items) = of_items items

-- the tag of the message's kind may be there, and is ignored
abbrev pub untagged : ℕ → Part → Part
untagged tag item = unwrap_or (tagged tag item) item

abbrev pub message_of : ℕ → Part → Result Message CoseFault
message_of tag item = of_array (items_in (untagged tag item))

-- the protected map, where the headers are in order
abbrev pub headers_of : Message → Result Part CoseFault
headers_of message = do
  header ← protected_map message.protected
  distinct ← check Header (has_distinct_labels header && has_distinct_labels message.unprotected)
  Ok header

-- What a signature says, and what a code says.
pub record Signed : Type 0 where
  pub protected : List ℕ
  pub chain : Option (List ℕ)
  pub payload : Option (List ℕ)
  pub signature : List ℕ

pub record Authenticated : Type 0 where
  pub protected : List ℕ
  pub payload : Option (List ℕ)
  pub tag : List ℕ

-- COSE_Sign1 is tag 18, ES256 is -7 (RFC 9053, section 2.1), its signature r and s of 32 bytes each
abbrev pub sign1 : Part → Result Signed CoseFault
sign1 item = do
  message ← message_of 18 item
  header ← headers_of message
  algorithm ← check Algorithm (has_algorithm (negsuc 6) header)
  signature ← or_fault SignatureLength (of_length 64 (Some message.last))
  Ok (record { protected = message.protected; chain = chain_in message.unprotected; payload = message.payload; signature = signature })

-- COSE_Mac0 is tag 17, HMAC 256/256 is 5 (RFC 9053, section 3.1), its tag of 32 bytes
abbrev pub mac0 : Part → Result Authenticated CoseFault
mac0 item = do
  message ← message_of 17 item
  header ← headers_of message
  algorithm ← check Algorithm (has_algorithm (pos 5) header)
  tag ← or_fault TagLength (of_length 32 (Some message.last))
  Ok (record { protected = message.protected; payload = message.payload; tag = tag })
