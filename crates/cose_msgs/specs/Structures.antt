-- What is signed and what is authenticated (RFC 9052, sections 4.4 and 6.3): a context, the protected bytes, the
-- external data, which is empty, and the payload.
use Rattle.std.specs.Prelude.{ℕ, List, [], ◌∷◌, codes}
use Rattle.cbor_view.specs.Shortest.{array_bytes, bytes_bytes, text_bytes}

unfoldable pub structure : List ℕ → List ℕ → List ℕ → List ℕ
structure context protected payload = array_bytes (text_bytes context ∷ bytes_bytes protected ∷ bytes_bytes [] ∷ bytes_bytes payload ∷ [])

abbrev pub signed_structure : List ℕ → List ℕ → List ℕ
signed_structure protected payload = structure (codes "Signature1") protected payload

abbrev pub mac_structure : List ℕ → List ℕ → List ℕ
mac_structure protected payload = structure (codes "MAC0") protected payload
