-- The keys of a session (ISO/IEC 18013-5, 9.1.1.5): derived by HKDF over SHA-256 (RFC 5869) of a secret
-- that both ends agree on, with the digest of SessionTranscriptBytes as the salt and a name for their use.
use Rattle.std.specs.Prelude.{ℕ, List, codes}
use Rattle.sha2.specs.Sha256.{sha256}
use Rattle.hmac_hkdf.specs.Derivation.{hkdf}
use Rattle.cose_msgs.specs.Transcript.{transcript_bytes}

unfoldable pub salt : List ℕ → List ℕ
salt transcript = sha256 (transcript_bytes transcript)

-- 32 bytes for a use
unfoldable pub derived : List ℕ → List ℕ → List ℕ → List ℕ
derived name secret salt = hkdf secret salt name 32

-- SKDevice seals what the wallet sends, SKReader what the reader sends.
pub record Keys : Type 0 where
  pub device : List ℕ
  pub reader : List ℕ

abbrev pub keys_by_salt : List ℕ → List ℕ → Keys
keys_by_salt secret salt = record { device = derived (codes "SKDevice") secret salt; reader = derived (codes "SKReader") secret salt }

abbrev pub keys : List ℕ → List ℕ → Keys
keys secret transcript = keys_by_salt secret (salt transcript)
