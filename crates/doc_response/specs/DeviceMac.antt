-- The key and the code of the device's authentication by a MAC (ISO/IEC 18013-5, 9.1.3.5).
use Rattle.std.specs.Prelude.{ℕ, List, codes}
use Rattle.sha2.specs.Sha256.{sha256}
use Rattle.hmac_hkdf.specs.Derivation.{hkdf}
use Rattle.hmac_hkdf.specs.Mac.{hmac}
use Rattle.cose_msgs.specs.Structures.{mac_structure}
use Rattle.cose_msgs.specs.Transcript.{transcript_bytes}
use Rattle.cose_msgs.specs.Written.{hmac256}

-- EMacKey: derived from the secret of the device's key and the reader's ephemeral key, with the digest of
-- SessionTranscriptBytes as the salt
unfoldable pub mac_key : List ℕ → List ℕ → List ℕ
mac_key secret transcript = hkdf secret (sha256 (transcript_bytes transcript)) (codes "EMacKey") 32

-- the code of a detached payload: that of its MAC_structure (RFC 9052, section 6.3)
unfoldable pub device_mac : List ℕ → List ℕ → List ℕ
device_mac key payload = hmac key (mac_structure hmac256 payload)
