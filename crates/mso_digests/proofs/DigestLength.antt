-- Each digest of an object has the length of one of SHA-256.
use Rattle.std.proofs.Common.{◌≡◌, ℕ, List, [], ◌∷◌, true, length, Some, arith}
use Rattle.std.proofs.lemmas.Grind.{common_steps}
use Rattle.mso_digests.specs.Digests.{Digest, digest_at, have_length}

pub digest_length : (ns : List ℕ) (number : ℕ) (digests : List Digest) (digest : List ℕ)
    → have_length digests ≡ true → digest_at ns number digests ≡ Some digest → length digest ≡ 32
digest_length ns number [] digest all is = cc
digest_length ns number (d ∷ ds) digest all is = grind (arith, common_steps, digest_length ns number ds digest)
