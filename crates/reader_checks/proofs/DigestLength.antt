-- Each digest that an index of the digests of an object finds has the length of one of SHA-256.
use Rattle.std.proofs.Common.{◌≡◌, List, true, sym, ◌∙◌}
use Rattle.mso_digests.proofs.DigestLength.{digest_length}
use Rattle.mso_digests.specs.Digests.{Digest, have_length}
use Rattle.mso_digests.specs.Indexed.{IsIndexOf}
use Rattle.mso_digests.specs.declared.index.DigestIndex.{DigestIndex}
use Rattle.reader_checks.specs.FirstCheck.{HaveLength}

pub indexed_length : (index : DigestIndex) (digests : List Digest) → IsIndexOf index digests → have_length digests ≡ true → HaveLength index
indexed_length index digests found all = λ ns number digest is. digest_length ns number digests digest all (sym (found ns number) ∙ is)
