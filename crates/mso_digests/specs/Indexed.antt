-- What contracts see of the digests by their namespaces and digest identifiers.
use Rattle.std.specs.Prelude.{◌≡◌, ℕ, List, Option, Some, None, option_map}
use Rattle.std.specs.Borrow.{Bor}
use Rattle.std.specs.BTreeMap.{BTreeMap, get, get_by}
use Rattle.std.specs.Cmp.Lexicographic.{slice_cmp}
use Rattle.std.specs.Ordering.{nat_cmp}
use Rattle.mdoc_outside.specs.Borrowed.{content}
use Rattle.mso_digests.specs.declared.index.DigestIndex.{DigestIndex}
use Rattle.mso_digests.specs.Digests.{Digest, digest_at}

-- the digest under a digest identifier
abbrev pub numbered : BTreeMap ℕ (Bor (List ℕ)) → ℕ → Option (List ℕ)
numbered numbers number = option_map content (get nat_cmp numbers number)

abbrev pub numbered_in : Option (BTreeMap ℕ (Bor (List ℕ))) → ℕ → Option (List ℕ)
numbered_in None number = None
numbered_in (Some numbers) number = numbered numbers number

-- the digest under a namespace and a digest identifier
abbrev pub indexed : DigestIndex → List ℕ → ℕ → Option (List ℕ)
indexed index namespace number = numbered_in (get_by (λ name. slice_cmp nat_cmp namespace name.now) index.namespaces) number

-- an index finds exactly what is found in a list of digests
abbrev pub IsIndexOf : DigestIndex → List Digest → Type 0
IsIndexOf index digests = (namespace : List ℕ) (number : ℕ) → indexed index namespace number ≡ digest_at namespace number digests
