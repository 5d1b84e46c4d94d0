-- What holds of digests that have a spelling.
use Rattle.std.specs.Prelude.{◌≡◌, ◌<◌, ◌^◌, List, length, IsUtf8}
use Rattle.std.specs.List.{AllByRecursion}
use Rattle.mso_digests.specs.Written.{Entry}

-- a digest identifier of 8 bytes, a digest of 32, and a namespace that is a text of less than 2 ^ 32 bytes
pub record HasSpelling (e : Entry) : Type 0 where
  pub number : e.1 < 2 ^ 64
  pub digest : length e.2 ≡ 32
  pub short : length e.0 < 2 ^ 32
  pub text : IsUtf8 e.0

abbrev pub AllHaveSpelling : List Entry → Type 0
AllHaveSpelling es = AllByRecursion HasSpelling es
