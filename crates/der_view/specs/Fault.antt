-- The first fault in byte order of bytes that are not one element.
use Rattle.std.specs.Prelude.{◌≡◌, ℕ, ◌%◌, ◌^◌, ◌<◌, List, [], ◌∷◌, ◌++◌, length}
use Rattle.der_view.specs.declared.der_kind.DerKind.{DerKind}
use Rattle.der_view.specs.declared.der_kind.DerKind.TheVariants.{Short, HighTag, Length, Trailing}
use Rattle.der_view.specs.declared.der_fault.DerFault.{DerFault}
use Rattle.der_view.specs.Element.{IsTag, length_bytes, IsElement}

abbrev pub IsSome : List ℕ → Type 0
IsSome bytes = bytes ≡ [] → ⊥

-- They are an element but for its last bytes.
pub record EndsEarly (bytes : List ℕ) : Type 0 where
  pub tag : ℕ
  pub body : List ℕ
  pub missing : List ℕ
  pub some : IsSome missing
  pub is : IsElement (bytes ++ missing) tag body

-- The number of the tag follows its first byte (X.690, 8.1.2.4).
pub record HasHighTag (bytes : List ℕ) : Type 0 where
  pub tag : ℕ
  pub rest : List ℕ
  pub high : tag % 32 ≡ 31
  pub whole : bytes ≡ tag ∷ rest

-- What follows the tag is no length, nor the beginning of one, whatever follows.
pub record HasNoLength (bytes : List ℕ) : Type 0 where
  pub tag : ℕ
  pub rest : List ℕ
  pub is_tag : IsTag tag
  pub whole : bytes ≡ tag ∷ rest
  pub none : (n : ℕ) (xs ys : List ℕ) → n < 2 ^ 32 → rest ++ xs ≡ length_bytes n ++ ys → ⊥

-- They are an element of so many bytes, and more.
pub record GoesOn (bytes : List ℕ) (at : ℕ) : Type 0 where
  pub tag : ℕ
  pub body : List ℕ
  pub front : List ℕ
  pub rest : List ℕ
  pub is : IsElement front tag body
  pub some : IsSome rest
  pub whole : bytes ≡ front ++ rest
  pub place : at ≡ length front

abbrev pub HasFault : DerKind → ℕ → List ℕ → Type 0
HasFault Short at bytes = (at ≡ 0) × EndsEarly bytes
HasFault HighTag at bytes = (at ≡ 0) × HasHighTag bytes
HasFault Length at bytes = (at ≡ 0) × HasNoLength bytes
HasFault Trailing at bytes = GoesOn bytes at

abbrev pub IsFault : List ℕ → DerFault → Type 0
IsFault bytes fault = HasFault fault.kind fault.at bytes
