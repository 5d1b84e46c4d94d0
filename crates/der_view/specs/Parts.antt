-- Elements by the bytes that spell them and by their place in the bytes first read, and those that stand in
-- the body of another.
use Rattle.std.specs.Prelude.{◌≡◌, ℕ, zero, suc, ◌+◌, ◌-◌, ◌==◌, if◌then◌else◌, List, [], ◌∷◌, ◌++◌, length, take, drop, Result, Ok, Err}
use Rattle.der_view.specs.declared.der_kind.DerKind.{DerKind}
use Rattle.der_view.specs.declared.der_fault.DerFault.{DerFault}
use Rattle.der_view.specs.Element.{IsElement}
use Rattle.der_view.specs.Fault.{IsSome, HasFault}
use Rattle.der_view.specs.Reading.{first_at, reads, body_of}

pub record Part : Type 0 where
  pub at : ℕ
  pub bytes : List ℕ

-- what follows so many bytes
abbrev pub behind : ℕ → Part → Part
behind n p = record { at = p.at + n; bytes = drop n p.bytes }

-- The second part is an element, and stands at the front of the first.
pub record IsFirst (p q : Part) : Type 0 where
  pub tag : ℕ
  pub body : List ℕ
  pub is : IsElement q.bytes tag body
  pub place : q.at ≡ p.at
  pub whole : p.bytes ≡ q.bytes ++ drop (length q.bytes) p.bytes

-- The parts follow one another, up to the end or to the first that is no element, with its fault.
abbrev pub AreParts : Part → List (Result Part DerFault) → Type 0
AreParts p [] = p.bytes ≡ []
AreParts p ((Ok q) ∷ qs) = IsFirst p q × AreParts (behind (length q.bytes) p) qs
AreParts p ((Err fault) ∷ []) = IsSome p.bytes × (fault.at ≡ p.at) × HasFault fault.kind 0 p.bytes
AreParts p ((Err fault) ∷ (q ∷ qs)) = ⊥

-- all of the bytes as one part, or their first fault
abbrev pub part_of : List ℕ → Result (ℕ × List ℕ) DerFault → Result Part DerFault
part_of bytes (Ok x) = Ok (record { at = 0; bytes = bytes })
part_of bytes (Err e) = Err e

abbrev pub der : List ℕ → Result Part DerFault
der bytes = part_of bytes (reads bytes)

-- the element at the front, and the bytes after it
abbrev pub parted : Part → Result (ℕ × List ℕ × List ℕ) DerKind → Result (Part × List ℕ) DerFault
parted p (Ok x) = Ok (record { at = p.at; bytes = take (length p.bytes - length x.2) p.bytes }, x.2)
parted p (Err kind) = Err (record { kind = kind; at = p.at })

abbrev pub first_part : Part → Result (Part × List ℕ) DerFault
first_part p = parted p (first_at p.bytes)

-- the first, and the others by `rest`
abbrev pub with_others : (Part → List (Result Part DerFault)) → Result (Part × List ℕ) DerFault → List (Result Part DerFault)
with_others rest (Ok x) = Ok x.0 ∷ rest (record { at = x.0.at + length x.0.bytes; bytes = x.1 })
with_others rest (Err fault) = Err fault ∷ []

-- so many of them at most
unfoldable pub parts_up_to : ℕ → Part → List (Result Part DerFault)
parts_up_to zero p = []
parts_up_to (suc n) p = if length p.bytes == 0 then [] else with_others (parts_up_to n) (first_part p)

-- all: there are no more of them than bytes
unfoldable pub parts_at : Part → List (Result Part DerFault)
parts_at p = parts_up_to (length p.bytes) p

-- the body at its place, and the elements in it
abbrev pub body_part : Part → Part
body_part p = record { at = p.at + (length p.bytes - length (body_of p.bytes)); bytes = body_of p.bytes }

abbrev pub parts_of : Part → List (Result Part DerFault)
parts_of p = parts_at (body_part p)
