-- So many parts in a row.
use Rattle.std.proofs.Common.{◌≡◌, ℕ, ◌+◌, ◌≤◌, refl, ap, arith, List, [], ◌∷◌, length, Some}
use Rattle.der_view.specs.Parts.{Part}
use Rattle.cert_view.specs.Shapes.{one, two, three}
use Rattle.cert_view.specs.Tbs.{one_or_two}
use Rattle.cert_view.proofs.WrittenParts.{place, placed}

bytes-of-same : (at : ℕ) (bytes : List ℕ) (q : Part) → Some (place at bytes) ≡ Some q → bytes ≡ q.bytes
bytes-of-same at bytes q e = let same : place at bytes ≡ q = cc in let f : Part → List ℕ = λ p. p.bytes in ap f same

pub one-is : (at : ℕ) (parts : List (List ℕ)) (q : Part) → one (placed at parts) ≡ Some q → parts ≡ q.bytes ∷ []
one-is at [] q e = absurd (cc)
one-is at (b ∷ []) q e = ap (λ (x : List ℕ). x ∷ []) (bytes-of-same at b q e)
one-is at (b ∷ (c ∷ parts)) q e = absurd (cc)

pub two-is : (at : ℕ) (parts : List (List ℕ)) (x : Part × Part) → two (placed at parts) ≡ Some x → parts ≡ x.0.bytes ∷ x.1.bytes ∷ []
two-is at [] x e = absurd (cc)
two-is at (b ∷ []) x e = absurd (cc)
two-is at (b ∷ (c ∷ [])) x e =
    let same : (place at b, place (at + length b) c) ≡ x = cc in
    let f : Part × Part → List (List ℕ) = λ y. y.0.bytes ∷ y.1.bytes ∷ [] in
    ap f same
two-is at (b ∷ (c ∷ (d ∷ parts))) x e = absurd (cc)

pub three-is : (at : ℕ) (parts : List (List ℕ)) (x : Part × Part × Part) → three (placed at parts) ≡ Some x → parts ≡ x.0.bytes ∷ x.1.bytes ∷ x.2.bytes ∷ []
three-is at [] x e = absurd (cc)
three-is at (b ∷ []) x e = absurd (cc)
three-is at (b ∷ (c ∷ [])) x e = absurd (cc)
three-is at (b ∷ (c ∷ (d ∷ []))) x e =
    let same : (place at b, place (at + length b) c, place (at + length b + length c) d) ≡ x = cc in
    let f : Part × Part × Part → List (List ℕ) = λ y. y.0.bytes ∷ y.1.bytes ∷ y.2.bytes ∷ [] in
    ap f same
three-is at (b ∷ (c ∷ (d ∷ (f ∷ parts)))) x e = absurd (cc)

pub record OneOrTwo (parts : List (List ℕ)) (q : Part) : Type 0 where
  pub others : List (List ℕ)
  pub optional : length others ≤ 1
  pub are : parts ≡ q.bytes ∷ others

pub one_or_two-is : (at : ℕ) (parts : List (List ℕ)) (q : Part) → one_or_two (placed at parts) ≡ Some q → OneOrTwo parts q
one_or_two-is at [] q e = absurd (cc)
one_or_two-is at (b ∷ []) q e = record { others = []; optional = omega arith; are = ap (λ (x : List ℕ). x ∷ []) (bytes-of-same at b q e) }
one_or_two-is at (b ∷ (c ∷ [])) q e = record { others = c ∷ []; optional = omega arith; are = ap (λ (x : List ℕ). x ∷ c ∷ []) (bytes-of-same at b q e) }
one_or_two-is at (b ∷ (c ∷ (d ∷ parts))) q e = absurd (cc)

pub is-one_or_two : (at : ℕ) (part : List ℕ) (others : List (List ℕ)) → length others ≤ 1 → one_or_two (placed at (part ∷ others)) ≡ Some (place at part)
is-one_or_two at part [] few = refl
is-one_or_two at part (c ∷ []) few = refl
is-one_or_two at part (c ∷ (d ∷ others)) few = absurd (omega arith)
