-- A division with one more part at the end of its list.
use Rattle.std.proofs.Common.{◌≡◌, ℕ, List, [], ◌∷◌, ◌++◌, true, false, refl, ap, ◌∙◌}
use Rattle.ble_fragments.specs.Part.{Part, Piece, Start, Stop, Broken}
use Rattle.ble_fragments.specs.Whole.{Division, divided, ended_by, joined_by}

abbrev pub added : Division → Part → Division
added of (Piece true bytes) = record { groups = of.groups ++ (of.rest ++ bytes ∷ []) ∷ []; rest = [] }
added of (Piece false bytes) = record { groups = of.groups; rest = of.rest ++ bytes ∷ [] }
added of Start = of
added of Stop = of
added of (Broken fault) = of

ended-added : (bytes : List ℕ) (of : Division) (p : Part) → ended_by bytes (added of p) ≡ added (ended_by bytes of) p
ended-added bytes of (Piece true last) = refl
ended-added bytes of (Piece false more) = refl
ended-added bytes of Start = refl
ended-added bytes of Stop = refl
ended-added bytes of (Broken fault) = refl

joined-added : (bytes : List ℕ) (groups : List (List (List ℕ))) (rest : List (List ℕ)) (p : Part) → joined_by bytes (added (record { groups = groups; rest = rest }) p).groups (added (record { groups = groups; rest = rest }) p).rest ≡ added (joined_by bytes groups rest) p
joined-added bytes [] rest (Piece true last) = refl
joined-added bytes [] rest (Piece false more) = refl
joined-added bytes [] rest Start = refl
joined-added bytes [] rest Stop = refl
joined-added bytes [] rest (Broken fault) = refl
joined-added bytes (g ∷ gs) rest (Piece true last) = refl
joined-added bytes (g ∷ gs) rest (Piece false more) = refl
joined-added bytes (g ∷ gs) rest Start = refl
joined-added bytes (g ∷ gs) rest Stop = refl
joined-added bytes (g ∷ gs) rest (Broken fault) = refl

empty-added : (p : Part) → divided (p ∷ []) ≡ added (divided []) p
empty-added (Piece true bytes) = refl
empty-added (Piece false bytes) = refl
empty-added Start = refl
empty-added Stop = refl
empty-added (Broken fault) = refl

pub divided-added : (ps : List Part) (p : Part) → divided (ps ++ p ∷ []) ≡ added (divided ps) p
divided-added [] p = empty-added p
divided-added (Piece true bytes ∷ ps) p = ap (ended_by bytes) (divided-added ps p) ∙ ended-added bytes (divided ps) p
divided-added (Piece false bytes ∷ ps) p =
    ap (λ (d : Division). joined_by bytes d.groups d.rest) (divided-added ps p)
    ∙ joined-added bytes (divided ps).groups (divided ps).rest p
divided-added (Start ∷ ps) p = divided-added ps p
divided-added (Stop ∷ ps) p = divided-added ps p
divided-added (Broken fault ∷ ps) p = divided-added ps p
