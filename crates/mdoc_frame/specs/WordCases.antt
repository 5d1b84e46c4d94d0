-- Worked cases of the words of a command.
use Rattle.std.specs.Prelude.{◌≡◌, ℕ, List, [], ◌∷◌, Bool, true, false, codes, map}
use Rattle.mdoc_frame.specs.Number.{is_number}
use Rattle.mdoc_frame.specs.Pairs.{Pair, is_in_form}
use Rattle.mdoc_frame.specs.declared.pair_kind.PairKind.TheVariants.{Number, Text}

-- numbers from 20 to 512
abbrev pub is_size : List ℕ → Bool
is_size word = is_number 20 512 word

abbrev pub SizesInRange : Type 0
SizesInRange =
    map is_size (codes "20" ∷ (codes "99" ∷ (codes "512" ∷ []))) ≡ true ∷ (true ∷ (true ∷ []))

abbrev pub OtherSizes : Type 0
OtherSizes =
    map is_size (codes "19" ∷ (codes "513" ∷ (codes "020" ∷ (codes "+20" ∷ (codes "2 0" ∷ ([] ∷ [])))))) ≡ false ∷ (false ∷ (false ∷ (false ∷ (false ∷ (false ∷ [])))))

-- a number that has to be there, and a text that needn't
abbrev pub two_pairs : List Pair
two_pairs =
    record { name = codes "--size"; kind = Number 20 512; needed = true }
    ∷ (record { name = codes "--type"; kind = Text; needed = false } ∷ [])

abbrev pub is_taken : List (List ℕ) → Bool
is_taken words = is_in_form two_pairs words

abbrev pub OptionalPairs : Type 0
OptionalPairs =
    map is_taken (
    (codes "--size" ∷ (codes "20" ∷ []))
    ∷ ((codes "--type" ∷ (codes "d" ∷ (codes "--size" ∷ (codes "20" ∷ []))))
    ∷ ((codes "--type" ∷ (codes "d" ∷ []))
    ∷ ((codes "--size" ∷ (codes "20" ∷ (codes "--type" ∷ [])))
    ∷ ((codes "--size" ∷ (codes "20" ∷ (codes "--type" ∷ (codes "-d" ∷ []))))
    ∷ ((codes "--size" ∷ (codes "20" ∷ (codes "--size" ∷ (codes "20" ∷ []))))
    ∷ ((codes "--size" ∷ (codes "20" ∷ (codes "--port" ∷ (codes "1" ∷ []))))
    ∷ [])))))))
    ≡ true ∷ (true ∷ (false ∷ (false ∷ (false ∷ (false ∷ (false ∷ []))))))
