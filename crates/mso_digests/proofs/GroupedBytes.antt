-- Pairs that are appended one after the other are the body of a map.
use Rattle.std.proofs.Common.{◌≡◌, ℕ, suc, List, [], ◌∷◌, ◌++◌, length, refl, sym, ap, ◌∙◌}
use Rattle.std.specs.Prelude.{flat_map, map}
use Rattle.std.proofs.lemmas.List.{append_assoc, append-nil}
use Rattle.cbor_view.specs.Shortest.{map_bytes, shortest_head}
use Rattle.cbor_maps.proofs.WrittenMaps.{both}
use Rattle.mso_digests.specs.WrittenSteps.{put_all}

pub put_joined : (bytes : List ℕ) (pairs : List (List ℕ × List ℕ)) → put_all bytes pairs ≡ bytes ++ flat_map both pairs
put_joined bytes [] = sym (append-nil bytes)
put_joined bytes (pair ∷ pairs) =
    put_joined ((bytes ++ pair.0) ++ pair.1) pairs
    ∙ ap (λ (x : List ℕ). x ++ flat_map both pairs) (append_assoc bytes pair.0 pair.1)
    ∙ append_assoc bytes (pair.0 ++ pair.1) (flat_map both pairs)

pub mapped_length : {A B : Type 0} (f : A → B) (xs : List A) → length (map f xs) ≡ length xs
mapped_length f [] = refl
mapped_length f (x ∷ xs) = ap suc (mapped_length f xs)

-- a map whose head and pairs were appended
pub map_joined : {A : Type 0} (bytes : List ℕ) (pair : A → List ℕ × List ℕ) (xs : List A) → put_all (bytes ++ shortest_head 5 (length xs)) (map pair xs) ≡ bytes ++ map_bytes (map pair xs)
map_joined bytes pair xs =
    put_joined (bytes ++ shortest_head 5 (length xs)) (map pair xs)
    ∙ append_assoc bytes (shortest_head 5 (length xs)) (flat_map both (map pair xs))
    ∙ ap (λ n. bytes ++ (shortest_head 5 n ++ flat_map both (map pair xs))) (sym (mapped_length pair xs))

-- a map whose pairs were appended apart
pub map_apart : {A : Type 0} (pair : A → List ℕ × List ℕ) (xs : List A) → shortest_head 5 (length xs) ++ put_all [] (map pair xs) ≡ map_bytes (map pair xs)
map_apart pair xs =
    ap (λ (x : List ℕ). shortest_head 5 (length xs) ++ x) (put_joined [] (map pair xs))
    ∙ ap (λ n. shortest_head 5 n ++ flat_map both (map pair xs)) (sym (mapped_length pair xs))
