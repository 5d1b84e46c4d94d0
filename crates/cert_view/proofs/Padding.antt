-- Digits that are written at the end of 32 bytes of 0.
use Rattle.std.proofs.Common.{◌≡◌, ℕ, ◌-◌, ◌≤◌, refl, arith, true, List, [], length, take, drop, Some, length-drop, append-nil}
use Rattle.std.specs.Prelude.{nat_le, replicate}
use Rattle.std.proofs.lemmas.Bool.Decides.{nat_tests}
use Rattle.std.proofs.lemmas.List.{take-replicate, drop_all}
use Rattle.cert_view.specs.Integers.{in_32}
use borrow.Rule.Slice.PartMut.{put_mid}

pub padded-digits : (bytes : List ℕ) → length bytes ≤ 32 → Some (put_mid (32 - length bytes) (32 - (32 - length bytes)) (replicate {A = ℕ} 32 0) bytes) ≡ in_32 bytes
padded-digits bytes fits =
    let few : nat_le (length bytes) 32 ≡ true = grind (arith, nat_tests) in
    let zeros : take {A = ℕ} (32 - length bytes) (replicate {A = ℕ} 32 0) ≡ replicate (32 - length bytes) 0 = take-replicate (32 - length bytes) 32 0 (omega arith) in
    let none : drop {A = ℕ} (32 - (32 - length bytes)) (drop (32 - length bytes) (replicate {A = ℕ} 32 0)) ≡ [] = drop_all (32 - (32 - length bytes)) (drop (32 - length bytes) (replicate {A = ℕ} 32 0)) (omega (arith, length-drop (32 - length bytes) (replicate {A = ℕ} 32 0))) in
    rw (few, zeros, none, append-nil) refl
