-- Lemmas on the blocks of an expansion, and on a block written where there may be less room.
use Rattle.std.proofs.Common.{◌≡◌, ℕ, zero, suc, ◌+◌, ◌-◌, ◌*◌, ◌<◌, ◌≤◌, min, List, [], ◌∷◌, ◌++◌, length, take, drop, arith, refl, rules, add-one, length-append, sym, ◌∙◌}
use Rattle.std.specs.Int.{div_ceil}
use Rattle.std.proofs.lemmas.List.{places, same_lists, take_all}
use Rattle.sha2.proofs.Facts256.{length-sha256}
use Rattle.hmac_hkdf.specs.Mac.{hmac}
use Rattle.hmac_hkdf.specs.Derivation.{expansion_block, expansion_blocks, hkdf_expand}
use borrow.Rule.Slice.PartMut.{put_mid}

-- what a list holds after a write of as much of a block as there is room for
pub put_is : (out block : List ℕ) (at size : ℕ) → at < length out → length block ≡ 32
    → size ≡ min 32 (length out - at)
    → put_mid at (at + size - at) out (take size block)
    ≡ take (length out) (take at out ++ block ++ drop (at + 32) out)
put_is out block at size inside whole fits =
    same_lists _ _ (search (rules, places)) (λ k d h. grind (arith, places))

pub length-hmac : (key message : List ℕ) → length (hmac key message) ≡ 32
unfolding hmac
length-hmac key message = length-sha256 _

pub length-expansion_blocks : (prk info : List ℕ) (n : ℕ)
    → length (expansion_blocks prk info n) ≡ n * 32
unfolding expansion_blocks expansion_block
length-expansion_blocks prk info zero = refl
length-expansion_blocks prk info (suc n) =
    rw length-append
    (omega (
      arith,
      length-expansion_blocks prk info n,
      length-hmac prk
          (expansion_block prk info n ++ info ++ suc n ∷ []),
    ))

-- one block more after those that are written
grown : (out done block : List ℕ) (at : ℕ) → length done ≡ at → at < length out → length block ≡ 32
    → take at out ≡ take (length out) done
    → take (at + 32) (take (length out) (take at out ++ block ++ drop (at + 32) out))
    ≡ take (length out) (done ++ block)
grown out done block at whole inside full same =
    let e : take at out ≡ done = same ∙ take_all (length out) done (omega arith) in
    rw e (same_lists _ _ (search (rules, places)) (λ k d h. grind (arith, places)))

-- the step of a loop that writes block after block
pub blocks_more : (prk info out next block : List ℕ) (n : ℕ) → n * 32 < length out
    → take (n * 32) out ≡ take (length out) (expansion_blocks prk info n)
    → block ≡ expansion_block prk info (n + 1)
    → next ≡ take (length out) (take (n * 32) out ++ block ++ drop (n * 32 + 32) out)
    → length next ≡ length out
    → take ((n + 1) * 32) next ≡ take (length next) (expansion_blocks prk info (n + 1))
unfolding expansion_blocks expansion_block
blocks_more prk info out next block n inside same is put kept =
    let more : (n + 1) * 32 ≡ n * 32 + 32 = omega arith in
    rw (kept, put, is, more, add-one)
    (grown out (expansion_blocks prk info n) (expansion_block prk info (suc n)) (n * 32)
    (length-expansion_blocks prk info n) inside (length-hmac _ _) same)

-- the end of that loop
pub all_written : (prk info out : List ℕ) (n : ℕ) → length out ≤ n * 32
    → n ≡ div_ceil (length out) 32
    → take (n * 32) out ≡ take (length out) (expansion_blocks prk info n)
    → out ≡ hkdf_expand prk info (length out)
unfolding hkdf_expand
all_written prk info out n past is same =
    rw (← is) (sym (take_all (n * 32) out past) ∙ same)
