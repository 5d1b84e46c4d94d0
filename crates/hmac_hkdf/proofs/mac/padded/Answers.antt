use Rattle.std.proofs.Common.{ℕ, ◌<◌, length, arith, bit_xor, get_or}
use Rattle.std.proofs.lemmas.List.{get_or_default}
use Rattle.std.proofs.lemmas.List.Edits.{map_over_more}
use Rattle.hmac_hkdf.proofs.mac.padded.Goals as goal

pub loop-byte-preserved : goal.loop-byte-preserved
loop-byte-preserved c =
    let i = c.loop-byte.byte-index in
    let items = c.loop-byte.byte-items in
    let block = c.args.block.now in
    let mask : ℕ → ℕ = λ byte. bit_xor byte c.args.pad in
    let within : i < length block = omega arith in
    let inside : i < length items = omega arith in
    map_over_more mask block items i (get_or items i 0) within
    c.loop-byte.invariant (get_or_default items i 0 (get_or items i 0) inside)
