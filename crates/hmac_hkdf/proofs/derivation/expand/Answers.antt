-- The loop writes T(1), T(2) and so on, and ends with as many as the length asks for.
use Rattle.std.proofs.Common.{◌≡◌, ◌*◌, ◌≤◌, [], length, arith, sym}
use Rattle.std.proofs.lemmas.List.{take_all}
use Rattle.std.specs.Int.{div_ceil}
use Rattle.hmac_hkdf.specs.Derivation.{expansion_blocks}
use Rattle.hmac_hkdf.proofs.Expansion.{all_written, blocks_more}
use Rattle.hmac_hkdf.proofs.derivation.expand.Goals as goal

pub loop-n-init : goal.loop-n-init
unfolding expansion_blocks
loop-n-init c = record {
  before = λ h. absurd (omega arith);
  written = sym (take_all (length c.args.out.now) [] (omega arith));
}

pub loop-n-preserved : goal.loop-n-preserved
loop-n-preserved c = record {
  before = λ h. c.next_block-block.ensures;
  written =
      blocks_more c.args.prk.now c.args.info.now c.loop-n.out c.put.new.out
      c.next_block-block.result c.loop-n.n
      (omega arith) c.loop-n.invariant.written c.next_block-block.ensures c.put.ensures
      (omega arith);
}

pub returns : goal.returns
returns c =
    let kept = c.loop-n.auto.out in
    let past : length c.loop-n.out ≤ c.loop-n.n * 32 = omega arith in
    let all : c.loop-n.n ≡ div_ceil (length c.loop-n.out) 32 = omega arith in
    rw (← kept)
    (all_written c.args.prk.now c.args.info.now c.loop-n.out c.loop-n.n past all
    c.loop-n.invariant.written)
