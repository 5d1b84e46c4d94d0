use Rattle.std.proofs.Common.{◌≡◌, suc, ◌-◌, ◌∙◌, arith, sym}
use Rattle.aes_gcm.specs.Galois.{bits}
use Rattle.aes_gcm.proofs.BitsLemmas.{length-bits, product_end, product_more, product_start}
use Rattle.aes_gcm.proofs.galois.product.Goals as goal

pub loop-left-init : goal.loop-left-init
loop-left-init c = record {
  in_range = omega arith;
  same = product_start (bits 128 c.args.x) (bits 128 c.args.y) (length-bits 128 c.args.y);
}

pub loop-left-preserved : goal.loop-left-preserved
loop-left-preserved c = record {
  in_range = omega arith;
  same =
      let left = c.loop-left.left in
      let one_more : suc (left - 1) ≡ left = omega arith in
      product_more c.args.x (left - 1) (bits 128 c.loop-left.sum)
      (bits 128 c.plus_if_set-sum.result)
      (bits 128 c.loop-left.multiple) (bits 128 c.times_x-multiple.result) c.plus_if_set-sum.ensures
      c.times_x-multiple.ensures
      ∙ rw one_more c.loop-left.invariant.same;
}

pub returns : goal.returns
returns c =
    let none : c.loop-left.left ≡ 0 = omega arith in
    sym (product_end c.args.x (bits 128 c.loop-left.sum) (bits 128 c.loop-left.multiple)
    (length-bits 128 c.loop-left.sum))
    ∙ rw none at c.loop-left.invariant.same
