use Rattle.std.proofs.Common.{◌≡◌, ◌≤◌}
use Rattle.aes_gcm.specs.Bytes.{xored}
use Rattle.aes_gcm.specs.Galois.{bits, product}
use Rattle.aes_gcm.proofs.galois.product.Given as goal

abbrev pub invariant-loop-left : goal.invariant-loop-left
invariant-loop-left l = record {
  in_range : l.left ≤ 128;
  same :
      xored (bits 128 l.sum) (product (bits l.left l.x) (bits 128 l.multiple))
      ≡ product (bits 128 l.x) (bits 128 l.y);
}

abbrev pub decreases-loop-left : goal.decreases-loop-left
decreases-loop-left l = l.left
