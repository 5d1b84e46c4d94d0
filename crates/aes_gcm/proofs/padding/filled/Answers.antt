use Rattle.std.proofs.Common.{List, ℕ, ◌++◌, ap, length}
use Rattle.std.proofs.lemmas.List.{drop-replicate}
use Rattle.aes_gcm.proofs.padding.filled.Goals as goal

pub returns : goal.returns
returns c =
    rw c.copy_from_slice.ensures.after
    (ap (λ (zeros : List ℕ). c.args.bytes.now ++ zeros)
    (drop-replicate (length c.args.bytes.now) 16 0))
