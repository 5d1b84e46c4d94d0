use Rattle.std.proofs.Common.{arith, sym}
use Rattle.std.proofs.lemmas.Grind.{common_steps}
use Rattle.cbor_view.specs.Pairs.{pairs_left}
use Rattle.doc_store.specs.StoredCopy.{copy_of, copy_part}
use Rattle.doc_store.proofs.HeldItems.{held_all_step}
use Rattle.doc_store.proofs.PartsLie.{held-part}
use Rattle.doc_store.proofs.stored_copy.StoredCopy.item.Goals as goal

pub returns-in-Some-find_in_space-clause-exact : goal.returns-in-Some-find_in_space-clause-exact
returns-in-Some-find_in_space-clause-exact c = grind (arith, common_steps, held_all_step)

pub returns-in-Some-find_in_space-clause-stands_in : goal.returns-in-Some-find_in_space-clause-stands_in
returns-in-Some-find_in_space-clause-stands_in c =
    held-part (copy_part c.args.self.now) (copy_of c.args.self.now) (pairs_left c.spaces-space-items.result) c.args.ns.now c.args.name.now _
    c.spaces-space-items.ensures.lie c.spaces-space-items.ensures.read c.spaces-space-items.ensures.all (sym (returns-in-Some-find_in_space-clause-exact c))
