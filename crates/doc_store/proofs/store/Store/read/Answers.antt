use Rattle.std.proofs.Common.{sym, ◌∙◌, arith}
use Rattle.doc_store.proofs.FaultLaw.{with_fault, without_fault}
use Rattle.doc_store.proofs.store.Store.read.Goals as goal

pub invariant_of-result : goal.invariant_of-result
invariant_of-result c =
    record { spelled = without_fault c.args.bytes.now (λ i. omega (arith, c.type_inv.bytes i)) (sym c.in_ok-first_fault_of.ensures ∙ c.in-None.is) }

pub returns-in-Some-clause-read : goal.returns-in-Some-clause-read
returns-in-Some-clause-read c =
    let found = sym c.in_ok-first_fault_of.ensures ∙ c.in-Some.is in
    (with_fault c.args.bytes.now c.in-Some.fault (λ i. omega (arith, c.type_inv.bytes i)) found, found)
