use Rattle.std.proofs.Common.{arith, sym}
use Rattle.std.proofs.lemmas.Grind.{common_steps}
use Rattle.doc_store.specs.StoreView.{documents_in}
use Rattle.doc_store.proofs.StoreParts.{found_none, found_some}
use Rattle.doc_store.proofs.store.Store.find.Goals as goal

pub returns-then-eq-clause-found : goal.returns-then-eq-clause-found
returns-then-eq-clause-found c = grind (arith, common_steps)

pub returns-then-eq-clause-place : goal.returns-then-eq-clause-place
returns-then-eq-clause-place c = found_some (documents_in c.args.self.now) c.args.doc_type.now _ (sym (returns-then-eq-clause-found c))

pub returns-clause-found : goal.returns-clause-found
returns-clause-found c = grind (arith, common_steps)

pub returns-clause-place : goal.returns-clause-place
returns-clause-place c = found_none (documents_in c.args.self.now) c.args.doc_type.now (sym (returns-clause-found c))
