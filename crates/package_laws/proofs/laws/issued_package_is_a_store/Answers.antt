use Rattle.package_laws.proofs.Packages.{issued-store, planned-store}
use Rattle.package_laws.proofs.laws.issued_package_is_a_store.Goals as goal

pub returns-clause-plan : goal.returns-clause-plan
returns-clause-plan c = planned-store

pub returns-clause-call : goal.returns-clause-call
returns-clause-call c = issued-store
