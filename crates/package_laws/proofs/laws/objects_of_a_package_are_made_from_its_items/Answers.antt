use Rattle.package_laws.proofs.Packages.{issued-signed, planned-signed}
use Rattle.package_laws.proofs.laws.objects_of_a_package_are_made_from_its_items.Goals as goal

pub returns-clause-plan : goal.returns-clause-plan
returns-clause-plan c = planned-signed

pub returns-clause-call : goal.returns-clause-call
returns-clause-call c = issued-signed
