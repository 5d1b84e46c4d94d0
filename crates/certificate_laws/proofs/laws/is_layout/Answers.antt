use Rattle.certificate_laws.proofs.Layouts.{layout-is, no-layout-faults, no-layout-reported}
use Rattle.certificate_laws.proofs.laws.is_layout.Goals as goal

pub returns-clause-read : goal.returns-clause-read
returns-clause-read c = layout-is

pub returns-clause-faults : goal.returns-clause-faults
returns-clause-faults c = no-layout-faults

pub returns-clause-reported : goal.returns-clause-reported
returns-clause-reported c = no-layout-reported
