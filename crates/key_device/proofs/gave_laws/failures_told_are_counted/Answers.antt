use Rattle.key_device.proofs.GaveFormLemmas.{counts_failed}
use Rattle.key_device.proofs.gave_laws.failures_told_are_counted.Goals as goal

pub returns : goal.returns
returns g c = counts_failed g.D.KeyDevice.gives g.D.KeyDevice.unasked g.D.KeyDevice.faults
