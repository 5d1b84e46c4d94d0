use Rattle.key_device.proofs.GaveFormLemmas.{replay_counts_each, toy_tells_each, toy_counts_each}
use Rattle.key_device.proofs.gave_laws.own_devices_give_as_they_say.Goals as goal

pub returns-clause-replay_counts : goal.returns-clause-replay_counts
returns-clause-replay_counts c = replay_counts_each

pub returns-clause-toy_tells : goal.returns-clause-toy_tells
returns-clause-toy_tells c = toy_tells_each

pub returns-clause-toy_counts : goal.returns-clause-toy_counts
returns-clause-toy_counts c = toy_counts_each
