-- What the replaying device tells: what its tape answers.
use Rattle.std.specs.Prelude.{◌≡◌, ℕ, List}
use Rattle.key_device.specs.Tape.{answer_of, tape_after, count_after}
use Rattle.key_device.specs.declared.ask.Ask.{Ask}
use Rattle.key_device.specs.declared.exchange.Exchange.{Exchange}
use Rattle.key_device.specs.declared.told.Told.{Told}
use Rattle.key_device.specs.declared.replay_device.ReplayDevice.{ReplayDevice}

-- what is left of its tape
abbrev pub tape_left : ReplayDevice → List Exchange
tape_left device = device.tape.items

abbrev pub fault_count : ReplayDevice → ℕ
fault_count device = device.faults

pub record Replays (before : ReplayDevice) (ask : Ask) (told : Told) (after : ReplayDevice) : Type 0 where
  pub answer : told ≡ answer_of (tape_left before) ask
  pub left : tape_left after ≡ tape_after (tape_left before) ask
  pub counts : fault_count after ≡ count_after told (fault_count before)
