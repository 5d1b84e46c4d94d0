use Rattle.verdict_model.proofs.Sound.{are_accepted_sound}
use Rattle.verdict_model.proofs.laws.accepted_is_sound.Goals as goal

pub returns : goal.returns
returns c = are_accepted_sound
