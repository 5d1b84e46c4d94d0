use Rattle.key_device.proofs.GaveFormLemmas.{is_over_what_was_left, begins_over_what_was_left, is_over_all_that_was_left, is_undealt_over_all_that_was_left}
use Rattle.key_device.proofs.gave_laws.followed_plan_over_what_was_left.Goals as goal

pub returns-clause-same : goal.returns-clause-same
returns-clause-same g c = is_over_what_was_left _

pub returns-clause-begins : goal.returns-clause-begins
returns-clause-begins g c = begins_over_what_was_left _

pub returns-clause-all : goal.returns-clause-all
returns-clause-all g c = is_over_all_that_was_left _

pub returns-clause-undealt : goal.returns-clause-undealt
returns-clause-undealt g c = is_undealt_over_all_that_was_left _
