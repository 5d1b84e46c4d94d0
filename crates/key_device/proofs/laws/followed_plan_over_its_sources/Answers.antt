use Rattle.key_device.proofs.OverLemmas.{is_over_all, is_over_all_undealt, begins_with_all, follows_all_where_asked}
use Rattle.key_device.proofs.laws.followed_plan_over_its_sources.Goals as goal

pub returns-clause-same : goal.returns-clause-same
returns-clause-same g c = is_over_all _

pub returns-clause-undealt : goal.returns-clause-undealt
returns-clause-undealt g c = is_over_all_undealt _

pub returns-clause-begins : goal.returns-clause-begins
returns-clause-begins g c = begins_with_all _

pub returns-clause-converse : goal.returns-clause-converse
returns-clause-converse g c = follows_all_where_asked _
