use Rattle.key_device.proofs.OverLemmas.{is_over_its_talk, begins_with_its_talk, follows_where_all_asked}
use Rattle.key_device.proofs.laws.followed_plan_over_its_talk.Goals as goal

pub returns-clause-same : goal.returns-clause-same
returns-clause-same g c = is_over_its_talk _

pub returns-clause-begins : goal.returns-clause-begins
returns-clause-begins g c = begins_with_its_talk _

pub returns-clause-converse : goal.returns-clause-converse
returns-clause-converse g c = follows_where_all_asked _
