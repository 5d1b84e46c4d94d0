use Rattle.key_device.proofs.PartsLemmas.{is_followed_in_parts, is_begun_in_parts, is_undealt_in_parts, is_walked_in_parts, is_cut_in_parts}
use Rattle.key_device.proofs.laws.plans_are_followed_in_parts.Goals as goal

pub returns-clause-all : goal.returns-clause-all
returns-clause-all g c = is_followed_in_parts _ _

pub returns-clause-all_begun : goal.returns-clause-all_begun
returns-clause-all_begun g c = is_begun_in_parts _ _

pub returns-clause-all_undealt : goal.returns-clause-all_undealt
returns-clause-all_undealt g c = is_undealt_in_parts _ _

pub returns-clause-walked : goal.returns-clause-walked
returns-clause-walked g c = is_walked_in_parts _ _

pub returns-clause-cut : goal.returns-clause-cut
returns-clause-cut g c = is_cut_in_parts _ _
