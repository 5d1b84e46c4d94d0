use Rattle.mdoc_outside.proofs.DiceLaws.{takes_from_the_list, fails_where_spent, counts_on}
use Rattle.mdoc_outside.proofs.dice_laws.words_gained_were_dealt.Goals as goal

pub returns-clause-first : goal.returns-clause-first
returns-clause-first c = takes_from_the_list

pub returns-clause-spent : goal.returns-clause-spent
returns-clause-spent c = fails_where_spent

pub returns-clause-counted : goal.returns-clause-counted
returns-clause-counted c = counts_on
