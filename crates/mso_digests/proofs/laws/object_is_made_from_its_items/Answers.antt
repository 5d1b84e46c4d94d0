use Rattle.mso_digests.proofs.MadeFromItems.{lists-items, covers-items}
use Rattle.mso_digests.proofs.laws.object_is_made_from_its_items.Goals as goal

pub returns : goal.returns
returns c = λ draft items are. record { lists = lists-items draft.digests items are; covers = covers-items draft.digests items are }
