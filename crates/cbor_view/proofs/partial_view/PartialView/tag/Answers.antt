use Rattle.cbor_view.specs.PartialView.{rest_of_file}
use Rattle.cbor_view.proofs.PartialOpening.{tag-open, no-tag, tag-closed}
use Rattle.cbor_view.proofs.partial_view.PartialView.tag.Goals as goal

pub returns-in_default : goal.returns-in_default
returns-in_default c = tag-closed c.args.self.now.levels (rest_of_file c.args.self.now) c.args.self.now.most (record { each = c.args.self.now.each }) c.in_default.ensures

pub returns-in-Some-tag_number : goal.returns-in-Some-tag_number
returns-in-Some-tag_number c = tag-open c.args.self.now.levels (rest_of_file c.args.self.now) c.in-Some.head c.in-Some.inner.levels (rest_of_file c.in-Some.inner) c.in-Some-tag_number.number c.args.self.now.most (record { each = c.args.self.now.each }) c.in-Some.ensures c.in-Some-tag_number.ensures

pub returns-in-None : goal.returns-in-None
returns-in-None c = no-tag c.args.self.now.levels (rest_of_file c.args.self.now) c.in-Some.head c.in-Some.inner.levels (rest_of_file c.in-Some.inner) c.args.self.now.most (record { each = c.args.self.now.each }) c.in-Some.ensures c.in-None.ensures
