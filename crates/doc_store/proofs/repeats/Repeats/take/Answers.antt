use Rattle.std.proofs.Common.{sym, ◌∙◌}
use Rattle.cbor_view.specs.PartialView.{partial_item}
use Rattle.doc_store.proofs.NameSets.{new_name}
use Rattle.doc_store.proofs.repeats.Repeats.take.Goals as goal

pub returns-else-branch : goal.returns-else-branch
returns-else-branch c = λ others. new_name c.args.self.now.first c.args.self.now.names c.seen_before.new.self (c.args.name.now, partial_item c.args.at.now) others (sym c.is_some.ensures ∙ c.if-is_some.false) (sym c.in_ok-seen_before.ensures.before ∙ c.if-branch.false) c.in_ok-seen_before.ensures.after
