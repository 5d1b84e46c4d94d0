use Rattle.std.proofs.Common.{Some, ap, ◌∙◌}
use Rattle.std.specs.Str.{bytes_eq}
use Rattle.std.proofs.lemmas.Slice.Eq.{bytes_eq-Decides}
use Rattle.wallet_answer.proofs.FoundItems.{one_changed, put_back}
use Rattle.wallet_answer.specs.Found.{found_item, named_in, named_item}
use Rattle.wallet_answer.proofs.held_items.HeldItems.put_item.Goals as goal

pub returns : goal.returns
returns c = λ space own. put_back c.args.ns.now space (found_item c.args.self.now space own) (found_item c.take-items.new.self space own) _
    (named_item c.put_named.new.items own) (named_item c.take-items.result own) (bytes_eq c.args.name.now own) c.args.raw.now
    (λ e. c.take-items.ensures.taken own ∙ ap (λ ns. found_item c.args.self.now ns own) ((bytes_eq-Decides c.args.ns.now space).0 e))
    (c.take-items.ensures.left space own) (c.in_ok-put_named.ensures own)
    (one_changed (λ found. named_in found own) c.take-items.new.self.namespaces c.insert.new.self c.args.ns.now (Some c.put_named.new.items) c.in_ok-insert.ensures.updates space)
