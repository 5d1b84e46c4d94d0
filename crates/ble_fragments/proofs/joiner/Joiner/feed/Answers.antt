use Rattle.std.proofs.Common.{ap, sym, ◌∙◌}
use Rattle.ble_fragments.specs.Joins.{Joined, answer_open, step_open}
use Rattle.ble_fragments.specs.Part.{Part}
use Rattle.ble_fragments.proofs.Feeding.{fed_bad, fed_open, fed_peer}
use Rattle.ble_fragments.proofs.joiner.Joiner.feed.Goals as goal

pub returns-in-Open-clause-fed : goal.returns-in-Open-clause-fed
returns-in-Open-clause-fed c came joins fed =
    fed_open came _ _ _ _ joins
    (sym (ap (λ (j : Joined). j.ending) c.self.view_is) ∙ c.in-Open.is)
    (c.take.ensures.step fed ∙ ap (λ (p : Part). step_open c.args.self.now p) c.part_of.ensures.exact)
    (c.take.ensures.answer fed ∙ ap (λ (p : Part). answer_open c.args.self.now p) c.part_of.ensures.exact)

pub returns-in-Peer-clause-fed : goal.returns-in-Peer-clause-fed
returns-in-Peer-clause-fed c came joins fed = fed_peer came _ _ joins (sym (ap (λ (j : Joined). j.ending) c.self.view_is) ∙ c.in-Peer.is)

pub returns-in-Bad-clause-fed : goal.returns-in-Bad-clause-fed
returns-in-Bad-clause-fed c came joins fed = fed_bad came _ _ _ joins (sym (ap (λ (j : Joined). j.ending) c.self.view_is) ∙ c.in-Bad.is)
