use Rattle.std.proofs.Common.{◌≡◌, ℕ, List, Ok, option_map, rules, subst, sym}
use Rattle.mdoc_outside.specs.Borrowed.{content}
use Rattle.cbor_maps.specs.Labels.{label_bytes}
use Rattle.cbor_maps.specs.Writing.{map_head}
use Rattle.engagement.specs.Engagement.{engagement}
use Rattle.engagement.specs.WrittenEngagement.{engagement_bytes}
use Rattle.engagement.proofs.WrittenReads.{engagement-read}
use Rattle.engagement.proofs.written.write_engagement.Goals as goal

pub returns-in-Some-clause-written : goal.returns-in-Some-clause-written
unfolding engagement_bytes label_bytes map_head
returns-in-Some-clause-written c = search rules

pub returns-in-Some-clause-read : goal.returns-in-Some-clause-read
returns-in-Some-clause-read c =
    subst (λ (b : List ℕ). engagement b ≡ Ok c.args.point.now)
    (sym (returns-in-Some-clause-written c))
    (engagement-read c.args.point.now (option_map content c.args.uuid) (record {
      key = c.in_ok-security.ensures.read;
      key_short = c.in_ok-security.ensures.short;
      uuid_short = rw c.in-Some.is c.in_ok-methods-in-Some.ensures.short;
    }))

pub returns-clause-written : goal.returns-clause-written
unfolding engagement_bytes label_bytes map_head
returns-clause-written c = search rules

pub returns-clause-read : goal.returns-clause-read
returns-clause-read c =
    subst (λ (b : List ℕ). engagement b ≡ Ok c.args.point.now)
    (sym (returns-clause-written c))
    (engagement-read c.args.point.now (option_map content c.args.uuid) (record {
      key = c.in_ok-security.ensures.read;
      key_short = c.in_ok-security.ensures.short;
      uuid_short = rw c.in-None.is tt;
    }))
