use Rattle.std.proofs.Common.{sym, ◌∙◌, ap}
use Rattle.cbor_view.specs.View.{part}
use Rattle.cbor_view.specs.Pairs.{pairs_left}
use Rattle.cbor_maps.specs.Found.{seen, name_at}
use Rattle.cbor_maps.proofs.Walking.{all-missing, entry-none, entry-pairs}
use Rattle.cbor_maps.proofs.find.find_all.Goals as goal

pub returns-in_default : goal.returns-in_default
returns-in_default c = λ i h. ap seen (all-missing i) ∙ sym (entry-none (part c.args.map.now) (name_at c.args.names.now i) (sym c.in_default.ensures.place))

pub loop-key-init : goal.loop-key-init
loop-key-init c = record {
  can_next = tt;
  is_finite = tt;
  joined = λ i h. rw (all-missing i, c.into_iter-key-iterator.ensures.into_iter_gives) (sym (entry-pairs (part c.args.map.now) (name_at c.args.names.now i) (pairs_left c.in-Some.pairs) (sym c.in-Some.ensures.place)));
}
