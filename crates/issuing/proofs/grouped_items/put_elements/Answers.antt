use Rattle.std.proofs.Common.{◌<◌, length, refl, arith}
use Rattle.issuing.proofs.GroupLemmas.{few_more, more_counted, more_written}
use Rattle.issuing.proofs.grouped_items.put_elements.Goals as goal

pub loop-place-preserved : goal.loop-place-preserved
loop-place-preserved c =
    let within : c.loop-place.place < length c.args.elements.now = omega arith in
    let within_salts : c.loop-place.place < length c.args.salts.now = omega (arith, c.requires.salts) in
    record {
      written = more_written c.args.ns.now c.args.elements.now c.args.salts.now c.loop-place.place c.loop-place.number c.index-elements-place.result _ _ _ _ _ within c.index-elements-place.is within_salts refl
          c.loop-place.invariant.number c.in_ok-number.ensures.written c.loop-place.invariant.written;
      number = more_counted c.args.ns.now c.args.elements.now c.loop-place.place c.loop-place.number _ c.index-elements-place.result within c.index-elements-place.is c.loop-place.invariant.number c.in_ok-number.ensures.next;
      few = few_more c.args.ns.now c.loop-place.place c.loop-place.number _ c.index-elements-place.result c.loop-place.invariant.few c.in_ok-number.ensures.next;
    }
