use Rattle.std.proofs.Common.{◌∙◌, ap, length, arith}
use Rattle.std.proofs.lemmas.List.{length-drop}
use Rattle.cbor_view.specs.Reading.{size}
use Rattle.cbor_view.proofs.Stepping.{pairs_begin}
use Rattle.cbor_view.proofs.pairs.PairsIterator.next.Goals as goal

pub invariant_of-self : goal.invariant_of-self
invariant_of-self c =
    let begin = pairs_begin c.args.self.now.count c.args.self.now.rest.now (omega arith) c.args.self.now.pairs in
    let after_key = ap length c.first.ensures.rest ∙ length-drop (size c.args.self.now.rest.now) c.args.self.now.rest.now in
    let after_value = ap length c.first-2.ensures.rest ∙ length-drop (size c.first.result.1.now) c.first.result.1.now in
    let key = ap length c.raw.ensures ∙ c.first.ensures.len in
    let value = ap length c.raw-2.ensures ∙ c.first-2.ensures.len in
    record {
      pairs = rw (c.first-2.ensures.rest, c.first.ensures.rest) begin.others;
      in_range = omega (arith, after_key, after_value, key, value, c.first.ensures.within, c.first-2.ensures.within, c.args.self.now.in_range);
    }
