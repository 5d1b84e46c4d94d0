use Rattle.std.proofs.Common.{sym, subst, List, ℕ}
use Rattle.cbor_maps.specs.Contents.{IsPart}
use Rattle.cose_msgs.proofs.mac0.Mac0.read.Goals as goal

pub returns-in-Some-clause-stands_in : goal.returns-in-Some-clause-stands_in
returns-in-Some-clause-stands_in c =
    let has = c.in_ok-message.ensures.stands_in in
    record {
      protected = has.protected;
      payload = has.payload;
      tag = subst (λ (x : List ℕ). IsPart c.args.v.slice.now x) (sym c.in-Some.ensures.cases.same) has.last;
    }
