use Rattle.std.proofs.Common.{sym, subst, List, ℕ}
use Rattle.std.specs.Prelude.{option_map}
use Rattle.mdoc_outside.specs.Borrowed.{content}
use Rattle.cbor_view.specs.View.{part}
use Rattle.cbor_maps.specs.Contents.{IsPart}
use Rattle.cose_msgs.proofs.MessageParts.{chain-part}
use Rattle.cose_msgs.proofs.sign1.Sign1.read.Goals as goal

pub returns-in-Some-clause-stands_in : goal.returns-in-Some-clause-stands_in
returns-in-Some-clause-stands_in c =
    let has = c.in_ok-message.ensures.stands_in in
    record {
      protected = has.protected;
      chain = chain-part c.args.v.slice.now (part c.in_ok-message.message.unprotected) (option_map content c.chain_in.result) has.unprotected (sym c.chain_in.ensures);
      payload = has.payload;
      signature = subst (λ (x : List ℕ). IsPart c.args.v.slice.now x) (sym c.in-Some.ensures.cases.same) has.last;
    }
