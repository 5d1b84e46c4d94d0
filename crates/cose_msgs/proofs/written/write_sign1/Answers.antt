use Rattle.std.proofs.Common.{sym, subst, arith, List, ℕ, option_map}
use Rattle.std.proofs.lemmas.Grind.{common_steps}
use Rattle.mdoc_outside.specs.Borrowed.{content}
use Rattle.cbor_maps.specs.Labels.{label_bytes}
use Rattle.cbor_maps.specs.Writing.{map_head}
use Rattle.cose_msgs.specs.Message.{sign1}
use Rattle.cose_msgs.specs.Written.{sign1_bytes, es256, IsReadAs}
use Rattle.cose_msgs.proofs.FourParts.{four_parts}
use Rattle.cose_msgs.proofs.WrittenMessages.{sign1-read, short-content}
use Rattle.cose_msgs.proofs.written.write_sign1.Goals as goal

pub returns-clause-written : goal.returns-clause-written
unfolding sign1_bytes es256 label_bytes map_head
returns-clause-written c = grind (arith, common_steps, four_parts)

pub returns-clause-read : goal.returns-clause-read
returns-clause-read c =
    subst (λ (b : List ℕ). IsReadAs sign1 b (record { protected = es256; chain = option_map content c.args.chain; payload = option_map content c.args.payload; signature = c.args.signature.now }))
    (sym (returns-clause-written c))
    (sign1-read (option_map content c.args.chain) (option_map content c.args.payload) c.args.signature.now (record {
      chain_short = short-content c.args.chain c.in_ok-unprotected.ensures.short;
      payload_short = short-content c.args.payload c.in_ok-append_payload.ensures.short;
      signature_length = omega arith;
    }))
