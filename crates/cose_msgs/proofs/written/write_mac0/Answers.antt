use Rattle.std.proofs.Common.{rules, sym, subst, arith, List, ℕ, None}
use Rattle.cbor_maps.specs.Labels.{label_bytes}
use Rattle.cbor_maps.specs.Writing.{map_head}
use Rattle.cose_msgs.specs.Message.{mac0}
use Rattle.cose_msgs.specs.Written.{mac0_bytes, hmac256, chain_map, IsReadAs}
use Rattle.cose_msgs.proofs.WrittenMessages.{mac0-read}
use Rattle.cose_msgs.proofs.written.write_mac0.Goals as goal

pub returns-clause-written : goal.returns-clause-written
unfolding mac0_bytes hmac256 chain_map label_bytes map_head
returns-clause-written c = search rules

pub returns-clause-read : goal.returns-clause-read
returns-clause-read c = subst (λ (b : List ℕ). IsReadAs mac0 b (record { protected = hmac256; payload = None; tag = c.args.tag.now })) (sym (returns-clause-written c)) (mac0-read c.args.tag.now (omega arith))
