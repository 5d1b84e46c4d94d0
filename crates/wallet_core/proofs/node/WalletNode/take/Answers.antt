use Rattle.std.proofs.Common.{◌≡◌, None, Some, refl}
use Rattle.key_device.proofs.GaveLemmas.{gave_none}
use Rattle.key_device.specs.Recording.{talk}
use Rattle.wallet_core.specs.NodeView.{node_seen}
use Rattle.wallet_core.specs.StateView.{over_end}
use Rattle.wallet_core.proofs.NodeExits.{after_end, goes_on, live, rests}
use Rattle.wallet_core.proofs.node.WalletNode.take.Goals as goal

pub take_live-requires : goal.take_live-requires
take_live-requires g c =
    let over : over_end (node_seen c.args.self.now).state ≡ None = cc in live (node_seen c.args.self.now).state over

pub returns-in-Some : goal.returns-in-Some
returns-in-Some g c =
    let over : over_end (node_seen c.args.self.now).state ≡ Some c.in-Some.end = cc in
    record {
      takes = after_end (node_seen c.args.self.now) c.args.fragment.now (talk c.args.device.now) c.in-Some.end over;
      rests = rests (node_seen c.args.self.now) (talk c.args.device.now) c.in-Some.end over;
      same = record { setup = refl; engagement = refl };
      gave = gave_none _;
    }

pub returns-in-None-clause-rests : goal.returns-in-None-clause-rests
returns-in-None-clause-rests g c =
    let over : over_end (node_seen c.args.self.now).state ≡ None = cc in
    goes_on (node_seen c.args.self.now) (talk c.args.device.now) c.take_live.result (talk c.take_live.new.device) (node_seen c.take_live.new.self) over
