-- How what is sent grows.
use Rattle.std.proofs.Common.{ap, ◌∙◌}
use Rattle.std.proofs.lemmas.Grind.{flat_map-append}
use Rattle.std.specs.List.{flat_map}
use Rattle.ble_fragments.specs.Cut.{fragments_of}
use Rattle.wallet_model.specs.Wallet.{replies}
use Rattle.wallet_model.specs.Taking.{in_list}
use Rattle.wallet_core.specs.Sending.{SentGrows}

pub grows : SentGrows
grows W words now begun talk before node message ended took =
    ap (flat_map (fragments_of W.size)) took.replied ∙ flat_map-append (fragments_of W.size) (replies before) (in_list message)
