-- What is sent.
use Rattle.std.specs.Prelude.{◌≡◌, ◌++◌, ℕ, List, Option}
use Rattle.std.specs.List.{flat_map}
use Rattle.ble_fragments.specs.Cut.{fragments_of}
use Rattle.key_device.specs.declared.exchange.Exchange.{Exchange}
use Rattle.mdoc_outside.specs.declared.fragment.Fragment.{Fragment}
use Rattle.session_seal.specs.declared.wallet_end.WalletEnd.{WalletEnd}
use Rattle.wallet_model.specs.Setup.{Setup}
use Rattle.wallet_model.specs.Stands.{Node}
use Rattle.wallet_model.specs.Wallet.{Run, sent}
use Rattle.wallet_model.specs.Taking.{Took, in_list}

-- A law: where a further fragment was taken, the fragments that are sent are those before and the fragments of the reply.
abbrev pub SentGrows : Type 0
SentGrows =
    (W : Setup) (words : List ℕ) (now : List Fragment) (begun talk : List Exchange) (before : Run) (node : Node) (message : Option (List ℕ)) (ended : Option WalletEnd)
    → (took : Took W words now begun talk before node message ended)
    → sent W took.run ≡ sent W before ++ flat_map (fragments_of W.size) (in_list message)
