-- The parts of a start, which follow one another.
use Rattle.std.specs.Prelude.{ℕ, List, Result}
use Rattle.key_device.specs.Plan.{Plan, Done, Then, Draw}
use Rattle.key_device.specs.declared.ask.Ask.TheVariants.{Fresh}
use Rattle.key_device.specs.declared.device_fault.DeviceFault.{DeviceFault}
use Rattle.session_seal.specs.Wallet.{WalletStart}
use Rattle.wallet_model.specs.Wallet.{started_with, uuid}

-- the UUID of two words
unfoldable pub drawn_id : Plan (List ℕ)
drawn_id = Draw (λ first. Draw (λ second. Done (uuid first second)))

-- the session with that UUID, of a fresh key
unfoldable pub asked_for_key : List ℕ → Plan (Result WalletStart DeviceFault)
asked_for_key id = Then Fresh (λ told. Done (started_with id told))
