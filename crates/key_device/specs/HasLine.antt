-- Which exchanges a line of a tape file can say.
use Rattle.std.specs.Prelude.{◌≡◌, ◌<◌, ◌^◌, ℕ, List, true, length}
use Rattle.hex.specs.Hex.{IsBytes}
use Rattle.key_device.specs.Tape.{is_exchange}
use Rattle.key_device.specs.declared.ask.Ask.{Ask}
use Rattle.key_device.specs.declared.ask.Ask.TheVariants.{Fresh, Agree, Sign, Verify}
use Rattle.key_device.specs.declared.exchange.Exchange.{Exchange}
use Rattle.key_device.specs.declared.point.Point.{Point}
use Rattle.key_device.specs.declared.told.Told.{Told}
use Rattle.key_device.specs.declared.told.Told.TheVariants as tells

-- so many bytes
pub record IsSized (size : ℕ) (bytes : List ℕ) : Type 0 where
  pub count : length bytes ≡ size
  pub each : IsBytes bytes

pub record IsPoint (point : Point) : Type 0 where
  pub x : IsSized 32 point.x
  pub y : IsSized 32 point.y

-- the values of a question's type
abbrev pub IsAsked : Ask → Type 0
IsAsked Fresh = Unit {0}
IsAsked (Agree key peer) = (key < 2 ^ 32) × IsPoint peer
IsAsked (Sign key message) = (key < 2 ^ 32) × IsBytes message
IsAsked (Verify public message signature) = IsPoint public × IsBytes message × IsSized 64 signature

-- the values of the type of what is told
abbrev pub IsTold : Told → Type 0
IsTold (tells.Made made) = (made.key < 2 ^ 32) × IsPoint made.public
IsTold (tells.Secret secret) = IsSized 32 secret
IsTold (tells.Signature signature) = IsSized 64 signature
IsTold told = Unit {0}

-- an exchange that a line can say
pub record HasLine (e : Exchange) : Type 0 where
  pub asked : IsAsked e.ask
  pub told : IsTold e.told
  pub answer : is_exchange e ≡ true
