-- That an exchange fits a line in one way at most, so that a recorder may keep it of each.
use Rattle.std.specs.Prelude.{ℕ, List, true, length, All}
use Rattle.std.specs.Coded.{×_prop, Π_prop, Unit-prop, le_prop}
use Rattle.std.proofs.Math.Nat.{ℕ_set}
use Rattle.std.proofs.Math.Bool.{Bool-set}
use Rattle.hex.specs.Hex.{IsBytes}
use Rattle.key_device.specs.Tape.{is_exchange}
use Rattle.key_device.specs.HasLine.{IsSized, IsPoint, IsAsked, IsTold, HasLine}
use Rattle.key_device.specs.declared.ask.Ask.{Ask}
use Rattle.key_device.specs.declared.ask.Ask.TheVariants.{Fresh, Agree, Sign, Verify}
use Rattle.key_device.specs.declared.exchange.Exchange.{Exchange}
use Rattle.key_device.specs.declared.point.Point.{Point}
use Rattle.key_device.specs.declared.told.Told.{Told}
use Rattle.key_device.specs.declared.told.Told.TheVariants as tells

bytes_prop : (bytes : List ℕ) → IsProp (IsBytes bytes)
bytes_prop bytes = Π_prop (λ k. le_prop)

sized_prop : (size : ℕ) (bytes : List ℕ) → IsProp (IsSized size bytes)
sized_prop size bytes one other = λ i. record {
  count = ℕ_set (length bytes) size one.count other.count i;
  each = bytes_prop bytes one.each other.each i;
}

point_prop : (point : Point) → IsProp (IsPoint point)
point_prop point one other = λ i. record {
  x = sized_prop 32 point.x one.x other.x i;
  y = sized_prop 32 point.y one.y other.y i;
}

asked_prop : (ask : Ask) → IsProp (IsAsked ask)
asked_prop Fresh = Unit-prop
asked_prop (Agree key peer) = ×_prop le_prop (point_prop peer)
asked_prop (Sign key message) = ×_prop le_prop (bytes_prop message)
asked_prop (Verify public message signature) = λ one other i. (
  point_prop public one.0 other.0 i,
  bytes_prop message one.1 other.1 i,
  sized_prop 64 signature one.2 other.2 i,
)

told_prop : (told : Told) → IsProp (IsTold told)
told_prop (tells.Made made) = ×_prop le_prop (point_prop made.public)
told_prop (tells.Secret secret) = sized_prop 32 secret
told_prop tells.Refused = Unit-prop
told_prop (tells.Signature signature) = sized_prop 64 signature
told_prop tells.Yes = Unit-prop
told_prop tells.No = Unit-prop
told_prop tells.Failed = Unit-prop

line_prop : (e : Exchange) → IsProp (HasLine e)
line_prop e one other = λ i. record {
  asked = asked_prop e.ask one.asked other.asked i;
  told = told_prop e.told one.told other.told i;
  answer = Bool-set (is_exchange e) true one.answer other.answer i;
}

pub lines_prop : (es : List Exchange) → IsProp (All HasLine es)
lines_prop es = Π_prop (λ k. Π_prop (λ e. Π_prop (λ within. line_prop _)))
