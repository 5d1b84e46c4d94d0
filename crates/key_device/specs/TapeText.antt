-- The text of a tape file: for each exchange the line that says it, and a line feed.
use Rattle.std.specs.Prelude.{ℕ, List, [], ◌∷◌, ◌++◌, codes, decimal}
use Rattle.hex.specs.Hex.{encode_lower}
use Rattle.key_device.specs.declared.ask.Ask.{Ask}
use Rattle.key_device.specs.declared.ask.Ask.TheVariants.{Fresh, Agree, Sign, Verify}
use Rattle.key_device.specs.declared.exchange.Exchange.{Exchange}
use Rattle.key_device.specs.declared.point.Point.{Point}
use Rattle.key_device.specs.declared.told.Told.{Told}
use Rattle.key_device.specs.declared.told.Told.TheVariants as tells

-- X Y
abbrev pub point_text : Point → List ℕ
point_text point = encode_lower point.x ++ codes " " ++ encode_lower point.y

-- MESSAGE: the bytes in lower-case hexadecimal digits, and `-` for none
abbrev pub message_text : List ℕ → List ℕ
message_text [] = codes "-"
message_text (byte ∷ bytes) = encode_lower (byte ∷ bytes)

-- the part of a line before ` -> `
abbrev pub ask_text : Ask → List ℕ
ask_text Fresh = codes "fresh"
ask_text (Agree key peer) = codes "agree " ++ decimal key ++ codes " " ++ point_text peer
ask_text (Sign key message) = codes "sign " ++ decimal key ++ codes " " ++ message_text message
ask_text (Verify public message signature) =
    codes "verify " ++ point_text public ++ codes " " ++ message_text message ++ codes " " ++ encode_lower signature

-- the part of a line after ` -> `
abbrev pub told_text : Told → List ℕ
told_text (tells.Made made) = decimal made.key ++ codes " " ++ point_text made.public
told_text (tells.Secret secret) = encode_lower secret
told_text tells.Refused = codes "refused"
told_text (tells.Signature signature) = encode_lower signature
told_text tells.Yes = codes "yes"
told_text tells.No = codes "no"
told_text tells.Failed = codes "failed"

unfoldable pub line_text : Exchange → List ℕ
line_text e = ask_text e.ask ++ codes " -> " ++ told_text e.told

abbrev pub tape_text : List Exchange → List ℕ
tape_text [] = []
tape_text (e ∷ es) = line_text e ++ codes "\n" ++ tape_text es
