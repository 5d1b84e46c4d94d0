-- The line of a tape file that says an exchange: its words with one space between each two.
--   fresh -> KEY X Y | failed
--   agree KEY X Y -> SECRET | refused | failed
--   sign KEY MESSAGE -> SIGNATURE | failed
--   verify X Y MESSAGE SIGNATURE -> yes | no | failed
-- KEY is a decimal number below 2^32, all else is in lower-case hexadecimal digits: X, Y and SECRET
-- 64 of them, SIGNATURE 128, MESSAGE an even number, and `-` for no bytes.
use Rattle.std.specs.Prelude.{ℕ, ◌^◌, ◌==◌, ◌&&◌, ◌||◌, List, [], ◌∷◌, Bool, Option, Some, None, codes, nat_lt, nat_le, if◌then◌else◌}
use Rattle.std.specs.Char.{is_ascii_digit}
use Rattle.std.specs.List.{list_all, slice_split}
use Rattle.std.specs.Result.{result_ok}
use Rattle.std.specs.Str.{bytes_eq}
use Rattle.std.specs.Str.Parse.{digits_value}
use Rattle.hex.specs.Hex.{decode_of, decode_sized}
use Rattle.mdoc_outside.specs.Decimals.{is_decimal}
use Rattle.mdoc_outside.specs.OptionSteps.{◌>>=◌}
use Rattle.key_device.specs.Recording.{exchange}
use Rattle.key_device.specs.declared.ask.Ask.TheVariants.{Fresh, Agree, Sign, Verify}
use Rattle.key_device.specs.declared.exchange.Exchange.{Exchange}
use Rattle.key_device.specs.declared.made.Made.{Made}
use Rattle.key_device.specs.declared.point.Point.{Point}
use Rattle.key_device.specs.declared.told.Told.{Told}
use Rattle.key_device.specs.declared.told.Told.TheVariants as tells

-- a decimal number below 2^32
unfoldable pub number_of : List ℕ → Option ℕ
number_of word =
    if is_decimal word && nat_lt (digits_value 10 word) (2 ^ 32) then Some (digits_value 10 word) else None

-- a digit from `0` to `9` or from `a` to `f`
abbrev pub is_lower_digit : ℕ → Bool
is_lower_digit byte = is_ascii_digit byte || (nat_le 97 byte && nat_le byte 102)

-- so many bytes in lower-case hexadecimal digits
unfoldable pub bytes_of : ℕ → List ℕ → Option (List ℕ)
bytes_of size word = if list_all is_lower_digit word then result_ok (decode_sized word size) else None

-- any number of bytes in lower-case hexadecimal digits, and `-` for none
unfoldable pub message_of : List ℕ → Option (List ℕ)
message_of [] = None
message_of word =
    if bytes_eq word (codes "-") then Some []
    else if list_all is_lower_digit word then result_ok (decode_of word) else None

abbrev pub point_of : List ℕ → List ℕ → Option Point
point_of x y = do
  x' ← bytes_of 32 x
  y' ← bytes_of 32 y
  Some (record { x = x'; y = y' })

-- whether a word is that text, and another the arrow before what was told
abbrev pub has_form : List ℕ → List ℕ → List ℕ → Bool
has_form kind text arrow = bytes_eq kind text && bytes_eq arrow (codes "->")

-- KEY X Y of a new key
abbrev pub made_of : List ℕ → List ℕ → List ℕ → Option Made
made_of key x y = do
  number ← number_of key
  public ← point_of x y
  Some (record { key = number; public = public })

-- what is told of a secret
abbrev pub told_of_agree : List ℕ → Option Told
told_of_agree word =
    if bytes_eq word (codes "failed") then Some tells.Failed
    else if bytes_eq word (codes "refused") then Some tells.Refused
    else bytes_of 32 word >>= λ secret. Some (tells.Secret secret)

-- what is told of a signature
abbrev pub told_of_sign : List ℕ → Option Told
told_of_sign word =
    if bytes_eq word (codes "failed") then Some tells.Failed
    else bytes_of 64 word >>= λ signature. Some (tells.Signature signature)

-- what is told of another's signature
abbrev pub told_of_verify : List ℕ → Option Told
told_of_verify word =
    if bytes_eq word (codes "yes") then Some tells.Yes
    else if bytes_eq word (codes "no") then Some tells.No
    else if bytes_eq word (codes "failed") then Some tells.Failed else None

-- KEY MESSAGE, and what was told
abbrev pub sign_of : List ℕ → List ℕ → List ℕ → Option Exchange
sign_of key message word = do
  number ← number_of key
  bytes ← message_of message
  told ← told_of_sign word
  Some (exchange (Sign number bytes) told)

-- KEY X Y, and what was told
abbrev pub agree_of : List ℕ → List ℕ → List ℕ → List ℕ → Option Exchange
agree_of key x y word = do
  number ← number_of key
  peer ← point_of x y
  told ← told_of_agree word
  Some (exchange (Agree number peer) told)

-- X Y MESSAGE SIGNATURE, and what was told
abbrev pub verify_of : List ℕ → List ℕ → List ℕ → List ℕ → List ℕ → Option Exchange
verify_of x y message signature word = do
  public ← point_of x y
  bytes ← message_of message
  signed ← bytes_of 64 signature
  told ← told_of_verify word
  Some (exchange (Verify public bytes signed) told)

-- three words: no key was made
abbrev pub three_of : List ℕ → List ℕ → List ℕ → Option Exchange
three_of kind arrow word =
    if has_form kind (codes "fresh") arrow
    then (if bytes_eq word (codes "failed") then Some (exchange Fresh tells.Failed) else None)
    else None

-- five words: a key that was made, or what was told of a signature
abbrev pub five_of : List ℕ → List ℕ → List ℕ → List ℕ → List ℕ → Option Exchange
five_of kind one two three four =
    if has_form kind (codes "fresh") one
    then (made_of two three four >>= λ made. Some (exchange Fresh (tells.Made made)))
    else if has_form kind (codes "sign") three then sign_of one two four
    else None

-- six words: what was told of a secret
abbrev pub six_of : List ℕ → List ℕ → List ℕ → List ℕ → List ℕ → List ℕ → Option Exchange
six_of kind key x y arrow word =
    if has_form kind (codes "agree") arrow then agree_of key x y word else None

-- seven words: what was told of another's signature
abbrev pub seven_of : List ℕ → List ℕ → List ℕ → List ℕ → List ℕ → List ℕ → List ℕ → Option Exchange
seven_of kind x y message signature arrow word =
    if has_form kind (codes "verify") arrow then verify_of x y message signature word else None

-- the exchange that words say
unfoldable pub exchange_of : List (List ℕ) → Option Exchange
exchange_of (kind ∷ arrow ∷ word ∷ []) = three_of kind arrow word
exchange_of (kind ∷ one ∷ two ∷ three ∷ four ∷ []) = five_of kind one two three four
exchange_of (kind ∷ key ∷ x ∷ y ∷ arrow ∷ word ∷ []) = six_of kind key x y arrow word
exchange_of (kind ∷ x ∷ y ∷ message ∷ signature ∷ arrow ∷ word ∷ []) = seven_of kind x y message signature arrow word
exchange_of words = None

-- the exchange that a line says, without its line feed
abbrev pub line_exchange : List ℕ → Option Exchange
line_exchange line = exchange_of (slice_split (λ byte. byte == 32) line)
