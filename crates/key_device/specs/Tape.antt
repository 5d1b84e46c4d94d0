-- A tape: a list of exchanges with a key device, from which questions are answered in order.
use Rattle.std.specs.Prelude.{ℕ, ◌==◌, ◌&&◌, List, [], ◌∷◌, Bool, true, false, if◌then◌else◌}
use Rattle.std.specs.Str.{bytes_eq}
use Rattle.mdoc_outside.specs.Faults.{one_more}
use Rattle.key_device.specs.declared.ask.Ask.{Ask}
use Rattle.key_device.specs.declared.ask.Ask.TheVariants.{Fresh, Agree, Sign, Verify}
use Rattle.key_device.specs.declared.exchange.Exchange.{Exchange}
use Rattle.key_device.specs.declared.point.Point.{Point}
use Rattle.key_device.specs.declared.told.Told.{Told}
use Rattle.key_device.specs.declared.told.Told.TheVariants as tells

abbrev pub same_point : Point → Point → Bool
same_point one other = bytes_eq one.x other.x && bytes_eq one.y other.y

-- whether two questions are equal
abbrev pub same_ask : Ask → Ask → Bool
same_ask Fresh Fresh = true
same_ask (Agree key peer) (Agree key' peer') = (key == key') && same_point peer peer'
same_ask (Sign key message) (Sign key' message') = (key == key') && bytes_eq message message'
same_ask (Verify public message signature) (Verify public' message' signature') =
    same_point public public' && bytes_eq message message' && bytes_eq signature signature'
same_ask one other = false

-- whether a question is the next one on a tape
abbrev pub is_next : List Exchange → Ask → Bool
is_next [] ask = false
is_next (next ∷ tape) ask = same_ask next.ask ask

-- what the next exchange of a tape tells: that it failed, where the tape is spent
abbrev pub front_told : List Exchange → Told
front_told [] = tells.Failed
front_told (next ∷ tape) = next.told

abbrev pub behind_front : List Exchange → List Exchange
behind_front [] = []
behind_front (next ∷ tape) = tape

-- What a tape answers: what was told where its next question is equal, else that it failed.
abbrev pub answer_of : List Exchange → Ask → Told
answer_of tape ask = if is_next tape ask then front_told tape else tells.Failed

-- The tape after a question: past the exchange that answered it, else where it was.
abbrev pub tape_after : List Exchange → Ask → List Exchange
tape_after tape ask = if is_next tape ask then behind_front tape else tape

abbrev pub is_failed : Told → Bool
is_failed tells.Failed = true
is_failed told = false

-- a count of faults after what was told: one more where that is that the device failed
abbrev pub count_after : Told → ℕ → ℕ
count_after told count = if is_failed told then one_more count else count

-- whether that may be told in answer to a question
abbrev pub is_answer : Ask → Told → Bool
is_answer ask tells.Failed = true
is_answer Fresh (tells.Made made) = true
is_answer (Agree key peer) (tells.Secret secret) = true
is_answer (Agree key peer) tells.Refused = true
is_answer (Sign key message) (tells.Signature signature) = true
is_answer (Verify public message signature) tells.Yes = true
is_answer (Verify public message signature) tells.No = true
is_answer ask told = false

abbrev pub is_exchange : Exchange → Bool
is_exchange e = is_answer e.ask e.told
