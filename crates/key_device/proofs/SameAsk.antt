-- Equal questions are told equal.
use Rattle.std.proofs.Common.{◌≡◌, ℕ, ◌==◌, List, true, refl, eq-eqb}
use Rattle.std.specs.Str.{bytes_eq}
use Rattle.std.proofs.lemmas.Slice.Eq.{bytes_eq-Decides}
use Rattle.key_device.specs.Tape.{same_ask, same_point}
use Rattle.key_device.specs.declared.ask.Ask.{Ask}
use Rattle.key_device.specs.declared.ask.Ask.TheVariants.{Fresh, Agree, Sign, Verify}
use Rattle.key_device.specs.declared.point.Point.{Point}

same_bytes : (bytes : List ℕ) → bytes_eq bytes bytes ≡ true
same_bytes bytes = (bytes_eq-Decides bytes bytes).1 refl

same_number : (n : ℕ) → (n == n) ≡ true
same_number n = eq-eqb n n refl

point_itself : (p : Point) → same_point p p ≡ true
point_itself p = rw (same_bytes p.x, same_bytes p.y) refl

pub ask_itself : (ask : Ask) → same_ask ask ask ≡ true
ask_itself Fresh = refl
ask_itself (Agree key peer) = rw (same_number key, point_itself peer) refl
ask_itself (Sign key message) = rw (same_number key, same_bytes message) refl
ask_itself (Verify public message signature) = rw (point_itself public, same_bytes message, same_bytes signature) refl
