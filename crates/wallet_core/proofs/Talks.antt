-- Whether a talk gained a question.
use Rattle.std.proofs.Common.{◌≡◌, ◌<◌, ◌+◌, List, length, Option, ap, ◌∙◌, arith}
use Rattle.std.proofs.lemmas.List.{length-append}
use Rattle.key_device.specs.Plan.{Follows, Plan}
use Rattle.key_device.specs.declared.exchange.Exchange.{Exchange}

-- A talk gains no less after a question.
pub longer : {A B : Type 0} (p : Plan A) (q : Plan B) {old mid new : List Exchange} {first : Option A} {second : Option B}
    → (one : Follows p old mid first) → Follows q mid new second → 0 < length one.gained → ¬ (new ≡ old)
longer p q {old} {mid} {new} one two asked same =
    let first : length mid ≡ length old + length one.gained = ap length one.joined ∙ length-append old one.gained in
    let second : length new ≡ length mid + length two.gained = ap length two.joined ∙ length-append mid two.gained in
    let none : length new ≡ length old = ap length same in
    absurd (omega arith)
