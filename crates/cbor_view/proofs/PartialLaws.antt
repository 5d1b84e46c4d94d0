-- The item at the front of a file, and the reading of the file.
use Rattle.std.proofs.Common.{◌≡◌, ℕ, ◌+◌, ◌-◌, if◌then◌else◌, ◌==◌, List, [], length, take, true, false, Some, Result, Ok, Err, refl, sym, ap, ◌∙◌, arith}
use Rattle.std.proofs.lemmas.List.{append-nil}
use Rattle.cbor_view.specs.declared.cbor_kind.CborKind.{CborKind}
use Rattle.cbor_view.specs.declared.cbor_kind.CborKind.TheVariants.{Trailing}
use Rattle.cbor_view.specs.declared.cbor_fault.CborFault.{CborFault}
use Rattle.cbor_view.specs.declared.stop.Stop.{Stop}
use Rattle.cbor_view.specs.Tree.{Tree}
use Rattle.cbor_view.specs.Reading.{item_at, at_offset, nothing_after, stop, reads}
use Rattle.cbor_view.specs.Parts.{Part}
use Rattle.cbor_view.specs.PartialItem.{whole, front_item, fault_in}
use Rattle.cbor_view.proofs.HeadReading.{AreBytes}
use Rattle.cbor_view.proofs.WholeReading.{reads-read}
use Rattle.cbor_view.proofs.PartialFaults.{partial-whole, partial-fault}
use Rattle.cbor_view.proofs.PartialParts.{front-is}
use Rattle.cbor_view.proofs.FaultKinds.{is_trailing, stops_after, item-kind}

pub read-whole : (bytes : List ℕ) (t : Tree) → reads bytes ≡ Ok t → front_item bytes ≡ whole (record { at = 0; bytes = bytes })
read-whole bytes t e =
    let p : Part = record { at = 0; bytes = bytes } in
    partial-whole 32 p (t, []) (reads-read bytes t e) ∙ ap (λ (q : Part). whole q) (front-is p bytes [] (sym (append-nil bytes)))

-- a fault that isn't what follows the item
abbrev told : List ℕ → Result (Tree × List ℕ) Stop → Result Tree CborFault
told bytes r = at_offset (length bytes) (nothing_after r)

told-ok : (bytes : List ℕ) (x : Tree × List ℕ) (fault : CborFault) → told bytes (Ok x) ≡ Err fault → fault ≡ record { kind = Trailing; at = length bytes - length x.1 }
told-ok bytes x fault e = elim (length x.1 == 0) as (λ b. at_offset (length bytes) (if b then Ok x.0 else stop Trailing (length x.1)) ≡ Err fault → fault ≡ record { kind = Trailing; at = length bytes - length x.1 }) [
  | true ↦ λ f. absurd (cc)
  | false ↦ λ f. cc
] e

told-err : (bytes : List ℕ) (s : Stop) (fault : CborFault) → told bytes (Err s) ≡ Err fault → fault ≡ record { kind = s.kind; at = length bytes - s.left }
told-err bytes s fault e = cc

fault-of : (bytes : List ℕ) (fault : CborFault) (r : Result (Tree × List ℕ) Stop) → AreBytes bytes → item_at 32 bytes ≡ r → told bytes r ≡ Err fault → (fault.kind ≡ Trailing → ⊥) → fault_in (front_item bytes) ≡ Some fault
fault-of bytes fault (Ok x) are i e other = absurd (other (let f : CborFault → CborKind = λ y. y.kind in ap f (told-ok bytes x fault e)))
fault-of bytes fault (Err s) are i e other =
    let n : (0 + length bytes) - s.left ≡ length bytes - s.left = omega arith in
    partial-fault 32 (record { at = 0; bytes = bytes }) s are i ∙ (ap (λ (m : ℕ). Some (record { kind = s.kind; at = m })) n ∙ ap (λ (y : CborFault). Some y) (sym (told-err bytes s fault e)))

pub read-fault : (bytes : List ℕ) (fault : CborFault) → AreBytes bytes → reads bytes ≡ Err fault → (fault.kind ≡ Trailing → ⊥) → fault_in (front_item bytes) ≡ Some fault
unfolding reads
read-fault bytes fault are e other = fault-of bytes fault (item_at 32 bytes) are refl e other

trailing-of : (bytes : List ℕ) (fault : CborFault) (r : Result (Tree × List ℕ) Stop) → item_at 32 bytes ≡ r → told bytes r ≡ Err fault → fault.kind ≡ Trailing → front_item bytes ≡ whole (record { at = 0; bytes = take fault.at bytes })
trailing-of bytes fault (Ok x) i e z =
    let at_of : CborFault → ℕ = λ y. y.at in
    let at : fault.at ≡ length bytes - length x.1 = ap at_of (told-ok bytes x fault e) in
    partial-whole 32 (record { at = 0; bytes = bytes }) x i ∙ ap (λ (m : ℕ). whole (record { at = 0; bytes = take m bytes })) (sym at)
trailing-of bytes fault (Err s) i e z =
    let kind_of : CborFault → CborKind = λ y. y.kind in
    let k : fault.kind ≡ s.kind = ap kind_of (told-err bytes s fault e) in
    let a : is_trailing s.kind ≡ false = ap stops_after (sym i) ∙ item-kind 32 bytes in
    let b : is_trailing s.kind ≡ true = ap is_trailing (sym k ∙ z) in
    absurd (cc)

pub read-trailing : (bytes : List ℕ) (fault : CborFault) → reads bytes ≡ Err fault → fault.kind ≡ Trailing → front_item bytes ≡ whole (record { at = 0; bytes = take fault.at bytes })
unfolding reads
read-trailing bytes fault e z = trailing-of bytes fault (item_at 32 bytes) refl e z
