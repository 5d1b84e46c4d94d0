-- A reading tells the first fault of bytes, and bytes without one are an item.
use Rattle.std.proofs.Common.{◌≡◌, ℕ, zero, suc, ◌+◌, ◌-◌, ◌≤◌, ◌==◌, if◌then◌else◌, List, ◌++◌, length, true, false, Result, Ok, Err, refl, sym, ap, ◌∙◌, subst, arith}
use Rattle.std.proofs.lemmas.Bool.Decides.{nat_tests}
use Rattle.std.proofs.lemmas.List.{length-append}
use Rattle.cbor_view.specs.declared.cbor_kind.CborKind.{CborKind}
use Rattle.cbor_view.specs.declared.cbor_kind.CborKind.TheVariants.{Truncated, Reserved, Chunked, Indefinite, Length, Deep, BadText, Trailing}
use Rattle.cbor_view.specs.declared.cbor_fault.CborFault.{CborFault}
use Rattle.cbor_view.specs.declared.stop.Stop.{Stop}
use Rattle.cbor_view.specs.Tree.{Tree}
use Rattle.cbor_view.specs.Reading.{item_at, past, at_offset, nothing_after, stop, reads}
use Rattle.cbor_view.specs.FirstFault.{WrongItem, GoesOn, WrongAfter, HasFault, rank, IsFirstFault, IsFaultless, IsItem}
use Rattle.cbor_view.proofs.HeadReading.{AreBytes}
use Rattle.cbor_view.proofs.ItemReading.{item-again, item-sound}
use Rattle.cbor_view.proofs.WholeReading.{reads-spells, spells-reads, whole-trailing, whole-fault}
use Rattle.cbor_view.proofs.FaultsRead.{wrong-stops}
use Rattle.cbor_view.proofs.FaultsDue.{due-stopped, due-inside}
use Rattle.cbor_view.proofs.FaultsFound.{item-found}

-- ---- the fault that is reported is one of the bytes

wrong-after : (kind : CborKind) (before rest : List ℕ) → WrongItem kind before rest → WrongAfter kind before rest
wrong-after Truncated before rest w = w
wrong-after Reserved before rest w = w
wrong-after Chunked before rest w = w
wrong-after Indefinite before rest w = w
wrong-after Length before rest w = w
wrong-after Deep before rest w = w
wrong-after BadText before rest w = w
wrong-after Trailing before rest w = absurd w.wrong

abbrev told : List ℕ → Result (Tree × List ℕ) Stop → Result Tree CborFault
told bytes r = at_offset (length bytes) (nothing_after r)

goes-on : (bytes : List ℕ) (x : Tree × List ℕ) (fault : CborFault) → AreBytes bytes → item_at 32 bytes ≡ Ok x → told bytes (Ok x) ≡ Err fault → HasFault bytes fault
goes-on bytes x fault are i e =
    let s = (item-sound 32).each bytes x.1 x.0 are i in
    elim (length x.1 == 0) as (λ b. (length x.1 == 0) ≡ b → at_offset (length bytes) (if b then Ok x.0 else stop Trailing (length x.1)) ≡ Err fault → HasFault bytes fault) [
      | true ↦ λ t f. absurd (cc)
      | false ↦ λ t f.
          let q : fault ≡ record { kind = Trailing; at = length bytes - length x.1 } = cc in
          subst (λ y. HasFault bytes y) (sym q) (record {
            before = s.front;
            rest = x.1;
            whole = s.whole;
            place = omega (arith, ap length s.whole, length-append s.front x.1);
            wrong = record { tree = x.0; item = record { spelled = s.spelled; nesting = s.nesting }; more = grind (arith, nat_tests) };
          })
    ] refl e

stops-there : (bytes : List ℕ) (s : Stop) (fault : CborFault) → AreBytes bytes → item_at 32 bytes ≡ Err s → told bytes (Err s) ≡ Err fault → HasFault bytes fault
stops-there bytes s fault are i e =
    let f = item-found bytes s are i in
    let q : fault ≡ record { kind = s.kind; at = length bytes - s.left } = cc in
    subst (λ y. HasFault bytes y) (sym q) (record {
      before = f.before;
      rest = f.rest;
      whole = f.whole;
      place = omega (arith, f.left, ap length f.whole, length-append f.before f.rest);
      wrong = wrong-after s.kind f.before f.rest (record { inside = f.inside; due = f.due; wrong = f.wrong });
    })

fault-has : (bytes : List ℕ) (fault : CborFault) (r : Result (Tree × List ℕ) Stop) → AreBytes bytes → item_at 32 bytes ≡ r → told bytes r ≡ Err fault → HasFault bytes fault
fault-has bytes fault (Ok x) are i e = goes-on bytes x fault are i e
fault-has bytes fault (Err s) are i e = stops-there bytes s fault are i e

has-fault : (bytes : List ℕ) (fault : CborFault) → AreBytes bytes → reads bytes ≡ Err fault → HasFault bytes fault
unfolding reads
has-fault bytes fault are e = fault-has bytes fault (item_at 32 bytes) are refl e

-- ---- each fault is reported, or one of its place that counts before it

record IsTold (bytes : List ℕ) (at : ℕ) (kind : CborKind) : Type 0 where
  fault : CborFault
  is : reads bytes ≡ Err fault
  place : fault.at ≡ at
  counts : rank fault.kind ≤ rank kind

behind : (before rest : List ℕ) → length (before ++ rest) - length rest ≡ length before
behind before rest = omega (arith, length-append before rest)

item-told : (kind : CborKind) (before rest : List ℕ) → WrongItem kind before rest → IsTold (before ++ rest) (length before) kind
item-told kind before rest w =
    let n = due-inside w.inside before w.due in
    let l : w.inside + (32 - w.inside) ≡ 32 = omega arith in
    let s = wrong-stops kind w.inside (32 - w.inside) rest l w.wrong in
    let e = due-stopped w.inside (32 - w.inside) before rest (record { kind = s.told; left = length rest }) l w.due s.stopped in
    record {
      fault = record { kind = s.told; at = length (before ++ rest) - length rest };
      is = whole-fault (before ++ rest) (record { kind = s.told; left = length rest }) (ap past e);
      place = behind before rest;
      counts = s.counts;
    }

trailing-told : (before rest : List ℕ) → GoesOn before rest → IsTold (before ++ rest) (length before) Trailing
trailing-told before rest g =
    let e = item-again g.tree 32 before rest g.item.spelled g.item.nesting in
    record {
      fault = record { kind = Trailing; at = length (before ++ rest) - length rest };
      is = whole-trailing (before ++ rest) rest (ap past e) (λ z. let n : length rest ≡ 0 = ap length z in let m = g.more in omega arith);
      place = behind before rest;
      counts = omega arith;
    }

after-told : (kind : CborKind) (before rest : List ℕ) → WrongAfter kind before rest → IsTold (before ++ rest) (length before) kind
after-told Truncated before rest w = item-told Truncated before rest w
after-told Reserved before rest w = item-told Reserved before rest w
after-told Chunked before rest w = item-told Chunked before rest w
after-told Indefinite before rest w = item-told Indefinite before rest w
after-told Length before rest w = item-told Length before rest w
after-told Deep before rest w = item-told Deep before rest w
after-told BadText before rest w = item-told BadText before rest w
after-told Trailing before rest w = trailing-told before rest w

is-told : (bytes : List ℕ) (fault : CborFault) → HasFault bytes fault → IsTold bytes fault.at fault.kind
is-told bytes fault h = subst (λ x. IsTold x fault.at fault.kind) (sym h.whole) (subst (λ n. IsTold (h.before ++ h.rest) n fault.kind) (sym h.place) (after-told fault.kind h.before h.rest h.wrong))

-- ---- the laws

abbrev kind_in : CborFault → CborKind
kind_in f = f.kind

abbrev at_in : CborFault → ℕ
at_in f = f.at

one-fault : (bytes : List ℕ) (f g : CborFault) → reads bytes ≡ Err f → reads bytes ≡ Err g → f ≡ g
one-fault bytes f g d e = let q : ◌≡◌ {A = Result Tree CborFault} (Err f) (Err g) = sym d ∙ e in cc

pub read-first : (bytes : List ℕ) (fault : CborFault) → AreBytes bytes → reads bytes ≡ Err fault → IsFirstFault bytes fault
read-first bytes fault are e = record {
  has = has-fault bytes fault are e;
  least = λ other h. let t = is-told bytes other h in let q = ap at_in (one-fault bytes fault t.fault e t.is) in omega (arith, q, t.place);
  first = λ other h same. let t = is-told bytes other h in subst (λ k. rank k ≤ rank other.kind) (sym (ap kind_in (one-fault bytes fault t.fault e t.is))) t.counts;
}

abbrev of_rank : ℕ → CborKind
of_rank zero = Truncated
of_rank (suc zero) = Reserved
of_rank (suc (suc zero)) = Chunked
of_rank (suc (suc (suc zero))) = Indefinite
of_rank (suc (suc (suc (suc zero)))) = Length
of_rank (suc (suc (suc (suc (suc zero))))) = Deep
of_rank (suc (suc (suc (suc (suc (suc zero)))))) = BadText
of_rank (suc (suc (suc (suc (suc (suc (suc n))))))) = Trailing

ranked : (k : CborKind) → of_rank (rank k) ≡ k
ranked Truncated = refl
ranked Reserved = refl
ranked Chunked = refl
ranked Indefinite = refl
ranked Length = refl
ranked Deep = refl
ranked BadText = refl
ranked Trailing = refl

pub same-rank : (a b : CborKind) → rank a ≤ rank b → rank b ≤ rank a → a ≡ b
same-rank a b h k = let e : rank a ≡ rank b = omega arith in sym (ranked a) ∙ ap of_rank e ∙ ranked b

pub same-fault : (f g : CborFault) → f.kind ≡ g.kind → f.at ≡ g.at → f ≡ g
same-fault f g k n = ap (λ (x : CborKind). record { kind = x; at = f.at }) k ∙ ap (λ (m : ℕ). record { kind = g.kind; at = m }) n

pub first-read : (bytes : List ℕ) (fault : CborFault) → AreBytes bytes → IsFirstFault bytes fault → reads bytes ≡ Err fault
first-read bytes fault are f =
    let t = is-told bytes fault f.has in
    let back : rank fault.kind ≤ rank t.fault.kind = f.first t.fault (has-fault bytes t.fault are t.is) t.place in
    t.is ∙ ap (λ (x : CborFault). Err x) (same-fault t.fault fault (same-rank t.fault.kind fault.kind t.counts back) t.place)

pub faultless-item : (bytes : List ℕ) → AreBytes bytes → IsFaultless bytes → IsItem bytes
faultless-item bytes are none = elim (reads bytes) as (λ r. reads bytes ≡ r → IsItem bytes) [
  | Ok t ↦ λ e. record { tree = t; spells = reads-spells bytes t are e }
  | Err f ↦ λ e. absurd (none f (has-fault bytes f are e))
] refl

pub item-faultless : (bytes : List ℕ) → IsItem bytes → IsFaultless bytes
item-faultless bytes i = λ fault h. let t = is-told bytes fault h in let r = spells-reads bytes i.tree i.spells in let e = t.is in cc
