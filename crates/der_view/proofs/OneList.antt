-- Bytes have at most one list of parts.
use Rattle.std.proofs.Common.{◌≡◌, ℕ, ◌%◌, ◌==◌, List, [], ◌∷◌, ◌++◌, length, drop, true, Result, Ok, Err, refl, sym, ap, ◌∙◌, subst, arith, rules}
use Rattle.std.proofs.lemmas.Bool.Decides.{nat_tests}
use Rattle.std.proofs.lemmas.List.{append_assoc, append-nil}
use Rattle.der_view.specs.declared.der_kind.DerKind.{DerKind}
use Rattle.der_view.specs.declared.der_kind.DerKind.TheVariants.{Short, HighTag, Length, Trailing}
use Rattle.der_view.specs.declared.der_fault.DerFault.{DerFault}
use Rattle.der_view.specs.Element.{length_bytes, element}
use Rattle.der_view.specs.Fault.{HasFault}
use Rattle.der_view.specs.Reading.{first_at}
use Rattle.der_view.specs.Parts.{Part, behind, IsFirst, AreParts}
use Rattle.der_view.proofs.Elements.{found, same-first, first-again}

whole-of : (p q : Part) (i : IsFirst p q) → p.bytes ≡ element i.tag i.body ++ drop (length q.bytes) p.bytes
whole-of p q i = i.whole ∙ ap (λ x. x ++ drop (length q.bytes) p.bytes) i.is.spelled

front-read : (p q : Part) (i : IsFirst p q) → first_at p.bytes ≡ found i.tag i.body (drop (length q.bytes) p.bytes)
front-read p q i = ap first_at (whole-of p q i) ∙ first-again i.tag i.body (drop (length q.bytes) p.bytes) i.is.is_tag

same-front : (p q r : Part) → IsFirst p q → IsFirst p r → q ≡ r
same-front p q r i j =
    let s = same-first i.tag j.tag i.body j.body (drop (length q.bytes) p.bytes) (drop (length r.bytes) p.bytes) (sym (front-read p q i) ∙ front-read p r j) in
    let b : q.bytes ≡ r.bytes = i.is.spelled ∙ ap (λ t. element t i.body) s.tag ∙ ap (λ c. element j.tag c) s.body ∙ sym j.is.spelled in
    let a : q.at ≡ r.at = i.place ∙ sym j.place in
    let make : ℕ → List ℕ → Part = λ x y. record { at = x; bytes = y } in
    ap (λ x. make x q.bytes) a ∙ ap (λ y. make r.at y) b

some-element : (p q : Part) → IsFirst p q → p.bytes ≡ [] → ⊥
some-element p q i e = let w = whole-of p q i in absurd (cc)

-- ---- what begins with an element has no fault at its front

after-none : (xs ys : List ℕ) → xs ++ ys ≡ [] → ys ≡ []
after-none [] ys e = e
after-none (x ∷ xs) ys e = absurd (cc)

high-read : (tag : ℕ) (rest : List ℕ) → tag % 32 ≡ 31 → first_at (tag ∷ rest) ≡ Err HighTag
unfolding first_at
high-read tag rest e = let t : (tag % 32 == 31) ≡ true = grind (arith, nat_tests) in rw t refl

same-tail : (x y : ℕ) (xs ys : List ℕ) → x ∷ xs ≡ y ∷ ys → xs ≡ ys
same-tail x y xs ys e = cc

no-fault : (p q : Part) (kind : DerKind) → IsFirst p q → HasFault kind 0 p.bytes → ⊥
no-fault p q Short i f =
    let e = f.1 in
    let rest = drop (length q.bytes) p.bytes in
    let a : first_at (p.bytes ++ e.missing) ≡ found i.tag i.body (rest ++ e.missing) = ap (λ x. first_at (x ++ e.missing)) (whole-of p q i) ∙ ap first_at (append_assoc (element i.tag i.body) rest e.missing) ∙ first-again i.tag i.body (rest ++ e.missing) i.is.is_tag in
    let b : first_at (p.bytes ++ e.missing) ≡ found e.tag e.body [] = ap first_at (e.is.spelled ∙ sym (append-nil (element e.tag e.body))) ∙ first-again e.tag e.body [] e.is.is_tag in
    let s = same-first i.tag e.tag i.body e.body (rest ++ e.missing) [] (sym a ∙ b) in
    e.some (after-none rest e.missing s.rest)
no-fault p q HighTag i f =
    let h = f.1 in
    let a = front-read p q i in
    let b = ap first_at h.whole ∙ high-read h.tag h.rest h.high in
    absurd (cc)
no-fault p q Length i f =
    let h = f.1 in
    let rest = drop (length q.bytes) p.bytes in
    let n = length i.body in
    let t : h.rest ≡ (length_bytes n ++ i.body) ++ rest = same-tail h.tag i.tag h.rest ((length_bytes n ++ i.body) ++ rest) (sym h.whole ∙ whole-of p q i) in
    h.none n [] (i.body ++ rest) i.is.fits (append-nil h.rest ∙ t ∙ append_assoc (length_bytes n) i.body rest)
no-fault p q Trailing i f = let z : 0 ≡ length (element f.tag f.body) = f.place ∙ ap length f.is.spelled in absurd (omega arith)

-- ---- one fault

same-kind : (bytes : List ℕ) (k l : DerKind) → HasFault k 0 bytes → HasFault l 0 bytes → k ≡ l
same-kind bytes k l f g = search rules

-- ---- one list

pub one-list : (xs ys : List (Result Part DerFault)) (p : Part) → AreParts p xs → AreParts p ys → xs ≡ ys
one-list [] [] p a b = refl
one-list [] ((Ok r) ∷ ys) p a b = absurd (some-element p r b.0 a)
one-list [] ((Err g) ∷ []) p a b = absurd (b.0 a)
one-list [] ((Err g) ∷ (y ∷ ys)) p a b = absurd b
one-list ((Ok q) ∷ xs) [] p a b = absurd (some-element p q a.0 b)
one-list ((Ok q) ∷ xs) ((Ok r) ∷ ys) p a b =
    let s = same-front p q r a.0 b.0 in
    let rests = one-list xs ys (behind (length q.bytes) p) a.1 (subst (λ x. AreParts (behind (length x.bytes) p) ys) (sym s) b.1) in
    ap (λ x. Ok x ∷ xs) s ∙ ap (λ zs. Ok r ∷ zs) rests
one-list ((Ok q) ∷ xs) ((Err g) ∷ []) p a b = absurd (no-fault p q g.kind a.0 b.2)
one-list ((Ok q) ∷ xs) ((Err g) ∷ (y ∷ ys)) p a b = absurd b
one-list ((Err f) ∷ []) [] p a b = absurd (a.0 b)
one-list ((Err f) ∷ []) ((Ok r) ∷ ys) p a b = absurd (no-fault p r f.kind b.0 a.2)
one-list ((Err f) ∷ []) ((Err g) ∷ []) p a b =
    let k = same-kind p.bytes f.kind g.kind a.2 b.2 in
    let t : f.at ≡ g.at = a.1 ∙ sym b.1 in
    let make : DerKind → ℕ → Result Part DerFault = λ x y. Err (record { kind = x; at = y }) in
    ap (λ x. make x f.at ∷ []) k ∙ ap (λ y. make g.kind y ∷ []) t
one-list ((Err f) ∷ []) ((Err g) ∷ (y ∷ ys)) p a b = absurd b
one-list ((Err f) ∷ (x ∷ xs)) ys p a b = absurd a
