-- What is read of an element that is written, and of the elements in it.
use Rattle.std.proofs.Common.{◌≡◌, ℕ, ◌+◌, ◌-◌, ◌==◌, refl, sym, ap, ◌∙◌, subst, arith, true, List, [], ◌∷◌, ◌++◌, length, take, Result, Ok, Option, length-append}
use Rattle.std.proofs.lemmas.Bool.Decides.{nat_tests}
use Rattle.std.proofs.Math.Seq.{take-append_seam}
use Rattle.mdoc_outside.specs.ResultSteps.{or_fault}
use Rattle.der_view.specs.declared.der_fault.DerFault.{DerFault}
use Rattle.der_view.specs.Element.{IsTag, element}
use Rattle.der_view.specs.Parts.{Part, part_of, der, parted, first_part, with_others, parts_at, parts_of}
use Rattle.der_view.specs.Reading.{tag_of, body_of}
use Rattle.der_view.proofs.Elements.{first-again, element-reads}
use Rattle.der_view.proofs.Listing.{tag-read, body-read, parts-step, parts-end}
use Rattle.cert_view.specs.declared.cert_check.CertCheck.TheVariants.{Shape}
use Rattle.cert_view.specs.Faults.{fault}
use Rattle.cert_view.specs.Shapes.{has_tag, tagged, all_read, parts_in, of_shape}
use Rattle.cert_view.specs.Written.{concatenated}

abbrev pub place : ℕ → List ℕ → Part
place at bytes = record { at = at; bytes = bytes }

-- ---- one element

pub tag-is : (tag : ℕ) (body : List ℕ) → IsTag tag → tag_of (element tag body) ≡ tag
tag-is tag body is = tag-read (element tag body) tag body (element-reads tag body is)

pub body-is : (tag : ℕ) (body : List ℕ) → IsTag tag → body_of (element tag body) ≡ body
body-is tag body is = body-read (element tag body) tag body (element-reads tag body is)

pub der-is : (tag : ℕ) (body : List ℕ) → IsTag tag → der (element tag body) ≡ Ok (place 0 (element tag body))
der-is tag body is = ap (part_of (element tag body)) (element-reads tag body is)

same-number : (n : ℕ) → (n == n) ≡ true
same-number n = grind (arith, nat_tests)

pub has-tag : (at tag : ℕ) (body : List ℕ) → IsTag tag → has_tag tag (place at (element tag body)) ≡ true
has-tag at tag body is = rw (tag-is tag body is) (same-number tag)

pub tagged-is : (at tag : ℕ) (body : List ℕ) → IsTag tag → tagged tag (place at (element tag body)) ≡ Ok (place at (element tag body))
tagged-is at tag body is = rw (has-tag at tag body is) refl

-- ---- elements one after another

pub record IsElem (bytes : List ℕ) : Type 0 where
  pub tag : ℕ
  pub body : List ℕ
  pub is_tag : IsTag tag
  pub is : bytes ≡ element tag body

pub elem : (tag : ℕ) (body : List ℕ) → IsTag tag → IsElem (element tag body)
elem tag body is = record { tag = tag; body = body; is_tag = is; is = refl }

abbrev pub AreElems : List (List ℕ) → Type 0
AreElems [] = Unit {0}
AreElems (b ∷ bs) = IsElem b × AreElems bs

-- each at its place
abbrev pub placed : ℕ → List (List ℕ) → List (Result Part DerFault)
placed at [] = []
placed at (b ∷ bs) = Ok (place at b) ∷ placed (at + length b) bs

front-part : (at tag : ℕ) (body rest : List ℕ) → IsTag tag → first_part (place at (element tag body ++ rest)) ≡ Ok (place at (element tag body), rest)
front-part at tag body rest is =
    let k : length (element tag body ++ rest) - length rest ≡ length (element tag body) = omega (arith, length-append (element tag body) rest) in
    ap (parted (place at (element tag body ++ rest))) (first-again tag body rest is)
    ∙ ap (λ (n : ℕ). Ok (place at (take n (element tag body ++ rest)), rest)) k
    ∙ ap (λ (b : List ℕ). Ok (place at b, rest)) (take-append_seam (element tag body) rest)

parts-more : (at tag : ℕ) (body rest : List ℕ) → IsTag tag → parts_at (place at (element tag body ++ rest)) ≡ Ok (place at (element tag body)) ∷ parts_at (place (at + length (element tag body)) rest)
parts-more at tag body rest is =
    parts-step (place at (element tag body ++ rest)) (omega arith) ∙ ap (with_others parts_at) (front-part at tag body rest is)

elem-more : (at : ℕ) (bytes rest : List ℕ) → IsElem bytes → parts_at (place at (bytes ++ rest)) ≡ Ok (place at bytes) ∷ parts_at (place (at + length bytes) rest)
elem-more at bytes rest e =
    subst (λ (b : List ℕ). parts_at (place at (b ++ rest)) ≡ Ok (place at b) ∷ parts_at (place (at + length b) rest)) (sym e.is) (parts-more at e.tag e.body rest e.is_tag)

parts-placed : (at : ℕ) (bs : List (List ℕ)) → AreElems bs → parts_at (place at (concatenated bs)) ≡ placed at bs
parts-placed at [] are = parts-end (place at []) refl
parts-placed at (b ∷ bs) are =
    elem-more at b (concatenated bs) are.0
    ∙ ap (λ (ps : List (Result Part DerFault)). Ok (place at b) ∷ ps) (parts-placed (at + length b) bs are.1)

read-placed : (at : ℕ) (bs : List (List ℕ)) → all_read (placed at bs) ≡ Ok tt
read-placed at [] = refl
read-placed at (b ∷ bs) = read-placed (at + length b) bs

-- ---- the elements in one

-- where the first of them stands
abbrev pub after_head : ℕ → ℕ → List ℕ → ℕ
after_head at tag body = at + (length (element tag body) - length body)

pub parts-in : (at tag : ℕ) (bs : List (List ℕ)) → IsTag tag → AreElems bs → parts_of (place at (element tag (concatenated bs))) ≡ placed (after_head at tag (concatenated bs)) bs
parts-in at tag bs is are =
    let body = concatenated bs in
    ap (λ (b : List ℕ). parts_at (place (at + (length (element tag body) - length b)) b)) (body-is tag body is)
    ∙ parts-placed (after_head at tag body) bs are

pub parts-read : (at tag : ℕ) (bs : List (List ℕ)) → IsTag tag → AreElems bs → parts_in tag (place at (element tag (concatenated bs))) ≡ Ok (placed (after_head at tag (concatenated bs)) bs)
parts-read at tag bs is are =
    rw (has-tag at tag (concatenated bs) is)
    (rw (parts-in at tag bs is are)
    (rw (read-placed (after_head at tag (concatenated bs)) bs) refl))

pub of_shape-is : {A : Type 0} (shape : List (Result Part DerFault) → Option A) (at tag : ℕ) (bs : List (List ℕ)) → IsTag tag → AreElems bs → of_shape shape tag (place at (element tag (concatenated bs))) ≡ or_fault (fault Shape at) (shape (placed (after_head at tag (concatenated bs)) bs))
of_shape-is shape at tag bs is are = rw (parts-read at tag bs is are) refl
