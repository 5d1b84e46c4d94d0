-- The elements in an element, as they are read and as it is made of them.
use Rattle.std.proofs.Common.{◌≡◌, ℕ, ◌+◌, ◌-◌, ◌==◌, refl, sym, ap, ◌∙◌, subst, Bool, true, false, if◌then◌else◌, List, [], ◌∷◌, ◌++◌, length, append-nil, Option, Some, Result, Ok, Err}
use Rattle.std.specs.List.{AllByRecursion}
use Rattle.std.proofs.lemmas.Bool.{eqb-true}
use Rattle.std.proofs.lemmas.List.{nil_from_length}
use Rattle.mdoc_outside.specs.ResultSteps.{◌>>=◌, or_fault}
use Rattle.der_view.specs.declared.der_fault.DerFault.{DerFault}
use Rattle.der_view.specs.declared.der_kind.DerKind.{DerKind}
use Rattle.der_view.specs.declared.der_kind.DerKind.TheVariants.{Trailing}
use Rattle.der_view.specs.Element.{length_bytes, element, IsElement}
use Rattle.der_view.specs.Parts.{Part, behind, AreParts, der, part_of, body_part, parts_of}
use Rattle.der_view.specs.Reading.{first_at, alone, reads, tag_of, body_of}
use Rattle.der_view.proofs.Lengths.{AreBytes, bytes-behind, bytes-before}
use Rattle.der_view.proofs.Elements.{First, found, first-sound, element-reads}
use Rattle.der_view.proofs.Listing.{tag-read, body-read, parts-are}
use Rattle.cert_view.specs.declared.cert_check.CertCheck.TheVariants.{Shape}
use Rattle.cert_view.specs.declared.cert_fault.CertFault.{CertFault}
use Rattle.cert_view.specs.Faults.{fault}
use Rattle.cert_view.specs.Shapes.{has_tag, tagged, all_read, parts_in, of_shape}
use Rattle.cert_view.specs.Written.{concatenated}
use Rattle.cert_view.proofs.WrittenParts.{place, AreElems, placed, after_head, parts-read, of_shape-is}
use Rattle.certificate_laws.specs.MadeOf.{IsSomeElement, IsMadeOf}
use Rattle.certificate_laws.proofs.Steps.{stepped, or_fault-ok, if-ok}

-- an element of bytes
pub record IsRead (bytes : List ℕ) : Type 0 where
  pub is : IsSomeElement bytes
  pub are : AreBytes bytes

-- ---- one element

pub some-element : (bytes : List ℕ) (tag : ℕ) (body : List ℕ) → IsElement bytes tag body → IsSomeElement bytes
some-element bytes tag body is = record { tag = tag; body = body; is = is }

reads-is : (bytes : List ℕ) (tag : ℕ) (body : List ℕ) → IsElement bytes tag body → reads bytes ≡ Ok (tag, body)
reads-is bytes tag body is = ap reads is.spelled ∙ element-reads tag body is.is_tag

pub tag-of : (bytes : List ℕ) (tag : ℕ) (body : List ℕ) → IsElement bytes tag body → tag_of bytes ≡ tag
tag-of bytes tag body is = tag-read bytes tag body (reads-is bytes tag body is)

pub body-of : (bytes : List ℕ) (tag : ℕ) (body : List ℕ) → IsElement bytes tag body → body_of bytes ≡ body
body-of bytes tag body is = body-read bytes tag body (reads-is bytes tag body is)

pub own-is : (bytes : List ℕ) → IsSomeElement bytes → IsElement bytes (tag_of bytes) (body_of bytes)
own-is bytes e =
    subst (λ (tag : ℕ). IsElement bytes tag (body_of bytes)) (sym (tag-of bytes e.tag e.body e.is))
    (subst (λ (body : List ℕ). IsElement bytes e.tag body) (sym (body-of bytes e.tag e.body e.is)) e.is)

pub with-tag : (tag : ℕ) (bytes : List ℕ) → IsSomeElement bytes → (tag_of bytes == tag) ≡ true → IsElement bytes tag (body_of bytes)
with-tag tag bytes e same = subst (λ (t : ℕ). IsElement bytes t (body_of bytes)) (eqb-true (tag_of bytes) tag same) (own-is bytes e)

pub record TagRead (tag : ℕ) (p q : Part) : Type 0 where
  pub same : p ≡ q
  pub is : IsElement p.bytes tag (body_of p.bytes)

pub tag-sound : (tag : ℕ) (p q : Part) → IsSomeElement p.bytes → tagged tag p ≡ Ok q → TagRead tag p q
tag-sound tag p q is e =
    let f : CertFault = fault Shape p.at in
    let c = if-ok (has_tag tag p) (Ok p) f q e in
    let own : Ok p ≡ Ok q = c.1 in
    record { same = cc; is = with-tag tag p.bytes is c.0 }

pub body-bytes : (bytes : List ℕ) (tag : ℕ) (body : List ℕ) → IsElement bytes tag body → AreBytes bytes → AreBytes body
body-bytes bytes tag body is are = bytes-behind (tag ∷ length_bytes (length body)) body (subst AreBytes is.spelled are)

-- ---- all of the bytes

abbrev if_alone : ℕ → First → Bool → Result (ℕ × List ℕ) DerFault
if_alone len x b = if b then Ok (x.0, x.1) else Err (record { kind = Trailing; at = len - length x.2 })

alone-is : (len : ℕ) (r : Result First DerKind) (tag : ℕ) (body : List ℕ) → alone len r ≡ Ok (tag, body) → r ≡ found tag body []
alone-is len (Err kind) tag body e = absurd (cc)
alone-is len (Ok x) tag body e = by (length x.2 == 0) refl e where
  by : (b : Bool) → (length x.2 == 0) ≡ b → if_alone len x b ≡ Ok (tag, body) → Ok x ≡ found tag body []
  by true nothing same =
      let pair : (x.0, x.1) ≡ (tag, body) = cc in
      let f : ℕ × List ℕ → ℕ = λ y. y.0 in
      let g : ℕ × List ℕ → List ℕ = λ y. y.1 in
      let none = nil_from_length x.2 (eqb-true (length x.2) 0 nothing) in
      ap (λ (t : ℕ). found t x.1 x.2) (ap f pair) ∙ ap (λ (b : List ℕ). found tag b x.2) (ap g pair) ∙ ap (found tag body) none
  by false nothing same = absurd (cc)

reads-sound : (bytes : List ℕ) (tag : ℕ) (body : List ℕ) → AreBytes bytes → reads bytes ≡ Ok (tag, body) → IsElement bytes tag body
unfolding reads
reads-sound bytes tag body are e =
    let s = first-sound bytes tag body [] are (alone-is (length bytes) (first_at bytes) tag body e) in
    subst (λ (x : List ℕ). IsElement x tag body) (sym (s.whole ∙ append-nil (element tag body))) s.is

pub record DerRead (bytes : List ℕ) (p : Part) : Type 0 where
  pub same : p ≡ place 0 bytes
  pub is : IsSomeElement bytes

pub der-sound : (bytes : List ℕ) (p : Part) → AreBytes bytes → der bytes ≡ Ok p → DerRead bytes p
der-sound bytes p are e = go (reads bytes) refl e where
  go : (r : Result (ℕ × List ℕ) DerFault) → reads bytes ≡ r → part_of bytes r ≡ Ok p → DerRead bytes p
  go (Ok x) read same =
      let own : Ok (place 0 bytes) ≡ Ok p = same in
      record { same = cc; is = some-element bytes x.0 x.1 (reads-sound bytes x.0 x.1 are read) }
  go (Err f) read same = absurd (cc)

-- ---- the elements in a row

record Listed (p : Part) (ps : List (Result Part DerFault)) : Type 0 where
  parts : List (List ℕ)
  whole : p.bytes ≡ concatenated parts
  each : AllByRecursion IsSomeElement parts
  is : ps ≡ placed p.at parts

listed : (ps : List (Result Part DerFault)) (p : Part) → AreParts p ps → all_read ps ≡ Ok tt → Listed p ps
listed [] p are ok = record { parts = []; whole = are; each = tt; is = refl }
listed ((Ok q) ∷ ps) p are ok =
    let first = are.0 in
    let others = listed ps (behind (length q.bytes) p) are.1 ok in
    let own : List (Result Part DerFault) = placed (p.at + length q.bytes) others.parts in
    record {
      parts = q.bytes ∷ others.parts;
      whole = first.whole ∙ ap (λ (x : List ℕ). q.bytes ++ x) others.whole;
      each = (some-element q.bytes first.tag first.body first.is, others.each);
      is = ap (λ (x : List (Result Part DerFault)). Ok q ∷ x) others.is ∙ ap (λ (at : ℕ). Ok (place at q.bytes) ∷ own) first.place;
    }
listed ((Err f) ∷ ps) p are ok = absurd (cc)

bytes-each : (parts : List (List ℕ)) → AllByRecursion IsSomeElement parts → AreBytes (concatenated parts) → AllByRecursion IsRead parts
bytes-each [] each are = tt
bytes-each (part ∷ parts) each are = (
  record { is = each.0; are = bytes-before part (concatenated parts) are },
  bytes-each parts each.1 (bytes-behind part (concatenated parts) are),
)

-- the parts of an element are elements of bytes
pub parts-each : (tag : ℕ) (parts : List (List ℕ)) (bytes : List ℕ) → IsMadeOf tag parts bytes → AreBytes bytes → AllByRecursion IsRead parts
parts-each tag parts bytes whole are = bytes-each parts whole.each (body-bytes bytes tag (concatenated parts) whole.is are)

-- ---- the elements in one that is read

pub record PartsSound (tag : ℕ) (p : Part) (ps : List (Result Part DerFault)) : Type 0 where
  pub parts : List (List ℕ)
  pub whole : IsMadeOf tag parts p.bytes
  pub is : ps ≡ placed (body_part p).at parts

pub all-sound : (tag : ℕ) (p : Part) → IsRead p.bytes → has_tag tag p ≡ true → all_read (parts_of p) ≡ Ok tt → PartsSound tag p (parts_of p)
all-sound tag p read same ok =
    let is = with-tag tag p.bytes read.is same in
    let l = listed (parts_of p) (body_part p) (parts-are (body_part p) (body-bytes p.bytes tag (body_of p.bytes) is read.are)) ok in
    record {
      parts = l.parts;
      whole = record { is = subst (λ (body : List ℕ). IsElement p.bytes tag body) l.whole is; each = l.each };
      is = l.is;
    }

pub parts-sound : (tag : ℕ) (p : Part) (ps : List (Result Part DerFault)) → IsRead p.bytes → parts_in tag p ≡ Ok ps → PartsSound tag p ps
parts-sound tag p ps read e =
    let a = stepped (tagged tag p) (λ (q : Part). all_read (parts_of q) >>= λ checked. Ok (parts_of q)) ps e in
    let c = if-ok (has_tag tag p) (Ok p) (fault Shape p.at) a.value a.before in
    let own : a.value ≡ p = (let same : Ok p ≡ Ok a.value = c.1 in cc) in
    let b = stepped (all_read (parts_of a.value)) (λ (checked : Unit {0}). Ok (parts_of a.value)) ps a.after in
    let read_all : all_read (parts_of p) ≡ Ok tt = ap (λ (q : Part). all_read (parts_of q)) (sym own) ∙ b.before in
    let same : parts_of p ≡ ps = (let x : Ok (parts_of a.value) ≡ Ok ps = b.after in ap parts_of (sym own) ∙ cc) in
    subst (PartsSound tag p) same (all-sound tag p read c.0 read_all)

pub record ShapeSound {A : Type 0} (shape : List (Result Part DerFault) → Option A) (tag : ℕ) (p : Part) (x : A) : Type 0 where
  pub at : ℕ
  pub parts : List (List ℕ)
  pub whole : IsMadeOf tag parts p.bytes
  pub each : AllByRecursion IsRead parts
  pub is : shape (placed at parts) ≡ Some x

pub shape-sound : {A : Type 0} (shape : List (Result Part DerFault) → Option A) (tag : ℕ) (p : Part) (x : A) → IsRead p.bytes → of_shape shape tag p ≡ Ok x → ShapeSound shape tag p x
shape-sound {A} shape tag p x read e =
    let a = stepped (parts_in tag p) (λ (ps : List (Result Part DerFault)). or_fault (fault Shape p.at) (shape ps)) x e in
    let m = parts-sound tag p a.value read a.before in
    record {
      at = (body_part p).at;
      parts = m.parts;
      whole = m.whole;
      each = parts-each tag m.parts p.bytes m.whole read.are;
      is = ap shape (sym m.is) ∙ or_fault-ok (fault Shape p.at) (shape a.value) x a.after;
    }

-- ---- an element that is made of elements is read as they are

pub elems : (parts : List (List ℕ)) → AllByRecursion IsSomeElement parts → AreElems parts
elems [] each = tt
elems (part ∷ parts) each =
    (record { tag = each.0.tag; body = each.0.body; is_tag = each.0.is.is_tag; is = each.0.is.spelled }, elems parts each.1)

pub parts-complete : (tag at : ℕ) (parts : List (List ℕ)) (bytes : List ℕ) → IsMadeOf tag parts bytes → parts_in tag (place at bytes) ≡ Ok (placed (after_head at tag (concatenated parts)) parts)
parts-complete tag at parts bytes whole =
    ap (λ (x : List ℕ). parts_in tag (place at x)) whole.is.spelled
    ∙ parts-read at tag parts whole.is.is_tag (elems parts whole.each)

pub shape-complete : {A : Type 0} (shape : List (Result Part DerFault) → Option A) (tag at : ℕ) (parts : List (List ℕ)) (bytes : List ℕ) → IsMadeOf tag parts bytes → of_shape shape tag (place at bytes) ≡ or_fault (fault Shape at) (shape (placed (after_head at tag (concatenated parts)) parts))
shape-complete shape tag at parts bytes whole =
    ap (λ (x : List ℕ). of_shape shape tag (place at x)) whole.is.spelled
    ∙ of_shape-is shape at tag parts whole.is.is_tag (elems parts whole.each)
