-- The fault of a certificate that is reported is the first of all that is wrong with it.
use Rattle.std.proofs.Common.{◌≡◌, ◌↔◌, ℕ, refl, sym, ap, ◌∙◌, subst, inl, inr, Bool, true, ℤ, List, [], ◌∷◌, ◌++◌, append_assoc, Option, Some, None, Result, Ok, Err}
use Rattle.std.specs.List.{AllByRecursion}
use Rattle.mdoc_outside.specs.ResultSteps.{◌>>=◌, or_fault}
use Rattle.der_view.specs.declared.der_fault.DerFault.{DerFault}
use Rattle.der_view.specs.Element as elements
use Rattle.der_view.specs.Parts.{Part, body_part, der, parts_of}
use Rattle.der_view.proofs.Lengths.{AreBytes}
use Rattle.key_device.specs.declared.point.Point.{Point}
use Rattle.cert_view.specs.declared.cert_check.CertCheck.TheVariants.{Der, Shape}
use Rattle.cert_view.specs.declared.cert_fault.CertFault.{CertFault}
use Rattle.cert_view.specs.Certificate as certificates
use Rattle.cert_view.specs.Certificate.{Fields, certificate, fields_in}
use Rattle.cert_view.specs.Extensions.{after_optional, with_extensions}
use Rattle.cert_view.specs.Faults.{fault, both}
use Rattle.cert_view.specs.Shapes.{has_tag, tagged, all_read, as_element, one, three, of_shape}
use Rattle.cert_view.specs.Tbs as tbs
use Rattle.cert_view.specs.Tbs.{Tbs, Layout, layout}
use Rattle.cert_view.proofs.WrittenParts.{placed}
use Rattle.certificate_laws.specs.Faults.{tag_faults, version_faults, algorithm_faults, validity_faults, key_faults, signature_faults, faults_in, list_faults, read_parts, in_list, tagged_faults, extensions_faults, layout_faults, tbs_faults, three_faults, element_faults, certificate_faults, IsFirst}
use Rattle.certificate_laws.specs.IsCertificate.{IsSomeCertificate}
use Rattle.certificate_laws.proofs.Counts.{one-is, three-is}
use Rattle.certificate_laws.proofs.Firsts.{In, in-left, in-right, in-cases, Reports, least-one, reports-same, both-reports, mapped-reports, in-reports, least-first, first-least}
use Rattle.certificate_laws.proofs.Made.{IsRead, all-sound, parts-each, der-sound}
use Rattle.certificate_laws.proofs.Rows.{list-reports}
use Rattle.certificate_laws.proofs.Shapes.{tag-reports, parts-reports, shape-reports, version-reports, algorithm-reports, validity-reports, key-reports, signature-reports}
use Rattle.certificate_laws.proofs.Tbs.{last_of, layout-sound, listed_in, tagged_in}
use Rattle.certificate_laws.proofs.Whole.{certificate-sound, certificate-complete}

-- ---- the extensions

-- the parts of an element that is looked into are elements of bytes
record Row (ps : List (Result Part DerFault)) : Type 0 where
  at : ℕ
  parts : List (List ℕ)
  is : ps ≡ placed at parts
  each : AllByRecursion IsRead parts

row-of : (tag : ℕ) (p : Part) → IsRead p.bytes → has_tag tag p ≡ true → all_read (parts_of p) ≡ Ok tt → Row (parts_of p)
row-of tag p read is ok =
    let m = all-sound tag p read is ok in
    record { at = (body_part p).at; parts = m.parts; is = m.is; each = parts-each tag m.parts p.bytes m.whole read.are }

one-read : (ps : List (Result Part DerFault)) (q : Part) → Row ps → one ps ≡ Some q → IsRead q.bytes
one-read ps q row e = (subst (AllByRecursion IsRead) (one-is row.at row.parts q (ap one (sym row.is) ∙ e)) row.each).0

listed-reports : (list : Part) → IsRead list.bytes → Reports (listed_in list) (in_list list)
listed-reports list read = parts-reports (with_extensions (Ok None)) 0x30 list (list_faults (read_parts (parts_of list)))
    (λ is ok.
    let row = row-of 0x30 list read is ok in
    subst (λ (ps : List (Result Part DerFault)). Reports (with_extensions (Ok None) ps) (list_faults (read_parts ps))) (sym row.is) (list-reports row.at row.parts))

tagged-reports : (last : Part) → IsRead last.bytes → Reports (tagged_in last) (tagged_faults last)
tagged-reports last read = shape-reports one listed_in in_list 0xa3 last
    (λ list is ok e. listed-reports list (one-read (parts_of last) list (row-of 0xa3 last read is ok) e))

extensions-reports : (last : Option Part) → AllByRecursion IsRead (last_of last) → Reports (tbs.extensions last) (extensions_faults last)
extensions-reports None each = λ g i. i
extensions-reports (Some last) each = tagged-reports last each.0

-- ---- the to-be-signed part

to-order : (v n a i t s k x : List CertFault) (g : CertFault) → In g ((i ++ s) ++ (((v ++ n) ++ a) ++ (t ++ (k ++ x)))) → In g (((((((v ++ n) ++ a) ++ i) ++ t) ++ s) ++ k) ++ x)
to-order v n a i t s k x g h = elim (in-cases g (i ++ s) (((v ++ n) ++ a) ++ (t ++ (k ++ x))) h) [
  | inl h1 ↦ elim (in-cases g i s h1) [
    | inl h2 ↦ in-left g ((((((v ++ n) ++ a) ++ i) ++ t) ++ s) ++ k) x (in-left g (((((v ++ n) ++ a) ++ i) ++ t) ++ s) k (in-left g ((((v ++ n) ++ a) ++ i) ++ t) s (in-left g (((v ++ n) ++ a) ++ i) t (in-right g ((v ++ n) ++ a) i h2))))
    | inr h2 ↦ in-left g ((((((v ++ n) ++ a) ++ i) ++ t) ++ s) ++ k) x (in-left g (((((v ++ n) ++ a) ++ i) ++ t) ++ s) k (in-right g ((((v ++ n) ++ a) ++ i) ++ t) s h2))
  ]
  | inr h1 ↦ elim (in-cases g ((v ++ n) ++ a) (t ++ (k ++ x)) h1) [
    | inl h3 ↦ elim (in-cases g (v ++ n) a h3) [
      | inl h4 ↦ elim (in-cases g v n h4) [
        | inl h5 ↦ in-left g ((((((v ++ n) ++ a) ++ i) ++ t) ++ s) ++ k) x (in-left g (((((v ++ n) ++ a) ++ i) ++ t) ++ s) k (in-left g ((((v ++ n) ++ a) ++ i) ++ t) s (in-left g (((v ++ n) ++ a) ++ i) t (in-left g ((v ++ n) ++ a) i (in-left g (v ++ n) a (in-left g v n h5))))))
        | inr h5 ↦ in-left g ((((((v ++ n) ++ a) ++ i) ++ t) ++ s) ++ k) x (in-left g (((((v ++ n) ++ a) ++ i) ++ t) ++ s) k (in-left g ((((v ++ n) ++ a) ++ i) ++ t) s (in-left g (((v ++ n) ++ a) ++ i) t (in-left g ((v ++ n) ++ a) i (in-left g (v ++ n) a (in-right g v n h5))))))
      ]
      | inr h4 ↦ in-left g ((((((v ++ n) ++ a) ++ i) ++ t) ++ s) ++ k) x (in-left g (((((v ++ n) ++ a) ++ i) ++ t) ++ s) k (in-left g ((((v ++ n) ++ a) ++ i) ++ t) s (in-left g (((v ++ n) ++ a) ++ i) t (in-left g ((v ++ n) ++ a) i (in-right g (v ++ n) a h4)))))
    ]
    | inr h3 ↦ elim (in-cases g t (k ++ x) h3) [
      | inl h6 ↦ in-left g ((((((v ++ n) ++ a) ++ i) ++ t) ++ s) ++ k) x (in-left g (((((v ++ n) ++ a) ++ i) ++ t) ++ s) k (in-left g ((((v ++ n) ++ a) ++ i) ++ t) s (in-right g (((v ++ n) ++ a) ++ i) t h6)))
      | inr h6 ↦ elim (in-cases g k x h6) [
        | inl h7 ↦ in-left g ((((((v ++ n) ++ a) ++ i) ++ t) ++ s) ++ k) x (in-right g (((((v ++ n) ++ a) ++ i) ++ t) ++ s) k h7)
        | inr h7 ↦ in-right g ((((((v ++ n) ++ a) ++ i) ++ t) ++ s) ++ k) x h7
      ]
    ]
  ]
]

from-order : (v n a i t s k x : List CertFault) (g : CertFault) → In g (((((((v ++ n) ++ a) ++ i) ++ t) ++ s) ++ k) ++ x) → In g ((i ++ s) ++ (((v ++ n) ++ a) ++ (t ++ (k ++ x))))
from-order v n a i t s k x g h = elim (in-cases g ((((((v ++ n) ++ a) ++ i) ++ t) ++ s) ++ k) x h) [
  | inl h1 ↦ elim (in-cases g (((((v ++ n) ++ a) ++ i) ++ t) ++ s) k h1) [
    | inl h2 ↦ elim (in-cases g ((((v ++ n) ++ a) ++ i) ++ t) s h2) [
      | inl h3 ↦ elim (in-cases g (((v ++ n) ++ a) ++ i) t h3) [
        | inl h4 ↦ elim (in-cases g ((v ++ n) ++ a) i h4) [
          | inl h5 ↦ elim (in-cases g (v ++ n) a h5) [
            | inl h6 ↦ elim (in-cases g v n h6) [
              | inl h7 ↦ in-right g (i ++ s) (((v ++ n) ++ a) ++ (t ++ (k ++ x))) (in-left g ((v ++ n) ++ a) (t ++ (k ++ x)) (in-left g (v ++ n) a (in-left g v n h7)))
              | inr h7 ↦ in-right g (i ++ s) (((v ++ n) ++ a) ++ (t ++ (k ++ x))) (in-left g ((v ++ n) ++ a) (t ++ (k ++ x)) (in-left g (v ++ n) a (in-right g v n h7)))
            ]
            | inr h6 ↦ in-right g (i ++ s) (((v ++ n) ++ a) ++ (t ++ (k ++ x))) (in-left g ((v ++ n) ++ a) (t ++ (k ++ x)) (in-right g (v ++ n) a h6))
          ]
          | inr h5 ↦ in-left g (i ++ s) (((v ++ n) ++ a) ++ (t ++ (k ++ x))) (in-left g i s h5)
        ]
        | inr h4 ↦ in-right g (i ++ s) (((v ++ n) ++ a) ++ (t ++ (k ++ x))) (in-right g ((v ++ n) ++ a) (t ++ (k ++ x)) (in-left g t (k ++ x) h4))
      ]
      | inr h3 ↦ in-left g (i ++ s) (((v ++ n) ++ a) ++ (t ++ (k ++ x))) (in-right g i s h3)
    ]
    | inr h2 ↦ in-right g (i ++ s) (((v ++ n) ++ a) ++ (t ++ (k ++ x))) (in-right g ((v ++ n) ++ a) (t ++ (k ++ x)) (in-right g t (k ++ x) (in-left g k x h2)))
  ]
  | inr h1 ↦ in-right g (i ++ s) (((v ++ n) ++ a) ++ (t ++ (k ++ x))) (in-right g ((v ++ n) ++ a) (t ++ (k ++ x)) (in-right g t (k ++ x) (in-right g k x h1)))
]

abbrev Values : Type 0
Values = (Part × Part) × ((Unit {0} × Unit {0}) × ((ℤ × ℤ) × (Point × Option Bool)))

contents-reports : (l : Layout) → Reports (tbs.extensions l.extensions) (extensions_faults l.extensions) → Reports (tbs.contents l) (layout_faults l)
contents-reports l ext =
    let v = version_faults l.version in
    let n = tag_faults 0x02 l.serial in
    let a = algorithm_faults l.algorithm in
    let i = tag_faults 0x30 l.issuer in
    let t = validity_faults l.validity in
    let s = tag_faults 0x30 l.subject in
    let k = key_faults l.key in
    let x = extensions_faults l.extensions in
    let names : Reports (tbs.names l) (i ++ s) = both-reports (tagged 0x30 l.issuer) (tagged 0x30 l.subject) i s (tag-reports 0x30 l.issuer) (tag-reports 0x30 l.subject) in
    let checked = both (tbs.version l.version) (tagged 0x02 l.serial) in
    let numbering : Reports (tbs.numbering l) (v ++ n) = mapped-reports checked (λ (y : Unit {0} × Part). tt) (v ++ n) (both-reports (tbs.version l.version) (tagged 0x02 l.serial) v n (version-reports l.version) (tag-reports 0x02 l.serial)) in
    let heading : Reports (tbs.heading l) (v ++ n ++ a) = both-reports (tbs.numbering l) (tbs.algorithm l.algorithm) (v ++ n) a numbering (algorithm-reports l.algorithm) in
    let inner : Reports (both (tbs.public_key l.key) (tbs.extensions l.extensions)) (k ++ x) = both-reports (tbs.public_key l.key) (tbs.extensions l.extensions) k x (key-reports l.key) ext in
    let values : Reports (tbs.values l) (t ++ (k ++ x)) = both-reports (tbs.validity l.validity) (both (tbs.public_key l.key) (tbs.extensions l.extensions)) t (k ++ x) (validity-reports l.validity) inner in
    let others : Reports (both (tbs.heading l) (tbs.values l)) ((v ++ n ++ a) ++ (t ++ (k ++ x))) = both-reports (tbs.heading l) (tbs.values l) (v ++ n ++ a) (t ++ (k ++ x)) heading values in
    let all : Reports (both (tbs.names l) (both (tbs.heading l) (tbs.values l))) ((i ++ s) ++ ((v ++ n ++ a) ++ (t ++ (k ++ x)))) = both-reports (tbs.names l) (both (tbs.heading l) (tbs.values l)) (i ++ s) ((v ++ n ++ a) ++ (t ++ (k ++ x))) names others in
    let whole : Reports (tbs.contents l) ((i ++ s) ++ ((v ++ n ++ a) ++ (t ++ (k ++ x)))) = mapped-reports (both (tbs.names l) (both (tbs.heading l) (tbs.values l))) (λ (y : Values). tbs.tbs_of y.0 y.1.1.0 y.1.1.1.0 y.1.1.1.1) ((i ++ s) ++ ((v ++ n ++ a) ++ (t ++ (k ++ x)))) all in
    reports-same (tbs.contents l) ((i ++ s) ++ ((v ++ n ++ a) ++ (t ++ (k ++ x)))) (layout_faults l) (to-order v n a i t s k x) (from-order v n a i t s k x) whole

pub tbs-reports : (p : Part) → IsRead p.bytes → Reports (tbs.to_be_signed p) (tbs_faults p)
tbs-reports p read =
    shape-reports layout tbs.contents layout_faults 0x30 p
    (λ l is ok e.
    let row = row-of 0x30 p read is ok in
    let w = layout-sound row.at row.parts l row.each (ap layout (sym row.is) ∙ e) in
    contents-reports l (extensions-reports l.extensions w.last))

-- ---- the whole

abbrev fields_with : List ℕ → Tbs × (Unit {0} × List ℕ) → Fields
fields_with message y = record { tbs = y.0; message = message; signature = y.1.1 }

fields-reports : (x : Part × Part × Part) → IsRead x.0.bytes → Reports (fields_in x) (three_faults x)
fields-reports x read =
    let t = tbs_faults x.0 in
    let a = algorithm_faults x.1 in
    let s = signature_faults x.2 in
    let marks = both (tbs.algorithm x.1) (certificates.signature x.2) in
    let all : Reports (both (tbs.to_be_signed x.0) marks) (t ++ (a ++ s)) =
    both-reports (tbs.to_be_signed x.0) marks t (a ++ s) (tbs-reports x.0 read) (both-reports (tbs.algorithm x.1) (certificates.signature x.2) a s (algorithm-reports x.1) (signature-reports x.2)) in
    let whole : Reports (fields_in x) (t ++ (a ++ s)) = mapped-reports (both (tbs.to_be_signed x.0) marks) (fields_with x.0.bytes) (t ++ (a ++ s)) all in
    subst (Reports (fields_in x)) (sym (append_assoc t a s)) whole

certificate-reports : (bytes : List ℕ) → AreBytes bytes → Reports (certificate bytes) (certificate_faults bytes)
unfolding certificate certificate_faults
certificate-reports bytes are = go (der bytes) refl where
  go : (r : Result Part DerFault) → der bytes ≡ r → Reports (as_element r >>= λ (p : Part). of_shape three 0x30 p >>= fields_in) (element_faults r)
  go (Err found) is = least-one (fault Der found.at)
  go (Ok p) is =
      let d = der-sound bytes p are is in
      let own : p.bytes ≡ bytes = ap (λ (q : Part). q.bytes) d.same in
      let read : IsRead p.bytes = subst IsRead (sym own) (record { is = d.is; are = are }) in
      shape-reports three fields_in three_faults 0x30 p
      (λ x tag ok e.
      let row = row-of 0x30 p read tag ok in
      let each = subst (AllByRecursion IsRead) (three-is row.at row.parts x (ap three (sym row.is) ∙ e)) row.each in
      fields-reports x each.0)

-- ---- the laws

least-of : (r : Result Fields CertFault) (f : CertFault) (fs : List CertFault) → Reports r fs → r ≡ Err f → IsFirst f fs
least-of r f fs t e = least-first f fs (subst (λ (s : Result Fields CertFault). Reports s fs) e t)

pub first-fault : (bytes : List ℕ) (f : CertFault) → elements.AreBytes bytes → (certificate bytes ≡ Err f) ↔ IsFirst f (certificate_faults bytes)
first-fault bytes f are =
    let t = certificate-reports bytes (record { each = are }) in
    (least-of (certificate bytes) f (certificate_faults bytes) t, first-least (certificate bytes) f (certificate_faults bytes) t)

pub none-left : (fs : List CertFault) → ((g : CertFault) → In g fs → ⊥) → fs ≡ []
none-left [] none = refl
none-left (f ∷ fs) none = absurd (none f (inl refl))

read-where-none : (r : Result Fields CertFault) (fs : List CertFault) → Reports r fs → fs ≡ [] → (fields : Fields) × (r ≡ Ok fields)
read-where-none (Ok x) fs t e = (x, refl)
read-where-none (Err f) fs t e = absurd (subst (In f) e t.among)

none-where-read : (r : Result Fields CertFault) (fs : List CertFault) (fields : Fields) → Reports r fs → r ≡ Ok fields → fs ≡ []
none-where-read (Ok x) fs fields t e = none-left fs t
none-where-read (Err f) fs fields t e = absurd (cc)

pub faultless : (bytes : List ℕ) → elements.AreBytes bytes → (certificate_faults bytes ≡ []) ↔ IsSomeCertificate bytes
faultless bytes are =
    let own : AreBytes bytes = record { each = are } in
    let t = certificate-reports bytes own in (
      λ none. (let r = read-where-none (certificate bytes) (certificate_faults bytes) t none in record { fields = r.0; is = certificate-sound bytes r.0 own r.1 }),
      λ some_one. none-where-read (certificate bytes) (certificate_faults bytes) some_one.fields t (certificate-complete bytes some_one.fields own some_one.is),
    )
