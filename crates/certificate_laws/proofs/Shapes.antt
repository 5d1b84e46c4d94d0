-- Of the elements of a certificate each fault that is reported is the first of all that is wrong with them.
use Rattle.std.proofs.Common.{◌≡◌, ℕ, refl, sym, ap, ◌∙◌, subst, inl, Bool, true, false, if◌then◌else◌, List, [], ◌∷◌, ◌++◌, Option, Some, is_some, Result, Ok, Err, bytes_eq}
use Rattle.mdoc_outside.specs.ResultSteps.{◌>>=◌, or_fault}
use Rattle.mdoc_outside.specs.OptionSteps.{◌>>=◌ as ◌>>?◌}
use Rattle.mdoc_outside.specs.ListSteps.{unless}
use Rattle.der_view.specs.declared.der_fault.DerFault.{DerFault}
use Rattle.der_view.specs.Parts.{Part, parts_of}
use Rattle.der_view.specs.Reading.{body_of}
use Rattle.key_device.specs.declared.point.Point.{Point}
use Rattle.cert_view.specs.declared.cert_check.CertCheck.TheVariants.{Der, Shape, VersionNot3, Algorithm, Time, KeyKind, Signature, Extension}
use Rattle.cert_view.specs.declared.cert_fault.CertFault.{CertFault}
use Rattle.cert_view.specs.Certificate as certificates
use Rattle.cert_view.specs.Extensions as read
use Rattle.cert_view.specs.Faults.{fault, both}
use Rattle.cert_view.specs.Shapes.{has_tag, tagged, all_read, parts_in, one, two, of_shape}
use Rattle.cert_view.specs.Signatures.{signature_of}
use Rattle.cert_view.specs.Tbs as tbs
use Rattle.cert_view.specs.Tbs.{ecdsa_with_sha256, one_or_two, point_under}
use Rattle.cert_view.specs.Times.{utc_time, generalized_time}
use Rattle.certificate_laws.specs.Faults.{then_faults, tag_faults, unread, faults_in, shape_faults, number_faults, version_faults, name_faults, algorithm_faults, time_faults, both_times, validity_faults, first_name, key_algorithm_faults, is_point, point_faults, key_faults, signature_faults, extension_faults}
use Rattle.certificate_laws.proofs.Firsts.{Reports, least-one, unless-reports, or_fault-reports, both-reports, then-reports, mapped-reports, in-reports}
use Rattle.certificate_laws.proofs.Steps.{stepped, or_fault-ok, both-ok, if-ok}

-- ---- elements

pub tag-ok : (tag : ℕ) (p q : Part) → tagged tag p ≡ Ok q → p ≡ q
tag-ok tag p q e =
    let f : CertFault = fault Shape p.at in
    let c = if-ok (has_tag tag p) (Ok p) f q e in
    let own : Ok p ≡ Ok q = c.1 in cc

pub tag-reports : (tag : ℕ) (p : Part) → Reports (tagged tag p) (tag_faults tag p)
tag-reports tag p = unless-reports (has_tag tag p) p (fault Shape p.at)

read-reports : (ps : List (Result Part DerFault)) → Reports (all_read ps) (unread ps)
read-reports [] = λ g i. i
read-reports ((Ok p) ∷ ps) = read-reports ps
read-reports ((Err found) ∷ ps) = least-one (fault Der found.at)

pub bind-assoc : {A B C E : Type 0} (r : Result A E) (f : A → Result B E) (g : B → Result C E) → (r >>= λ (x : A). f x >>= g) ≡ ((r >>= f) >>= g)
bind-assoc (Ok x) f g = refl
bind-assoc (Err e) f g = refl

pub parts-reports : {B : Type 0} (inside : List (Result Part DerFault) → Result B CertFault) (tag : ℕ) (p : Part) (gs : List CertFault) →
    (has_tag tag p ≡ true → all_read (parts_of p) ≡ Ok tt → Reports (inside (parts_of p)) gs) → Reports (parts_in tag p >>= inside) (then_faults (tag_faults tag p) (then_faults (unread (parts_of p)) gs))
parts-reports {B} inside tag p gs each = go (has_tag tag p) refl where
  by : (r : Result (Unit {0}) CertFault) (us : List CertFault) → Reports r us → (r ≡ Ok tt → Reports (inside (parts_of p)) gs) → Reports ((r >>= λ (u : Unit {0}). Ok (parts_of p)) >>= inside) (then_faults us gs)
  by (Ok u) [] t next = next refl
  by (Ok u) (f ∷ us) t next = absurd (t f (inl refl))
  by (Err f) [] t next = absurd t.among
  by (Err f) (g ∷ us) t next = t

  go : (b : Bool) → has_tag tag p ≡ b →
      Reports (((if b then Ok p else Err (fault Shape p.at)) >>= λ (q : Part). all_read (parts_of q) >>= λ (u : Unit {0}). Ok (parts_of q)) >>= inside) (then_faults (unless b (fault Shape p.at)) (then_faults (unread (parts_of p)) gs))
  go true is = by (all_read (parts_of p)) (unread (parts_of p)) (read-reports (parts_of p)) (each is)
  go false is = least-one (fault Shape p.at)

pub shape-reports : {A B : Type 0} (shape : List (Result Part DerFault) → Option A) (inside : A → Result B CertFault) (faults : A → List CertFault) (tag : ℕ) (p : Part) →
    ((x : A) → has_tag tag p ≡ true → all_read (parts_of p) ≡ Ok tt → shape (parts_of p) ≡ Some x → Reports (inside x) (faults x)) → Reports (of_shape shape tag p >>= inside) (shape_faults shape faults tag p)
shape-reports {A} {B} shape inside faults tag p each =
    let counted : List (Result Part DerFault) → Result A CertFault = λ ps. or_fault (fault Shape p.at) (shape ps) in
    let all : List CertFault = shape_faults shape faults tag p in
    subst (λ (r : Result B CertFault). Reports r all) (bind-assoc (parts_in tag p) counted inside)
    (parts-reports (λ (ps : List (Result Part DerFault)). counted ps >>= inside) tag p (faults_in (fault Shape p.at) faults (shape (parts_of p)))
    (λ is ok. in-reports (fault Shape p.at) (shape (parts_of p)) inside faults (λ x e. each x is ok e)))

shape-ok : {A : Type 0} (shape : List (Result Part DerFault) → Option A) (tag : ℕ) (p : Part) (x : A) → of_shape shape tag p ≡ Ok x → shape (parts_of p) ≡ Some x
shape-ok {A} shape tag p x e =
    let a = stepped (parts_in tag p) (λ (ps : List (Result Part DerFault)). or_fault (fault Shape p.at) (shape ps)) x e in
    let b = stepped (tagged tag p) (λ (q : Part). all_read (parts_of q) >>= λ (u : Unit {0}). Ok (parts_of q)) a.value a.before in
    let c = stepped (all_read (parts_of b.value)) (λ (u : Unit {0}). Ok (parts_of b.value)) a.value b.after in
    let own : parts_of b.value ≡ a.value = (let s : Ok (parts_of b.value) ≡ Ok a.value = c.after in cc) in
    let all : parts_of p ≡ a.value = ap parts_of (tag-ok tag p b.value b.before) ∙ own in
    ap shape all ∙ or_fault-ok (fault Shape p.at) (shape a.value) x a.after

-- ---- the parts

abbrev is_3 : Part → Result (Unit {0}) CertFault
is_3 number = if bytes_eq (body_of number.bytes) (2 ∷ []) then Ok tt else Err (fault VersionNot3 number.at)

number-reports : (p : Part) → Reports (tagged 0x02 p >>= is_3) (number_faults p)
number-reports p =
    let P : Part → Type 0 = λ q. Reports (is_3 q) (unless (bytes_eq (body_of p.bytes) (2 ∷ [])) (fault VersionNot3 p.at)) in
    then-reports (tagged 0x02 p) is_3 (tag_faults 0x02 p) (unless (bytes_eq (body_of p.bytes) (2 ∷ [])) (fault VersionNot3 p.at)) (tag-reports 0x02 p)
    (λ q e. subst P (tag-ok 0x02 p q e) (unless-reports (bytes_eq (body_of p.bytes) (2 ∷ [])) tt (fault VersionNot3 p.at)))

pub version-reports : (p : Part) → Reports (tbs.version p) (version_faults p)
version-reports p = shape-reports one (λ (inner : Part). tagged 0x02 inner >>= is_3) number_faults 0xa0 p (λ x is ok e. number-reports x)

abbrev is_ecdsa : ℕ → Part → Result (Unit {0}) CertFault
is_ecdsa at name = if bytes_eq (body_of name.bytes) ecdsa_with_sha256 then Ok tt else Err (fault Algorithm at)

name-reports : (at : ℕ) (p : Part) → Reports (tagged 0x06 p >>= is_ecdsa at) (name_faults at p)
name-reports at p =
    let P : Part → Type 0 = λ q. Reports (is_ecdsa at q) (unless (bytes_eq (body_of p.bytes) ecdsa_with_sha256) (fault Algorithm at)) in
    then-reports (tagged 0x06 p) (is_ecdsa at) (tag_faults 0x06 p) (unless (bytes_eq (body_of p.bytes) ecdsa_with_sha256) (fault Algorithm at)) (tag-reports 0x06 p)
    (λ q e. subst P (tag-ok 0x06 p q e) (unless-reports (bytes_eq (body_of p.bytes) ecdsa_with_sha256) tt (fault Algorithm at)))

pub algorithm-reports : (p : Part) → Reports (tbs.algorithm p) (algorithm_faults p)
algorithm-reports p = shape-reports one_or_two (λ (first : Part). tagged 0x06 first >>= is_ecdsa p.at) (name_faults p.at) 0x30 p (λ x is ok e. name-reports p.at x)

time-reports : (p : Part) → Reports (tbs.time p) (time_faults p)
time-reports p = go (has_tag 0x17 p) (has_tag 0x18 p) where
  go : (a b : Bool) → Reports (if a then or_fault (fault Time p.at) (utc_time (body_of p.bytes)) else if b then or_fault (fault Time p.at) (generalized_time (body_of p.bytes)) else Err (fault Shape p.at))
      (if a then unless (is_some (utc_time (body_of p.bytes))) (fault Time p.at) else if b then unless (is_some (generalized_time (body_of p.bytes))) (fault Time p.at) else fault Shape p.at ∷ [])
  go true b = or_fault-reports (fault Time p.at) (utc_time (body_of p.bytes))
  go false true = or_fault-reports (fault Time p.at) (generalized_time (body_of p.bytes))
  go false false = least-one (fault Shape p.at)

pub validity-reports : (p : Part) → Reports (tbs.validity p) (validity_faults p)
validity-reports p = shape-reports two (λ (x : Part × Part). both (tbs.time x.0) (tbs.time x.1)) both_times 0x30 p
    (λ x is ok e. both-reports (tbs.time x.0) (tbs.time x.1) (time_faults x.0) (time_faults x.1) (time-reports x.0) (time-reports x.1))

abbrev named : Part × Part → Part → Result (Part × Part) CertFault
named x name = Ok (name, x.1)

key_algorithm-reports : (p : Part) → Reports (tbs.key_algorithm p) (key_algorithm_faults p)
key_algorithm-reports p = shape-reports two (λ (x : Part × Part). tagged 0x06 x.0 >>= named x) first_name 0x30 p
    (λ x is ok e. mapped-reports (tagged 0x06 x.0) (λ (name : Part). (name, x.1)) (tag_faults 0x06 x.0) (tag-reports 0x06 x.0))

key_algorithm-ok : (p : Part) (y : Part × Part) → tbs.key_algorithm p ≡ Ok y → two (parts_of p) ≡ Some y
key_algorithm-ok p y e =
    let a = stepped (of_shape two 0x30 p) (λ (x : Part × Part). tagged 0x06 x.0 >>= named x) y e in
    let b = stepped (tagged 0x06 a.value.0) (named a.value) y a.after in
    let name : (a.value.0, a.value.1) ≡ (b.value, a.value.1) = ap (λ (q : Part). (q, a.value.1)) (tag-ok 0x06 a.value.0 b.value b.before) in
    let pair : (b.value, a.value.1) ≡ y = (let s : named a.value b.value ≡ Ok y = b.after in cc) in
    shape-ok two 0x30 p a.value a.before ∙ ap (λ (z : Part × Part). Some z) name ∙ ap (λ (z : Part × Part). Some z) pair

point-reports : (at : ℕ) (x : Part × Part) → Reports (both (tbs.key_algorithm x.0) (tagged 0x03 x.1) >>= λ (y : (Part × Part) × Part). or_fault (fault KeyKind at) (point_under y.0 y.1)) (point_faults at x)
point-reports at x =
    let r = both (tbs.key_algorithm x.0) (tagged 0x03 x.1) in
    let f : CertFault = fault KeyKind at in
    then-reports r (λ (y : (Part × Part) × Part). or_fault f (point_under y.0 y.1)) (key_algorithm_faults x.0 ++ tag_faults 0x03 x.1) (unless (is_point x) f)
    (both-reports (tbs.key_algorithm x.0) (tagged 0x03 x.1) (key_algorithm_faults x.0) (tag_faults 0x03 x.1) (key_algorithm-reports x.0) (tag-reports 0x03 x.1))
    (λ y e.
    let b = both-ok (tbs.key_algorithm x.0) (tagged 0x03 x.1) y e in
    let first : (two (parts_of x.0) >>? λ (z : Part × Part). point_under z x.1) ≡ point_under y.0 x.1 = ap (λ (o : Option (Part × Part)). o >>? λ (z : Part × Part). point_under z x.1) (key_algorithm-ok x.0 y.0 b.first) in
    let last : (two (parts_of x.0) >>? λ (z : Part × Part). point_under z x.1) ≡ point_under y.0 y.1 = first ∙ ap (point_under y.0) (tag-ok 0x03 x.1 y.1 b.second) in
    subst (λ (o : Option Point). Reports (or_fault f (point_under y.0 y.1)) (unless (is_some o) f)) (sym last) (or_fault-reports f (point_under y.0 y.1)))

pub key-reports : (p : Part) → Reports (tbs.public_key p) (key_faults p)
key-reports p = shape-reports two (λ (x : Part × Part). both (tbs.key_algorithm x.0) (tagged 0x03 x.1) >>= λ (y : (Part × Part) × Part). or_fault (fault KeyKind p.at) (point_under y.0 y.1)) (point_faults p.at) 0x30 p (λ x is ok e. point-reports p.at x)

pub signature-reports : (p : Part) → Reports (certificates.signature p) (signature_faults p)
signature-reports p =
    let own : Part → Result (List ℕ) CertFault = λ bits. or_fault (fault Signature bits.at) (signature_of (body_of bits.bytes)) in
    let gs : List CertFault = unless (is_some (signature_of (body_of p.bytes))) (fault Signature p.at) in
    then-reports (tagged 0x03 p) own (tag_faults 0x03 p) gs (tag-reports 0x03 p)
    (λ q e. subst (λ (x : Part). Reports (own x) gs) (tag-ok 0x03 p q e) (or_fault-reports (fault Signature p.at) (signature_of (body_of p.bytes))))

pub extension-reports : (p : Part) → Reports (read.extension p) (extension_faults p)
extension-reports p = go (has_tag 0x30 p) where
  go : (b : Bool) → Reports (if b then (all_read (parts_of p) >>= λ (u : Unit {0}). or_fault (fault Extension p.at) (read.said_by_parts (parts_of p))) else Err (fault Extension p.at))
      (then_faults (unless b (fault Extension p.at)) (then_faults (unread (parts_of p)) (unless (is_some (read.said_by_parts (parts_of p))) (fault Extension p.at))))
  go true = then-reports (all_read (parts_of p)) (λ (u : Unit {0}). or_fault (fault Extension p.at) (read.said_by_parts (parts_of p))) (unread (parts_of p)) (unless (is_some (read.said_by_parts (parts_of p))) (fault Extension p.at)) (read-reports (parts_of p)) (λ u e. or_fault-reports (fault Extension p.at) (read.said_by_parts (parts_of p)))
  go false = least-one (fault Extension p.at)
