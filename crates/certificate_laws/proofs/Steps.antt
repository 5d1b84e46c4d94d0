-- What came before a step that gave a value.
use Rattle.std.proofs.Common.{◌≡◌, refl, ap, Bool, true, false, if◌then◌else◌, List, ℕ, Option, Some, None, Result, Ok, Err, bytes_eq}
use Rattle.std.proofs.lemmas.Slice.Eq.{bytes_eq-Decides}
use Rattle.mdoc_outside.specs.ResultSteps.{◌>>=◌, or_fault}
use Rattle.mdoc_outside.specs.OptionSteps.{◌>>=◌ as ◌>>?◌}
use Rattle.cert_view.specs.declared.cert_fault.CertFault.{CertFault}
use Rattle.cert_view.specs.Faults.{both}

pub record Stepped {A B E : Type 0} (r : Result A E) (step : A → Result B E) (y : B) : Type 0 where
  pub value : A
  pub before : r ≡ Ok value
  pub after : step value ≡ Ok y

pub stepped : {A B E : Type 0} (r : Result A E) (step : A → Result B E) (y : B) → (r >>= step) ≡ Ok y → Stepped r step y
stepped (Ok value) step y e = record { value = value; before = refl; after = e }
stepped (Err fault) step y e = absurd (cc)

pub record Chosen {A B : Type 0} (o : Option A) (step : A → Option B) (y : B) : Type 0 where
  pub value : A
  pub before : o ≡ Some value
  pub after : step value ≡ Some y

pub chosen : {A B : Type 0} (o : Option A) (step : A → Option B) (y : B) → (o >>? step) ≡ Some y → Chosen o step y
chosen (Some value) step y e = record { value = value; before = refl; after = e }
chosen None step y e = absurd (cc)

pub or_fault-ok : {A E : Type 0} (fault : E) (o : Option A) (x : A) → or_fault fault o ≡ Ok x → o ≡ Some x
or_fault-ok fault (Some value) x e = cc
or_fault-ok fault None x e = absurd (cc)

pub record Both {A B : Type 0} (r : Result A CertFault) (s : Result B CertFault) (y : A × B) : Type 0 where
  pub first : r ≡ Ok y.0
  pub second : s ≡ Ok y.1

pub both-ok : {A B : Type 0} (r : Result A CertFault) (s : Result B CertFault) (y : A × B) → both r s ≡ Ok y → Both r s y
both-ok {A} {B} (Ok a) (Ok b) y e =
    let same : (a, b) ≡ y = cc in
    let f : A × B → Result A CertFault = λ z. Ok z.0 in
    let g : A × B → Result B CertFault = λ z. Ok z.1 in
    record { first = ap f same; second = ap g same }
both-ok (Ok a) (Err fault) y e = absurd (cc)
both-ok (Err fault) (Ok b) y e = absurd (cc)
both-ok (Err first) (Err second) y e = absurd (cc)

pub if-ok : {A E : Type 0} (b : Bool) (x : Result A E) (fault : E) (y : A) → (if b then x else Err fault) ≡ Ok y → (b ≡ true) × (x ≡ Ok y)
if-ok true x fault y e = (refl, e)
if-ok false x fault y e = absurd (cc)

pub if-some : {A : Type 0} (b : Bool) (o : Option A) (y : A) → (if b then o else None) ≡ Some y → (b ≡ true) × (o ≡ Some y)
if-some true o y e = (refl, e)
if-some false o y e = absurd (cc)

abbrev pub taken : {A : Type 0} → A → Result A CertFault
taken x = Ok x

pub ok-same : {A : Type 0} (x y : A) → taken x ≡ taken y → x ≡ y
ok-same x y e = cc

pub bytes-same : (xs ys : List ℕ) → bytes_eq xs ys ≡ true → xs ≡ ys
bytes-same xs ys e = (bytes_eq-Decides xs ys).0 e

pub same-bytes : (xs ys : List ℕ) → xs ≡ ys → bytes_eq xs ys ≡ true
same-bytes xs ys e = (bytes_eq-Decides xs ys).1 e
