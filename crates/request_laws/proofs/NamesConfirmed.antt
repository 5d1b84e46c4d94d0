-- What the name of a reader rests on.
use Rattle.std.proofs.Common.{◌≡◌, ℕ, zero, suc, ℤ, List, [], ◌∷◌, ◌++◌, Bool, true, false, if◌then◌else◌, Option, Some, None, Result, Ok, Err, refl, sym, ap, subst, arith}
use Rattle.std.specs.Prelude.{Any, Contains}
use Rattle.std.specs.Str.{bytes_eq}
use Rattle.std.proofs.lemmas.Bool.{and_parts}
use Rattle.cert_view.specs.Certificate.{Fields, certificate}
use Rattle.cert_view.specs.Root.{listed}
use Rattle.cert_view.specs.declared.cert_fault.CertFault.{CertFault}
use Rattle.cert_view.specs.declared.root.Root.{Root}
use Rattle.cose_msgs.specs.Structures.{signed_structure}
use Rattle.cose_msgs.specs.Transcript.{reader_payload}
use Rattle.doc_request.specs.Asked.{Document}
use Rattle.doc_request.specs.Known.{Authentication, authentication_of, known, known_as, known_by, known_under, name_if, reader_signed, signed_under, under_root}
use Rattle.root_trust.specs.Validity.{are_valid, is_valid, root_is_valid}
use Rattle.key_device.specs.Questions.{by_verify, verified}
use Rattle.root_trust.specs.Confirming.{confirmed_by, confirming_root, root_confirms}
use Rattle.key_device.specs.Plan.{Plan, Done, Then, Other, Draw, bind, Walks}
use Rattle.key_device.specs.PlanSteps.{unless_fault, ◌>>=◌, first_yes, unless_yes}
use Rattle.key_device.specs.declared.ask.Ask.TheVariants.{Verify}
use Rattle.key_device.specs.declared.device_fault.DeviceFault.{DeviceFault}
use Rattle.key_device.specs.declared.exchange.Exchange.{Exchange}
use Rattle.key_device.specs.declared.point.Point.{Point}
use Rattle.key_device.specs.declared.told.Told.{Told}
use Rattle.key_device.specs.declared.told.Told.TheVariants as tells
use Rattle.key_device.specs.declared.device_fault.DeviceFault.TheVariants.{Failed}
use Rattle.request_laws.specs.Confirmed.{AreNamesConfirmed, Confirms, IsConfirmed}

-- ---- walks in parts

record Parted {A B : Type 0} (p : Plan A) (f : A → Plan B) (es : List Exchange) (b : B) : Type 0 where
  middle : A
  front : List Exchange
  back : List Exchange
  joined : es ≡ front ++ back
  before : Walks p front [] [] middle
  after : Walks (f middle) back [] [] b

parted : {A B : Type 0} (p : Plan A) (f : A → Plan B) (es : List Exchange) (b : B) → Walks (bind p f) es [] [] b → Parted p f es b
parted (Done a) f es b walk = record { middle = a; front = []; back = es; joined = refl; before = refl; after = walk }
parted (Then ask next) f [] b walk = absurd walk
parted (Then ask next) f (e ∷ es) b walk =
    let rest = parted (next e.told) f es b walk.1 in
    record { middle = rest.middle; front = e ∷ rest.front; back = rest.back; joined = ap (λ (xs : List Exchange). e ∷ xs) rest.joined; before = (walk.0, rest.before); after = rest.after }
parted (Other ask next) f es b walk = absurd walk
parted (Draw next) f es b walk = absurd walk

abbrev Step : Type 0 → Type 0
Step A = Plan (Result A DeviceFault)

record Stepped {A B : Type 0} (p : Step A) (f : A → Step B) (es : List Exchange) (b : B) : Type 0 where
  value : A
  front : List Exchange
  back : List Exchange
  joined : es ≡ front ++ back
  before : Walks p front [] [] (Ok value)
  after : Walks (f value) back [] [] (Ok b)

of_middle : {A B : Type 0} (p : Step A) (f : A → Step B) (es front back : List Exchange) (b : B) (middle : Result A DeviceFault)
    → es ≡ front ++ back → Walks p front [] [] middle → Walks (unless_fault f middle) back [] [] (Ok b) → Stepped p f es b
of_middle p f es front back b (Ok a) joined before after = record { value = a; front = front; back = back; joined = joined; before = before; after = after }
of_middle p f es front [] b (Err fault) joined before after = cc
of_middle p f es front (e ∷ back) b (Err fault) joined before after = absurd after

stepped : {A B : Type 0} (p : Step A) (f : A → Step B) (es : List Exchange) (b : B) → Walks (p >>= f) es [] [] (Ok b) → Stepped p f es b
stepped p f es b walk =
    let parts = parted p (unless_fault f) es (Ok b) walk in
    of_middle p f es parts.front parts.back b parts.middle parts.joined parts.before parts.after

-- an outcome without a question
abbrev done : (A : Type 0) → A → Step A
done A a = Done (Ok a)

-- ---- what a talk holds

here : {A : Type 0} (P : A → Type 0) (x : A) (xs : List A) → P x → Any P (x ∷ xs)
here P x xs p = (0, x, omega arith, refl, p)

later : {A : Type 0} (P : A → Type 0) (x : A) (xs : List A) → Any P xs → Any P (x ∷ xs)
later P x xs (k, y, h, e, p) = (suc k, y, omega arith, e, p)

in_back : {A : Type 0} (P : A → Type 0) (front back : List A) → Any P back → Any P (front ++ back)
in_back P [] back some = some
in_back P (x ∷ front) back some = later P x (front ++ back) (in_back P front back some)

in_front : {A : Type 0} (P : A → Type 0) (front back : List A) → Any P front → Any P (front ++ back)
in_front P [] back (k, y, h, e, p) = absurd (omega arith)
in_front P (x ∷ front) back (zero, y, h, e, p) = (0, y, omega arith, e, p)
in_front P (x ∷ front) back (suc k, y, h, e, p) = later P x (front ++ back) (in_front P front back (k, y, omega arith, e, p))

from_front : {A : Type 0} (P : A → Type 0) (es front back : List A) → es ≡ front ++ back → Any P front → Any P es
from_front P es front back joined some = subst (Any P) (sym joined) (in_front P front back some)

from_back : {A : Type 0} (P : A → Type 0) (es front back : List A) → es ≡ front ++ back → Any P back → Any P es
from_back P es front back joined some = subst (Any P) (sym joined) (in_back P front back some)

-- a signature that is confirmed
yes_of : (told : Told) → by_verify Failed told ≡ Ok true → told ≡ tells.Yes
yes_of (tells.Made made) is = cc
yes_of (tells.Secret secret) is = cc
yes_of tells.Refused is = cc
yes_of (tells.Signature pair) is = cc
yes_of tells.Yes is = refl
yes_of tells.No is = cc
yes_of tells.Failed is = cc

abbrev IsYes : Point → List ℕ → List ℕ → Exchange → Type 0
IsYes key message signature e = (e.ask ≡ Verify key message signature) × (e.told ≡ tells.Yes)

confirmed : (key : Point) (message signature : List ℕ) (es : List Exchange) → Walks (verified Failed key message signature) es [] [] (Ok true) → Confirms es key message signature
confirmed key message signature [] walk = absurd walk
confirmed key message signature (e ∷ []) walk = here (IsYes key message signature) e [] (walk.0, yes_of e.told (sym walk.1))
confirmed key message signature (e ∷ (next ∷ es)) walk = absurd walk.1

-- ---- the root that confirms a certificate

record Trusts (talk : List Exchange) (roots : List Root) (cert : Fields) (root : Root) : Type 0 where
  trusted : Contains roots root
  fields : Fields
  reads : certificate (listed root).bytes ≡ Ok fields
  issuer : bytes_eq fields.tbs.subject cert.tbs.issuer ≡ true
  confirms : Confirms talk fields.tbs.key cert.message cert.signature

not_false : (es : List Exchange) → Walks (done Bool false) es [] [] (Ok true) → ⊥
not_false [] walk = cc
not_false (e ∷ es) walk = walk

-- a root that says yes
says_yes : (cert : Fields) (root : Root) (roots : List Root) (read : Result Fields CertFault) (es : List Exchange) → certificate (listed root).bytes ≡ read → Walks (confirmed_by cert read) es [] [] (Ok true) → Trusts es (root ∷ roots) cert root
says_yes cert root roots (Err fault) es is walk = absurd (not_false es walk)
says_yes cert root roots (Ok fields) es is walk = by_name (bytes_eq fields.tbs.subject cert.tbs.issuer) refl walk where
  by_name : (named : Bool) → bytes_eq fields.tbs.subject cert.tbs.issuer ≡ named → Walks (if named then verified Failed fields.tbs.key cert.message cert.signature else Done (Ok false)) es [] [] (Ok true) → Trusts es (root ∷ roots) cert root
  by_name true issuer said = record { trusted = (0, omega arith, refl); fields = fields; reads = is; issuer = issuer; confirms = confirmed fields.tbs.key cert.message cert.signature es said }
  by_name false issuer said = absurd (not_false es said)

trusts_later : (es front back : List Exchange) (roots : List Root) (other root : Root) (cert : Fields) → es ≡ front ++ back → Trusts back roots cert root → Trusts es (other ∷ roots) cert root
trusts_later es front back roots other root cert joined t =
    let place = t.trusted in
    record { trusted = (suc place.0, omega (arith, place.1), place.2); fields = t.fields; reads = t.reads; issuer = t.issuer; confirms = from_back _ es front back joined t.confirms }

trusts_front : (es front back : List Exchange) (roots : List Root) (root : Root) (cert : Fields) → es ≡ front ++ back → Trusts front roots cert root → Trusts es roots cert root
trusts_front es front back roots root cert joined t = record { trusted = t.trusted; fields = t.fields; reads = t.reads; issuer = t.issuer; confirms = from_front _ es front back joined t.confirms }

none_found : (es : List Exchange) (root : Root) → Walks (done (Option Root) None) es [] [] (Ok (Some root)) → ⊥
none_found [] root walk = cc
none_found (e ∷ es) root walk = walk

confirming : (cert : Fields) (roots : List Root) (es : List Exchange) (root : Root) → Walks (first_yes (root_confirms cert) roots) es [] [] (Ok (Some root)) → Trusts es roots cert root
confirming cert [] es root walk = absurd (none_found es root walk)
confirming cert (other ∷ roots) es root walk =
    let parts = stepped (root_confirms cert other) (unless_yes other (first_yes (root_confirms cert) roots)) es (Some root) walk in
    go (confirming cert roots) parts.value parts.front parts.back parts.joined parts.before parts.after where
      go : ((back : List Exchange) (root : Root) → Walks (first_yes (root_confirms cert) roots) back [] [] (Ok (Some root)) → Trusts back roots cert root) → (yes : Bool) (front back : List Exchange) → es ≡ front ++ back → Walks (root_confirms cert other) front [] [] (Ok yes) → Walks (unless_yes other (first_yes (root_confirms cert) roots) yes) back [] [] (Ok (Some root)) → Trusts es (other ∷ roots) cert root
      go rest true front [] joined before after =
          let same : other ≡ root = cc in
          subst (λ (r : Root). Trusts es (other ∷ roots) cert r) same (trusts_front es front [] (other ∷ roots) other cert joined (says_yes cert other roots (certificate (listed other).bytes) front refl before))
      go rest true front (e ∷ back) joined before after = absurd after
      go rest false front back joined before after = trusts_later es front back roots other root cert joined (rest back root after)

-- ---- the reader's own signature

name_of : (name other : List ℕ) (yes : Bool) (es : List Exchange) → Walks (done (Option (List ℕ)) (name_if name yes)) es [] [] (Ok (Some other)) → (yes ≡ true) × (name ≡ other)
name_of name other true [] walk = (refl, cc)
name_of name other false [] walk = cc
name_of name other said (e ∷ es) walk = absurd walk

record Signs (own : Authentication) (root : Root) (transcript items : List ℕ) (talk : List Exchange) (name : List ℕ) : Type 0 where
  signed : Confirms talk own.cert.tbs.key (signed_structure own.signed.protected (reader_payload transcript items)) own.signed.signature
  named : (listed root).name ≡ name

signs : (own : Authentication) (root : Root) (transcript items name : List ℕ) (es : List Exchange) → Walks (signed_under own root transcript items) es [] [] (Ok (Some name)) → Signs own root transcript items es name
unfolding signed_under
signs own root transcript items name es walk =
    let parts = stepped (reader_signed own transcript items) (λ yes. Done (Ok (name_if (listed root).name yes))) es (Some name) walk in
    let both = name_of (listed root).name name parts.value parts.back parts.after in
    let said : Walks (reader_signed own transcript items) parts.front [] [] (Ok true) = subst (λ (b : Bool). Walks (reader_signed own transcript items) parts.front [] [] (Ok b)) both.0 parts.before in
    record { signed = from_front _ es parts.front parts.back parts.joined (confirmed _ _ _ parts.front said); named = both.1 }

no_name : (es : List Exchange) (name : List ℕ) → Walks (done (Option (List ℕ)) None) es [] [] (Ok (Some name)) → ⊥
no_name [] name walk = cc
no_name (e ∷ es) name walk = walk

record IsUnder (own : Authentication) (root : Root) (transcript items : List ℕ) (moment : ℤ) (talk : List Exchange) (name : List ℕ) : Type 0 where
  valid : are_valid moment own.cert root ≡ true
  signs : Signs own root transcript items talk name

under : (own : Authentication) (root : Root) (transcript items name : List ℕ) (moment : ℤ) (es : List Exchange) → Walks (known_under own transcript items moment root) es [] [] (Ok (Some name)) → IsUnder own root transcript items moment es name
unfolding known_under
under own root transcript items name moment es walk = go (are_valid moment own.cert root) refl walk where
  go : (b : Bool) → are_valid moment own.cert root ≡ b → Walks (if b then signed_under own root transcript items else Done (Ok None)) es [] [] (Ok (Some name)) → IsUnder own root transcript items moment es name
  go true valid said = record { valid = valid; signs = signs own root transcript items name es said }
  go false valid said = absurd (no_name es name said)

validities : (moment : ℤ) (cert fields : Fields) (root : Root) → certificate (listed root).bytes ≡ Ok fields → are_valid moment cert root ≡ true → (is_valid moment cert ≡ true) × (is_valid moment fields ≡ true)
validities moment cert fields root reads valid =
    let parts = and_parts (is_valid moment cert) (root_is_valid moment (certificate (listed root).bytes)) valid in
    (parts.0, subst (λ (r : Result Fields CertFault). root_is_valid moment r ≡ true) reads parts.1)

abbrev Own : Document → Authentication → Type 0
Own document own = authentication_of document ≡ Some own

known-as : (document : Document) (own : Authentication) (transcript name : List ℕ) (readers : List Root) (moment : ℤ) (es : List Exchange) → Own document own → Walks (known_as own transcript document.items readers moment) es [] [] (Ok (Some name)) → IsConfirmed document transcript readers moment es name
unfolding known_as confirming_root
known-as document own transcript name readers moment es form walk =
    let parts = stepped (confirming_root own.cert readers) (under_root own transcript document.items moment) es (Some name) walk in
    go parts.value parts.front parts.back parts.joined parts.before parts.after where
      go : (found : Option Root) (front back : List Exchange) → es ≡ front ++ back → Walks (confirming_root own.cert readers) front [] [] (Ok found) → Walks (under_root own transcript document.items moment found) back [] [] (Ok (Some name)) → IsConfirmed document transcript readers moment es name
      go None front back joined before after = absurd (no_name back name after)
      go (Some root) front back joined before after =
          let t = confirming own.cert readers front root before in
          let u = under own root transcript document.items name moment back after in
          let s = u.signs in
          let both = validities moment own.cert t.fields root t.reads u.valid in
          record {
            own = own;
            form = form;
            root = root;
            trusted = t.trusted;
            fields = t.fields;
            reads = t.reads;
            issuer = t.issuer;
            confirmed = from_front _ es front back joined t.confirms;
            valid = both.0;
            root_valid = both.1;
            signed = from_back _ es front back joined s.signed;
            named = s.named;
          }

pub names-confirmed : AreNamesConfirmed
unfolding known
names-confirmed document transcript readers moment es name walk = go (authentication_of document) refl walk where
  go : (own : Option Authentication) → authentication_of document ≡ own → Walks (known_by own transcript document.items readers moment) es [] [] (Ok (Some name)) → IsConfirmed document transcript readers moment es name
  go None form said = absurd (no_name es name said)
  go (Some own) form said = known-as document own transcript name readers moment es form said
