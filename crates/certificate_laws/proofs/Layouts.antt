-- The parts of a to-be-signed part, as they are read and as they stand in their order.
use Rattle.std.proofs.Common.{◌≡◌, ◌↔◌, ℕ, refl, sym, ap, ◌∙◌, subst, Bool, true, false, List, [], ◌∷◌, ◌++◌, map, Option, Some, None, Result, Ok, Err}
use Rattle.std.specs.Option.{option_to_list}
use Rattle.mdoc_outside.specs.ResultSteps.{◌>>=◌, or_fault}
use Rattle.mdoc_outside.specs.OptionSteps.{◌>>=◌ as ◌>>?◌}
use Rattle.der_view.specs.declared.der_fault.DerFault.{DerFault}
use Rattle.der_view.specs.Parts.{Part, parts_of}
use Rattle.cert_view.specs.declared.cert_check.CertCheck.TheVariants.{Shape}
use Rattle.cert_view.specs.declared.cert_fault.CertFault.{CertFault}
use Rattle.cert_view.specs.Extensions.{after_optional}
use Rattle.cert_view.specs.Faults.{fault}
use Rattle.cert_view.specs.Shapes.{has_tag, all_read}
use Rattle.cert_view.specs.Tbs.{after_unique_identifiers, none_or_one, Layout, layout, to_be_signed}
use Rattle.certificate_laws.specs.Faults.{unread, tbs_faults}
use Rattle.certificate_laws.specs.IsLayout.{starts_with, IsOptionalBefore, as_read, IsLayout}
use Rattle.certificate_laws.proofs.Steps.{chosen}

-- ---- a part that may be missing

record Passed (tag : ℕ) (ps : List (Result Part DerFault)) (others : List Part) : Type 0 where
  optional : List Part
  are : ps ≡ map as_read (optional ++ others)
  before : IsOptionalBefore tag optional others

passed : (tag : ℕ) (ps : List (Result Part DerFault)) (others : List Part) → after_optional tag ps ≡ map as_read others → Passed tag ps others
passed tag [] [] e = record { optional = []; are = refl; before = refl }
passed tag [] (q ∷ others) e = absurd (cc)
passed tag ((Err x) ∷ ps) [] e = absurd (cc)
passed tag ((Err x) ∷ ps) (q ∷ others) e = absurd (cc)
passed tag ((Ok p) ∷ ps) others e = go (has_tag tag p) refl where
  unlike : (qs : List Part) → has_tag tag p ≡ false → Ok p ∷ ps ≡ map as_read qs → starts_with tag qs ≡ false
  unlike [] is same = absurd (cc)
  unlike (q ∷ qs) is same = (let own : p ≡ q = cc in subst (λ (r : Part). has_tag tag r ≡ false) own is)

  go : (b : Bool) → has_tag tag p ≡ b → Passed tag ((Ok p) ∷ ps) others
  go true is =
      let rest : ps ≡ map as_read others = rw is at e in
      record { optional = p ∷ []; are = ap (λ (x : List (Result Part DerFault)). Ok p ∷ x) rest; before = is }
  go false is =
      let rest : Ok p ∷ ps ≡ map as_read others = rw is at e in
      record { optional = []; are = rest; before = unlike others is rest }

passes : (tag : ℕ) (optional others : List Part) → IsOptionalBefore tag optional others → after_optional tag (map as_read (optional ++ others)) ≡ map as_read others
passes tag [] [] is = refl
passes tag [] (q ∷ others) is = rw is refl
passes tag (p ∷ []) others is = rw is refl
passes tag (p ∷ (q ∷ optional)) others is = absurd is

last-is : (ps : List (Result Part DerFault)) (last : Option Part) → none_or_one ps ≡ Some last → ps ≡ map as_read (option_to_list last)
last-is [] last e = (let same : None ≡ last = cc in ap (λ (o : Option Part). map as_read (option_to_list o)) same)
last-is ((Err x) ∷ ps) last e = absurd (cc)
last-is ((Ok p) ∷ []) last e = (let same : Some p ≡ last = cc in ap (λ (o : Option Part). map as_read (option_to_list o)) same)
last-is ((Ok p) ∷ (q ∷ ps)) last e = absurd (cc)

is-last : (last : Option Part) → none_or_one (map as_read (option_to_list last)) ≡ Some last
is-last None = refl
is-last (Some p) = refl

-- ---- the layout

abbrev make : (a b c d e f g : Part) → Option Part → Layout
make a b c d e f g last = record {
  version = a;
  serial = b;
  algorithm = c;
  issuer = d;
  validity = e;
  subject = f;
  key = g;
  extensions = last;
}

layout-sound : (ps : List (Result Part DerFault)) (l : Layout) → layout ps ≡ Some l → IsLayout ps l
layout-sound [] l same = absurd (cc)
layout-sound ((Err x) ∷ ps) l same = absurd (cc)
layout-sound ((Ok a) ∷ []) l same = absurd (cc)
layout-sound ((Ok a) ∷ ((Err x) ∷ ps)) l same = absurd (cc)
layout-sound ((Ok a) ∷ ((Ok b) ∷ [])) l same = absurd (cc)
layout-sound ((Ok a) ∷ ((Ok b) ∷ ((Err x) ∷ ps))) l same = absurd (cc)
layout-sound ((Ok a) ∷ ((Ok b) ∷ ((Ok c) ∷ []))) l same = absurd (cc)
layout-sound ((Ok a) ∷ ((Ok b) ∷ ((Ok c) ∷ ((Err x) ∷ ps)))) l same = absurd (cc)
layout-sound ((Ok a) ∷ ((Ok b) ∷ ((Ok c) ∷ ((Ok d) ∷ [])))) l same = absurd (cc)
layout-sound ((Ok a) ∷ ((Ok b) ∷ ((Ok c) ∷ ((Ok d) ∷ ((Err x) ∷ ps))))) l same = absurd (cc)
layout-sound ((Ok a) ∷ ((Ok b) ∷ ((Ok c) ∷ ((Ok d) ∷ ((Ok e) ∷ []))))) l same = absurd (cc)
layout-sound ((Ok a) ∷ ((Ok b) ∷ ((Ok c) ∷ ((Ok d) ∷ ((Ok e) ∷ ((Err x) ∷ ps)))))) l same = absurd (cc)
layout-sound ((Ok a) ∷ ((Ok b) ∷ ((Ok c) ∷ ((Ok d) ∷ ((Ok e) ∷ ((Ok f) ∷ [])))))) l same = absurd (cc)
layout-sound ((Ok a) ∷ ((Ok b) ∷ ((Ok c) ∷ ((Ok d) ∷ ((Ok e) ∷ ((Ok f) ∷ ((Err x) ∷ ps))))))) l same = absurd (cc)
layout-sound ((Ok a) ∷ ((Ok b) ∷ ((Ok c) ∷ ((Ok d) ∷ ((Ok e) ∷ ((Ok f) ∷ ((Ok g) ∷ rest))))))) l same =
    let own : Option Part → Layout = make a b c d e f g in
    let found = chosen (none_or_one (after_unique_identifiers rest)) (λ (last : Option Part). Some (own last)) l same in
    let second = passed 0x82 (after_optional 0x81 rest) (option_to_list found.value) (last-is (after_unique_identifiers rest) found.value found.before) in
    let first = passed 0x81 rest (second.optional ++ option_to_list found.value) second.are in
    let as_made : own found.value ≡ l = (let s : Some (own found.value) ≡ Some l = found.after in cc) in
    let parts : List (Result Part DerFault) = Ok a ∷ Ok b ∷ Ok c ∷ Ok d ∷ Ok e ∷ Ok f ∷ Ok g ∷ rest in
    let whole : IsLayout parts (own found.value) = record {
      issuer_unique_id = first.optional;
      subject_unique_id = second.optional;
      whole = ap (λ (x : List (Result Part DerFault)). Ok a ∷ Ok b ∷ Ok c ∷ Ok d ∷ Ok e ∷ Ok f ∷ Ok g ∷ x) first.are;
      issuer_id = first.before;
      subject_id = second.before;
    } in
    subst (IsLayout parts) as_made whole

layout-complete : (ps : List (Result Part DerFault)) (l : Layout) → IsLayout ps l → layout ps ≡ Some l
layout-complete ps l is =
    let others : List Part = is.subject_unique_id ++ option_to_list l.extensions in
    let own : Option Part → Layout = make l.version l.serial l.algorithm l.issuer l.validity l.subject l.key in
    let after : after_unique_identifiers (map as_read (is.issuer_unique_id ++ others)) ≡ map as_read (option_to_list l.extensions) =
    ap (after_optional 0x82) (passes 0x81 is.issuer_unique_id others is.issuer_id) ∙ passes 0x82 is.subject_unique_id (option_to_list l.extensions) is.subject_id in
    ap layout is.whole
    ∙ ap (λ (o : Option (Option Part)). o >>? λ (last : Option Part). Some (own last)) (ap none_or_one after ∙ is-last l.extensions)

pub layout-is : (ps : List (Result Part DerFault)) (l : Layout) → (layout ps ≡ Some l) ↔ IsLayout ps l
layout-is ps l = (layout-sound ps l, layout-complete ps l)

-- ---- parts in no such order

none-laid : (o : Option Layout) → ((l : Layout) → o ≡ Some l → ⊥) → o ≡ None
none-laid None none = refl
none-laid (Some l) none = absurd (none l refl)

unlaid : (p : Part) → ((l : Layout) → IsLayout (parts_of p) l → ⊥) → layout (parts_of p) ≡ None
unlaid p none = none-laid (layout (parts_of p)) (λ l e. none l (layout-sound (parts_of p) l e))

pub no-layout-reported : (p : Part) → has_tag 0x30 p ≡ true → all_read (parts_of p) ≡ Ok tt → ((l : Layout) → IsLayout (parts_of p) l → ⊥) → to_be_signed p ≡ Err (fault Shape p.at)
no-layout-reported p tag ok none = rw (tag, ok, unlaid p none) refl

all-read : (ps : List (Result Part DerFault)) → all_read ps ≡ Ok tt → unread ps ≡ []
all-read [] ok = refl
all-read ((Ok p) ∷ ps) ok = all-read ps ok
all-read ((Err x) ∷ ps) ok = absurd (cc)

pub no-layout-faults : (p : Part) → has_tag 0x30 p ≡ true → all_read (parts_of p) ≡ Ok tt → ((l : Layout) → IsLayout (parts_of p) l → ⊥) → tbs_faults p ≡ fault Shape p.at ∷ []
no-layout-faults p tag ok none = rw (tag, all-read (parts_of p) ok, unlaid p none) refl
