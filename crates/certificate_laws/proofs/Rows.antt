-- Of the extensions, the to-be-signed part and the whole each fault that is reported is the first of all that is
-- wrong with them.
use Rattle.std.proofs.Common.{◌≡◌, ℕ, ◌+◌, ◌≤◌, refl, sym, ap, ◌∙◌, subst, arith, inl, inr, Bool, true, false, if◌then◌else◌, cond, nat_lt, ◌==◌, ◌&&◌, ◌||◌, List, [], ◌∷◌, ◌++◌, append_assoc, append-nil, map, filter, drop, flat_map, length, Option, Some, None, is_some, Result, Ok, Err, bytes_eq}
use Rattle.std.proofs.lemmas.List.{map-append, flat_map_more}
use Rattle.std.proofs.lemmas.List.Elements.{filter-append}
use Rattle.mdoc_outside.specs.ResultSteps.{◌>>=◌, or_fault}
use Rattle.mdoc_outside.specs.OptionSteps.{◌>>=◌ as ◌>>?◌}
use Rattle.mdoc_outside.specs.ListSteps.{unless}
use Rattle.der_view.specs.declared.der_fault.DerFault.{DerFault}
use Rattle.der_view.specs.Parts.{Part, parts_of}
use Rattle.der_view.specs.Reading.{body_of}
use Rattle.cert_view.specs.declared.cert_check.CertCheck.TheVariants.{Extension}
use Rattle.cert_view.specs.declared.cert_fault.CertFault.{CertFault}
use Rattle.cert_view.specs.Extensions as read
use Rattle.cert_view.specs.Extensions.{extended_key_usage, said_once}
use Rattle.cert_view.specs.Faults.{fault, is_before, both}
use Rattle.cert_view.specs.Shapes.{has_tag, all_read}
use Rattle.cert_view.proofs.WrittenParts.{place, placed}
use Rattle.certificate_laws.specs.Faults.{then_faults, unread, extension_faults, has_usage_name, is_usage, extension_at, further_usages, list_faults, read_parts}
use Rattle.certificate_laws.proofs.Firsts.{In, in-left, in-right, in-cases, Reports, least-one, reports-same, both-reports}
use Rattle.certificate_laws.proofs.Shapes.{extension-reports}
use Rattle.certificate_laws.proofs.Steps.{stepped, chosen, or_fault-ok, both-ok, if-ok}

-- ---- a fault of an extension from a place on is not before another one up to there

abbrev IsFar : ℕ → CertFault → Type 0
IsFar at f = (n : ℕ) → at ≤ n → is_before (fault Extension n) f ≡ false

far-extension : (at : ℕ) → IsFar at (fault Extension at)
far-extension at n l = far n at l where
  far : (n at : ℕ) → at ≤ n → (nat_lt 7 7 || ((7 == 7) && nat_lt n at)) ≡ false
  far n at l = grind arith

far-unless : (b : Bool) (at : ℕ) (f : CertFault) → In f (unless b (fault Extension at)) → IsFar at f
far-unless true at f i = absurd i
far-unless false at f (inl e) = subst (IsFar at) e (far-extension at)
far-unless false at f (inr i) = absurd i

far-unread : (ps : List (Result Part DerFault)) (at : ℕ) (f : CertFault) → In f (unread ps) → IsFar at f
far-unread [] at f i = absurd i
far-unread ((Ok p) ∷ ps) at f i = far-unread ps at f i
far-unread ((Err found) ∷ ps) at f (inl e) = subst (IsFar at) e (λ n l. refl)
far-unread ((Err found) ∷ ps) at f (inr i) = absurd i

far-then : (fs gs : List CertFault) (at : ℕ) → ((f : CertFault) → In f fs → IsFar at f) → ((f : CertFault) → In f gs → IsFar at f) → (f : CertFault) → In f (then_faults fs gs) → IsFar at f
far-then [] gs at one other f i = other f i
far-then (g ∷ fs) gs at one other f i = one f i

far-own : (p : Part) (f : CertFault) → In f (extension_faults p) → IsFar p.at f
far-own p = far-then (unless (has_tag 0x30 p) (fault Extension p.at)) (then_faults (unread (parts_of p)) (unless (is_some (read.said_by_parts (parts_of p))) (fault Extension p.at))) p.at
    (far-unless (has_tag 0x30 p) p.at)
    (far-then (unread (parts_of p)) (unless (is_some (read.said_by_parts (parts_of p))) (fault Extension p.at)) p.at
    (far-unread (parts_of p) p.at) (far-unless (is_some (read.said_by_parts (parts_of p))) p.at))

-- ---- an extension is the extended key usage where it says something

usage-said : (p : Part) (now : Option Bool) → read.extension p ≡ Ok now → is_usage p ≡ is_some now
usage-said p now e =
    let by_parts : Unit {0} → Result (Option Bool) CertFault = λ u. or_fault (fault Extension p.at) (read.said_by_parts (parts_of p)) in
    let c = if-ok (has_tag 0x30 p) (all_read (parts_of p) >>= by_parts) (fault Extension p.at) now e in
    let a = stepped (all_read (parts_of p)) by_parts now c.1 in
    let o = or_fault-ok (fault Extension p.at) (read.said_by_parts (parts_of p)) now a.after in
    let b = chosen (read.named_value (parts_of p)) read.said_purposes now o in
    ap has_usage_name b.before ∙ by b.value b.after
  where
    by : (x : Part × Part) → read.said_purposes x ≡ Some now → bytes_eq (body_of x.0.bytes) extended_key_usage ≡ is_some now
    by x same = go (bytes_eq (body_of x.0.bytes) extended_key_usage) same where
      go : (b : Bool) → (if b then (read.purposes (body_of x.1.bytes) >>? λ (said : Bool). Some (Some said)) else Some None) ≡ Some now → b ≡ is_some now
      go true same =
          let d = chosen (read.purposes (body_of x.1.bytes)) (λ (said : Bool). Some (Some said)) now same in
          let last : Some d.value ≡ now = (let s : Some (Some d.value) ≡ Some now = d.after in cc) in
          ap is_some last
      go false same = let last : None ≡ now = (let s : Some None ≡ Some now = same in cc) in ap is_some last

-- ---- one extension more

abbrev has_some : List Part → Bool
has_some [] = false
has_some (p ∷ ps) = true

-- the fault that it adds where the extended key usage is before it
abbrev again : Bool → Bool → Part → List CertFault
again true true p = extension_at p ∷ []
again true false p = []
again false b p = []

further-more : (us : List Part) (b : Bool) (p : Part) → map extension_at (drop 1 (us ++ cond b (p ∷ []) [])) ≡ map extension_at (drop 1 us) ++ again (has_some us) b p
further-more [] true p = refl
further-more [] false p = refl
further-more (u ∷ us) true p = map-append extension_at us (p ∷ [])
further-more (u ∷ us) false p = ap (map extension_at) (append-nil us) ∙ sym (append-nil (map extension_at us))

filter-more : (pre : List Part) (p : Part) → filter is_usage (pre ++ p ∷ []) ≡ filter is_usage pre ++ cond (is_usage p) (p ∷ []) []
filter-more pre p = filter-append is_usage pre (p ∷ [])

list-more : (pre : List Part) (p : Part) → list_faults (pre ++ p ∷ []) ≡ (flat_map extension_faults pre ++ extension_faults p) ++ (further_usages pre ++ again (has_some (filter is_usage pre)) (is_usage p) p)
list-more pre p =
    ap (λ (fs : List CertFault). fs ++ further_usages (pre ++ p ∷ [])) (sym (flat_map_more extension_faults [] pre p))
    ∙ ap (λ (us : List Part). (flat_map extension_faults pre ++ extension_faults p) ++ map extension_at (drop 1 us)) (filter-more pre p)
    ∙ ap (λ (fs : List CertFault). (flat_map extension_faults pre ++ extension_faults p) ++ fs) (further-more (filter is_usage pre) (is_usage p) p)

-- a and c were there before, b and d are added
to-added : (a b c d : List CertFault) (g : CertFault) → In g (((a ++ c) ++ b) ++ d) → In g ((a ++ b) ++ (c ++ d))
to-added a b c d g i = elim (in-cases g ((a ++ c) ++ b) d i) [
  | inr h ↦ in-right g (a ++ b) (c ++ d) (in-right g c d h)
  | inl h ↦ elim (in-cases g (a ++ c) b h) [
    | inr k ↦ in-left g (a ++ b) (c ++ d) (in-right g a b k)
    | inl k ↦ elim (in-cases g a c k) [
      | inl m ↦ in-left g (a ++ b) (c ++ d) (in-left g a b m)
      | inr m ↦ in-right g (a ++ b) (c ++ d) (in-left g c d m)
    ]
  ]
]

from-added : (a b c d : List CertFault) (g : CertFault) → In g ((a ++ b) ++ (c ++ d)) → In g (((a ++ c) ++ b) ++ d)
from-added a b c d g i = elim (in-cases g (a ++ b) (c ++ d) i) [
  | inl h ↦ elim (in-cases g a b h) [
    | inl k ↦ in-left g ((a ++ c) ++ b) d (in-left g (a ++ c) b (in-left g a c k))
    | inr k ↦ in-left g ((a ++ c) ++ b) d (in-right g (a ++ c) b k)
  ]
  | inr h ↦ elim (in-cases g c d h) [
    | inl k ↦ in-left g ((a ++ c) ++ b) d (in-left g (a ++ c) b (in-right g a c k))
    | inr k ↦ in-right g ((a ++ c) ++ b) d k
  ]
]

record State (before : Result (Option Bool) CertFault) (pre : List Part) (at : ℕ) : Type 0 where
  reports : Reports before (list_faults pre)
  far : (f : CertFault) → In f (list_faults pre) → IsFar at f
  seen : (said : Option Bool) → before ≡ Ok said → is_some said ≡ has_some (filter is_usage pre)

abbrev more : Part → Result (Option Bool) CertFault → Result (Option Bool) CertFault → Result (Option Bool) CertFault
more p before r = both before r >>= λ (x : Option Bool × Option Bool). said_once p x.0 x.1

-- what two readings came to, by what they say
record Added (p : Part) (r : Result (Option Bool) CertFault) (fs : List CertFault) (usages is_one : Bool) : Type 0 where
  reports : Reports r (fs ++ again usages is_one p)
  seen : (said : Option Bool) → r ≡ Ok said → is_some said ≡ (usages || is_one)

far-again : (p : Part) (a b : Bool) (f : CertFault) → In f (again a b p) → IsFar p.at f
far-again p true true f (inl e) = subst (IsFar p.at) e (far-extension p.at)
far-again p true true f (inr i) = absurd i
far-again p true false f i = absurd i
far-again p false b f i = absurd i

-- a fault that it adds is not before one that was there
not-again : (p : Part) (a b : Bool) (f g : CertFault) → IsFar p.at f → In g (again a b p) → is_before g f ≡ false
not-again p true true f g far (inl e) = subst (λ (h : CertFault). is_before h f ≡ false) e (far p.at (omega arith))
not-again p true true f g far (inr i) = absurd i
not-again p true false f g far i = absurd i
not-again p false b f g far i = absurd i

none-of : (fs gs : List CertFault) → ((g : CertFault) → In g fs → ⊥) → ((g : CertFault) → In g gs → ⊥) → (g : CertFault) → In g (fs ++ gs) → ⊥
none-of fs gs one other g i = elim (in-cases g fs gs i) [ inl h ↦ one g h | inr h ↦ other g h ]

-- both say something, or nothing
said-added : (p : Part) (fs : List CertFault) (first now : Option Bool) → ((g : CertFault) → In g fs → ⊥) → Added p (said_once p first now) fs (is_some first) (is_some now)
said-added p fs (Some a) (Some b) none = record {
  reports = record {
    among = in-right (extension_at p) fs (extension_at p ∷ []) (inl refl);
    least = λ g i. elim (in-cases g fs (extension_at p ∷ []) i) [ inl h ↦ absurd (none g h) | inr h ↦ (least-one (extension_at p)).least g h ];
  };
  seen = λ said e. absurd (cc);
}
said-added p fs (Some a) None none = record {
  reports = none-of fs [] none (λ g i. i);
  seen = λ said e. (let same : Some a ≡ said = (let s : Ok (Some a) ≡ Ok said = e in cc) in ap is_some (sym same));
}
said-added p fs None (Some b) none = record {
  reports = none-of fs [] none (λ g i. i);
  seen = λ said e. (let same : Some b ≡ said = (let s : Ok (Some b) ≡ Ok said = e in cc) in ap is_some (sym same));
}
said-added p fs None None none = record {
  reports = none-of fs [] none (λ g i. i);
  seen = λ said e. (let same : None ≡ said = (let s : Ok None ≡ Ok said = e in cc) in ap is_some (sym same));
}

-- ---- all of them, one after another

added : (p : Part) (b : Result (Option Bool × Option Bool) CertFault) (fs : List CertFault) (usages is_one : Bool) → Reports b fs → ((f : CertFault) → In f fs → IsFar p.at f) →
    ((x : Option Bool × Option Bool) → b ≡ Ok x → (is_some x.0 ≡ usages) × (is_some x.1 ≡ is_one)) → Added p (b >>= λ (x : Option Bool × Option Bool). said_once p x.0 x.1) fs usages is_one
added p (Ok x) fs usages is_one t far says =
    let s = says x refl in
    subst (λ (u : Bool). Added p (said_once p x.0 x.1) fs u is_one) s.0 (subst (λ (o : Bool). Added p (said_once p x.0 x.1) fs (is_some x.0) o) s.1 (said-added p fs x.0 x.1 t))
added p (Err f) fs usages is_one t far says = record {
  reports = record {
    among = in-left f fs (again usages is_one p) t.among;
    least = λ g i. elim (in-cases g fs (again usages is_one p) i) [ inl h ↦ t.least g h | inr h ↦ not-again p usages is_one f g (far f t.among) h ];
  };
  seen = λ said e. absurd (cc);
}

has_some-more : (us : List Part) (b : Bool) (p : Part) → has_some (us ++ cond b (p ∷ []) []) ≡ (has_some us || b)
has_some-more [] true p = refl
has_some-more [] false p = refl
has_some-more (u ∷ us) b p = refl

later : (at next : ℕ) (f : CertFault) → at ≤ next → IsFar at f → IsFar next f
later at next f l far = λ n m. far n (omega arith)

step : (before : Result (Option Bool) CertFault) (pre : List Part) (p : Part) (next : ℕ) → p.at ≤ next → State before pre p.at → State (more p before (read.extension p)) (pre ++ p ∷ []) next
step before pre p next l s =
    let old = list_faults pre in
    let own = extension_faults p in
    let usages = has_some (filter is_usage pre) in
    let one = is_usage p in
    let extra = again usages one p in
    let far : (f : CertFault) → In f (old ++ own) → IsFar p.at f = λ f i. elim (in-cases f old own i) [ inl h ↦ s.far f h | inr h ↦ far-own p f h ] in
    let a = added p (both before (read.extension p)) (old ++ own) usages one (both-reports before (read.extension p) old own s.reports (extension-reports p)) far
    (λ x e. (let b = both-ok before (read.extension p) x e in (s.seen x.0 b.first, sym (usage-said p x.1 b.second)))) in
    let fs = flat_map extension_faults pre in
    let us = further_usages pre in
    let all = list-more pre p in
    record {
      reports = subst (Reports (more p before (read.extension p))) (sym all) (reports-same (more p before (read.extension p)) ((old ++ own) ++ extra) ((fs ++ own) ++ (us ++ extra)) (to-added fs own us extra) (from-added fs own us extra) a.reports);
      far = λ f i. (let k : In f ((old ++ own) ++ extra) = from-added fs own us extra f (subst (In f) all i) in
          later p.at next f l (elim (in-cases f (old ++ own) extra k) [ inl h ↦ far f h | inr h ↦ far-again p usages one f h ]));
      seen = λ said e. a.seen said e ∙ sym (has_some-more (filter is_usage pre) one p) ∙ ap has_some (sym (filter-more pre p));
    }

rows : (parts : List (List ℕ)) (at : ℕ) (before : Result (Option Bool) CertFault) (pre : List Part) → State before pre at → Reports (read.with_extensions before (placed at parts)) (list_faults (pre ++ read_parts (placed at parts)))
rows [] at before pre s = subst (λ (ps : List Part). Reports before (list_faults ps)) (sym (append-nil pre)) s.reports
rows (part ∷ parts) at before pre s =
    let p : Part = place at part in
    let next = at + length part in
    let r = rows parts next (more p before (read.extension p)) (pre ++ p ∷ []) (step before pre p next (omega arith) s) in
    subst (λ (ps : List Part). Reports (read.with_extensions (more p before (read.extension p)) (placed next parts)) (list_faults ps)) (append_assoc pre (p ∷ []) (read_parts (placed next parts))) r

pub list-reports : (at : ℕ) (parts : List (List ℕ)) → Reports (read.with_extensions (Ok None) (placed at parts)) (list_faults (read_parts (placed at parts)))
list-reports at parts = rows parts at (Ok None) [] (record { reports = λ g i. i; far = λ f i. absurd i; seen = λ said e. (let same : None ≡ said = (let s : Ok None ≡ Ok said = e in cc) in ap is_some (sym same)) })
