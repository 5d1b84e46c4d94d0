-- The to-be-signed part, as it is read and as it is.
use Rattle.std.proofs.Common.{◌≡◌, ℕ, ◌+◌, ◌==◌, refl, sym, ap, ◌∙◌, subst, Bool, true, false, ℤ, List, [], ◌∷◌, ◌++◌, filter, length, Option, Some, None, Result, Ok, unwrap_or}
use Rattle.std.specs.List.{AllByRecursion}
use Rattle.mdoc_outside.specs.ResultSteps.{◌>>=◌, or_fault}
use Rattle.mdoc_outside.specs.OptionSteps.{◌>>=◌ as ◌>>?◌}
use Rattle.der_view.specs.declared.der_fault.DerFault.{DerFault}
use Rattle.der_view.specs.Element.{IsElement}
use Rattle.der_view.specs.Parts.{Part, body_part}
use Rattle.der_view.specs.Reading.{body_of}
use Rattle.key_device.specs.declared.point.Point.{Point}
use Rattle.cert_view.specs.declared.cert_check.CertCheck.TheVariants.{Shape}
use Rattle.cert_view.specs.declared.cert_fault.CertFault.{CertFault}
use Rattle.cert_view.specs.Extensions.{after_optional, with_extensions}
use Rattle.cert_view.specs.Faults.{fault, both}
use Rattle.cert_view.specs.Shapes.{has_tag, tagged, parts_in, one, of_shape}
use Rattle.cert_view.specs.Tbs as tbs
use Rattle.cert_view.specs.Tbs.{Tbs, Layout, layout}
use Rattle.cert_view.specs.Written.{concatenated}
use Rattle.cert_view.proofs.WrittenParts.{place, placed, after_head}
use Rattle.certificate_laws.specs.Extensions.{is_key_usage, AreExtensions, MayHaveExtensions}
use Rattle.certificate_laws.specs.IsCertificate.{IsTbsCertificate}
use Rattle.certificate_laws.specs.MadeOf.{HasTag, IsMadeOf, IsOptional}
use Rattle.certificate_laws.proofs.Counts.{one-is}
use Rattle.certificate_laws.proofs.Made.{IsRead, tag-of, with-tag, tag-sound, parts-each, parts-sound, shape-sound, parts-complete, shape-complete}
use Rattle.certificate_laws.proofs.Parts.{version-sound, version-complete, algorithm-sound, algorithm-complete, validity-sound, validity-complete, key-sound, key-complete}
use Rattle.certificate_laws.proofs.Steps.{stepped, chosen, both-ok, ok-same}
use Rattle.certificate_laws.proofs.Usages.{extensions-sound, allows, extensions-complete, allowed}

-- ---- what may follow the key

pub record OptionalSound (tag at : ℕ) (parts : List (List ℕ)) : Type 0 where
  pub optional : List (List ℕ)
  pub rest : List (List ℕ)
  pub next : ℕ
  pub are : parts ≡ optional ++ rest
  pub tagged : IsOptional (HasTag tag) optional
  pub each : AllByRecursion IsRead rest
  pub left : after_optional tag (placed at parts) ≡ placed next rest

pub optional-sound : (tag at : ℕ) (parts : List (List ℕ)) → AllByRecursion IsRead parts → OptionalSound tag at parts
optional-sound tag at [] each = record { optional = []; rest = []; next = at; are = refl; tagged = tt; each = tt; left = refl }
optional-sound tag at (part ∷ parts) each = go (has_tag tag (place at part)) refl where
  go : (b : Bool) → has_tag tag (place at part) ≡ b → OptionalSound tag at (part ∷ parts)
  go true is = record {
    optional = part ∷ [];
    rest = parts;
    next = at + length part;
    are = refl;
    tagged = record { body = body_of part; is = with-tag tag part each.0.is is };
    each = each.1;
    left = rw is refl;
  }
  go false is = record { optional = []; rest = part ∷ parts; next = at; are = refl; tagged = tt; each = each; left = rw is refl }

-- a part of another tag stays
other-left : (tag at : ℕ) (part : List ℕ) (parts : List (List ℕ)) (own : ℕ) (body : List ℕ) → IsElement part own body → (own == tag) ≡ false → after_optional tag (placed at (part ∷ parts)) ≡ placed at (part ∷ parts)
other-left tag at part parts own body is other = rw (tag-of part own body is) (rw other refl)

same-left : (tag at : ℕ) (part : List ℕ) (parts : List (List ℕ)) (body : List ℕ) → IsElement part tag body → (tag == tag) ≡ true → after_optional tag (placed at (part ∷ parts)) ≡ placed (at + length part) parts
same-left tag at part parts body is same = rw (tag-of part tag body is) (rw same refl)

-- those after the unique identifiers
abbrev AreExtensionsAt : List (List ℕ) → Type 0
AreExtensionsAt [] = Unit {0}
AreExtensionsAt (part ∷ parts) = HasTag 0xa3 part

unique-left : (at : ℕ) (first second rest : List (List ℕ)) → IsOptional (HasTag 0x81) first → IsOptional (HasTag 0x82) second → AreExtensionsAt rest →
    (next : ℕ) × (tbs.after_unique_identifiers (placed at (first ++ (second ++ rest))) ≡ placed next rest)
unique-left at (a ∷ (b ∷ first)) second rest one_is two_is are = absurd one_is
unique-left at first (a ∷ (b ∷ second)) rest one_is two_is are = absurd two_is
unique-left at [] [] [] one_is two_is are = (at, refl)
unique-left at [] [] (c ∷ rest) one_is two_is are =
    (at, ap (after_optional 0x82) (other-left 0x81 at c rest 0xa3 are.body are.is refl) ∙ other-left 0x82 at c rest 0xa3 are.body are.is refl)
unique-left at [] (b ∷ []) rest one_is two_is are =
    (at + length b, ap (after_optional 0x82) (other-left 0x81 at b rest 0x82 two_is.body two_is.is refl) ∙ same-left 0x82 at b rest two_is.body two_is.is refl)
unique-left at (a ∷ []) [] [] one_is two_is are =
    (at + length a, ap (after_optional 0x82) (same-left 0x81 at a [] one_is.body one_is.is refl))
unique-left at (a ∷ []) [] (c ∷ rest) one_is two_is are =
    (at + length a, ap (after_optional 0x82) (same-left 0x81 at a (c ∷ rest) one_is.body one_is.is refl) ∙ other-left 0x82 (at + length a) c rest 0xa3 are.body are.is refl)
unique-left at (a ∷ []) (b ∷ []) rest one_is two_is are =
    (at + length a + length b, ap (after_optional 0x82) (same-left 0x81 at a (b ∷ rest) one_is.body one_is.is refl) ∙ same-left 0x82 (at + length a) b rest two_is.body two_is.is refl)

-- ---- extensions

abbrev pub listed_in : Part → Result (Option Bool) CertFault
listed_in list = parts_in 0x30 list >>= with_extensions (Ok None)

abbrev pub tagged_in : Part → Result (Option Bool) CertFault
tagged_in last = of_shape one 0xa3 last >>= listed_in

tagged-sound : (last : Part) (said : Option Bool) → IsRead last.bytes → tagged_in last ≡ Ok said → AreExtensions (unwrap_or said false) last.bytes
tagged-sound last said read e =
    let a = stepped (of_shape one 0xa3 last) listed_in said e in
    let m = shape-sound one 0xa3 last a.value read a.before in
    let w = one-is m.at m.parts a.value m.is in
    let each = subst (AllByRecursion IsRead) w m.each in
    let b = stepped (parts_in 0x30 a.value) (with_extensions (Ok None)) said a.after in
    let l = parts-sound 0x30 a.value b.value each.0 b.before in
    let row = parts-each 0x30 l.parts a.value.bytes l.whole each.0.are in
    let x = extensions-sound l.parts (body_part a.value).at None said row (ap (with_extensions (Ok None)) (sym l.is) ∙ b.after) in
    record {
      list = a.value.bytes;
      parts = l.parts;
      extensions = x.extensions;
      explicit = subst (λ (parts : List (List ℕ)). IsMadeOf 0xa3 parts last.bytes) w m.whole;
      whole = l.whole;
      each = x.each;
      usage = allows (filter is_key_usage x.extensions) said x.usage;
    }

abbrev pub last_of : Option Part → List (List ℕ)
last_of None = []
last_of (Some p) = p.bytes ∷ []

may-sound : (last : Option Part) (said : Option Bool) → AllByRecursion IsRead (last_of last) → tbs.extensions last ≡ Ok said → MayHaveExtensions (last_of last) (unwrap_or said false)
may-sound None said each e = (let same : None ≡ said = cc in rw (sym same) refl)
may-sound (Some last) said each e = tagged-sound last said each.0 e

abbrev last_at : ℕ → List (List ℕ) → Option Part
last_at at [] = None
last_at at (part ∷ parts) = Some (place at part)

record MayRead (at : ℕ) (parts : List (List ℕ)) (signs : Bool) : Type 0 where
  said : Option Bool
  is : unwrap_or said false ≡ signs
  last : tbs.none_or_one (placed at parts) ≡ Some (last_at at parts)
  read : tbs.extensions (last_at at parts) ≡ Ok said

may-complete : (at : ℕ) (parts : List (List ℕ)) (signs : Bool) → MayHaveExtensions parts signs → MayRead at parts signs
may-complete at [] signs e = record { said = None; is = sym e; last = refl; read = refl }
may-complete at (part ∷ []) signs e =
    let a = allowed (filter is_key_usage e.extensions) signs e.usage in
    let list = after_head at 0xa3 (concatenated (e.list ∷ [])) in
    record {
      said = a.said;
      is = a.is;
      last = refl;
      read = rw (shape-complete one 0xa3 at (e.list ∷ []) part e.explicit)
          (rw (parts-complete 0x30 list e.parts e.list e.whole)
          (extensions-complete e.parts e.extensions (after_head list 0x30 (concatenated e.parts)) None a.said e.each a.follows));
    }
may-complete at (part ∷ (other ∷ parts)) signs e = absurd e

may-tagged : (parts : List (List ℕ)) (signs : Bool) → MayHaveExtensions parts signs → AreExtensionsAt parts
may-tagged [] signs e = tt
may-tagged (part ∷ []) signs e = record { body = concatenated (e.list ∷ []); is = e.explicit.is }
may-tagged (part ∷ (other ∷ parts)) signs e = absurd e

-- ---- the layout

abbrev own_layout : ℕ → List ℕ → List ℕ → List ℕ → List ℕ → List ℕ → List ℕ → List ℕ → Option Part → Layout
own_layout at a b c d e f g last = record {
  version = place at a;
  serial = place (at + length a) b;
  algorithm = place (at + length a + length b) c;
  issuer = place (at + length a + length b + length c) d;
  validity = place (at + length a + length b + length c + length d) e;
  subject = place (at + length a + length b + length c + length d + length e) f;
  key = place (at + length a + length b + length c + length d + length e + length f) g;
  extensions = last;
}

-- the place after seven parts
abbrev behind : ℕ → List ℕ → List ℕ → List ℕ → List ℕ → List ℕ → List ℕ → List ℕ → ℕ
behind at a b c d e f g = at + length a + length b + length c + length d + length e + length f + length g

none_or_one-is : (at : ℕ) (parts : List (List ℕ)) (last : Option Part) → tbs.none_or_one (placed at parts) ≡ Some last → parts ≡ last_of last
none_or_one-is at [] last e = (let same : None ≡ last = cc in ap last_of same)
none_or_one-is at (part ∷ []) last e = (let same : Some (place at part) ≡ last = cc in ap last_of same)
none_or_one-is at (part ∷ (other ∷ parts)) last e = absurd (cc)

pub record LayoutSound (parts : List (List ℕ)) (l : Layout) : Type 0 where
  pub issuer_unique_id : List (List ℕ)
  pub subject_unique_id : List (List ℕ)
  pub are : parts ≡ l.version.bytes ∷ l.serial.bytes ∷ l.algorithm.bytes ∷ l.issuer.bytes ∷ l.validity.bytes ∷ l.subject.bytes ∷ l.key.bytes ∷ (issuer_unique_id ++ (subject_unique_id ++ last_of l.extensions))
  pub issuer_id : IsOptional (HasTag 0x81) issuer_unique_id
  pub subject_id : IsOptional (HasTag 0x82) subject_unique_id
  pub last : AllByRecursion IsRead (last_of l.extensions)

pub layout-sound : (at : ℕ) (parts : List (List ℕ)) (l : Layout) → AllByRecursion IsRead parts → layout (placed at parts) ≡ Some l → LayoutSound parts l
layout-sound at [] l each same = absurd (cc)
layout-sound at (a ∷ []) l each same = absurd (cc)
layout-sound at (a ∷ (b ∷ [])) l each same = absurd (cc)
layout-sound at (a ∷ (b ∷ (c ∷ []))) l each same = absurd (cc)
layout-sound at (a ∷ (b ∷ (c ∷ (d ∷ [])))) l each same = absurd (cc)
layout-sound at (a ∷ (b ∷ (c ∷ (d ∷ (e ∷ []))))) l each same = absurd (cc)
layout-sound at (a ∷ (b ∷ (c ∷ (d ∷ (e ∷ (f ∷ [])))))) l each same = absurd (cc)
layout-sound at (a ∷ (b ∷ (c ∷ (d ∷ (e ∷ (f ∷ (g ∷ rest))))))) l each same =
    let make : Option Part → Layout = own_layout at a b c d e f g in
    let one_id = optional-sound 0x81 (behind at a b c d e f g) rest each.1.1.1.1.1.1.1 in
    let two_id = optional-sound 0x82 one_id.next one_id.rest one_id.each in
    let left : tbs.after_unique_identifiers (placed (behind at a b c d e f g) rest) ≡ placed two_id.next two_id.rest = ap (after_optional 0x82) one_id.left ∙ two_id.left in
    let found = chosen (tbs.none_or_one (tbs.after_unique_identifiers (placed (behind at a b c d e f g) rest))) (λ (last : Option Part). Some (make last)) l same in
    let last : two_id.rest ≡ last_of found.value = none_or_one-is two_id.next two_id.rest found.value (ap tbs.none_or_one (sym left) ∙ found.before) in
    let own : make found.value ≡ l = (let s : Some (make found.value) ≡ Some l = found.after in cc) in
    let others : rest ≡ one_id.optional ++ (two_id.optional ++ last_of found.value) =
    one_id.are ∙ ap (λ (x : List (List ℕ)). one_id.optional ++ x) two_id.are ∙ ap (λ (x : List (List ℕ)). one_id.optional ++ (two_id.optional ++ x)) last in
    let whole : LayoutSound (a ∷ b ∷ c ∷ d ∷ e ∷ f ∷ g ∷ rest) (make found.value) = record {
      issuer_unique_id = one_id.optional;
      subject_unique_id = two_id.optional;
      are = ap (λ (x : List (List ℕ)). a ∷ b ∷ c ∷ d ∷ e ∷ f ∷ g ∷ x) others;
      issuer_id = one_id.tagged;
      subject_id = two_id.tagged;
      last = subst (AllByRecursion IsRead) last two_id.each;
    } in
    subst (LayoutSound (a ∷ b ∷ c ∷ d ∷ e ∷ f ∷ g ∷ rest)) own whole

abbrev Values : Type 0
Values = (Part × Part) × ((Unit {0} × Unit {0}) × ((ℤ × ℤ) × (Point × Option Bool)))

abbrev tbs_with : Values → Result Tbs CertFault
tbs_with x = Ok (tbs.tbs_of x.0 x.1.1.0 x.1.1.1.0 x.1.1.1.1)

has-sound : (tag : ℕ) (p q : Part) → IsRead p.bytes → tagged tag p ≡ Ok q → HasTag tag p.bytes × (p.bytes ≡ q.bytes)
has-sound tag p q read e =
    let t = tag-sound tag p q read.is e in
    (record { body = body_of p.bytes; is = t.is }, ap (λ (r : Part). r.bytes) t.same)

pub tbs-sound : (p : Part) (t : Tbs) → IsRead p.bytes → tbs.to_be_signed p ≡ Ok t → IsTbsCertificate p.bytes t
tbs-sound p t read e =
    let a = stepped (of_shape layout 0x30 p) tbs.contents t e in
    let l : Layout = a.value in
    let m = shape-sound layout 0x30 p l read a.before in
    let w = layout-sound m.at m.parts l m.each m.is in
    let each = subst (AllByRecursion IsRead) w.are m.each in
    let c = stepped (both (tbs.names l) (both (tbs.heading l) (tbs.values l))) tbs_with t a.after in
    let d = both-ok (tbs.names l) (both (tbs.heading l) (tbs.values l)) c.value c.before in
    let n = both-ok (tagged 0x30 l.issuer) (tagged 0x30 l.subject) c.value.0 d.first in
    let h = both-ok (tbs.heading l) (tbs.values l) c.value.1 d.second in
    let k = both-ok (tbs.numbering l) (tbs.algorithm l.algorithm) c.value.1.0 h.first in
    let q = stepped (both (tbs.version l.version) (tagged 0x02 l.serial)) (λ (checked : Unit {0} × Part). Ok tt) c.value.1.0.0 k.first in
    let r = both-ok (tbs.version l.version) (tagged 0x02 l.serial) q.value q.before in
    let v = both-ok (tbs.validity l.validity) (both (tbs.public_key l.key) (tbs.extensions l.extensions)) c.value.1.1 h.second in
    let u = both-ok (tbs.public_key l.key) (tbs.extensions l.extensions) c.value.1.1.1 v.second in
    let rest : List (List ℕ) = w.issuer_unique_id ++ (w.subject_unique_id ++ last_of l.extensions) in
    let issuer = has-sound 0x30 l.issuer c.value.0.0 each.1.1.1.0 n.first in
    let subject = has-sound 0x30 l.subject c.value.0.1 each.1.1.1.1.1.0 n.second in
    let serial = has-sound 0x02 l.serial q.value.1 each.1.0 r.second in
    let front : List ℕ → List ℕ → List (List ℕ) → List (List ℕ) = λ i s others. l.version.bytes ∷ l.serial.bytes ∷ l.algorithm.bytes ∷ i ∷ l.validity.bytes ∷ s ∷ l.key.bytes ∷ others in
    let are : m.parts ≡ front c.value.0.0.bytes c.value.0.1.bytes rest =
    w.are
    ∙ ap (λ (i : List ℕ). front i l.subject.bytes rest) issuer.1
    ∙ ap (λ (s : List ℕ). front c.value.0.0.bytes s rest) subject.1 in
    let own : IsTbsCertificate p.bytes (tbs.tbs_of c.value.0 c.value.1.1.0 c.value.1.1.1.0 c.value.1.1.1.1) = record {
      version = l.version.bytes;
      serial_number = l.serial.bytes;
      signature = l.algorithm.bytes;
      validity = l.validity.bytes;
      subject_public_key_info = l.key.bytes;
      issuer_unique_id = w.issuer_unique_id;
      subject_unique_id = w.subject_unique_id;
      extensions = last_of l.extensions;
      whole = subst (λ (parts : List (List ℕ)). IsMadeOf 0x30 parts p.bytes) are m.whole;
      version_3 = version-sound l.version each.0 r.first;
      integer = serial.0;
      algorithm = algorithm-sound l.algorithm each.1.1.0 k.second;
      issuer_name = subst (HasTag 0x30) issuer.1 issuer.0;
      times = validity-sound l.validity c.value.1.1.0 each.1.1.1.1.0 v.first;
      subject_name = subst (HasTag 0x30) subject.1 subject.0;
      public_key = key-sound l.key c.value.1.1.1.0 each.1.1.1.1.1.1.0 u.first;
      issuer_id = w.issuer_id;
      subject_id = w.subject_id;
      purposes = may-sound l.extensions c.value.1.1.1.1 w.last u.second;
    } in
    let same : tbs.tbs_of c.value.0 c.value.1.1.0 c.value.1.1.1.0 c.value.1.1.1.1 ≡ t = ok-same (tbs.tbs_of c.value.0 c.value.1.1.0 c.value.1.1.1.0 c.value.1.1.1.1) t c.after in
    subst (IsTbsCertificate p.bytes) same own

-- ---- it is read

tag-complete : (tag at : ℕ) (bytes : List ℕ) → HasTag tag bytes → (tag == tag) ≡ true → tagged tag (place at bytes) ≡ Ok (place at bytes)
tag-complete tag at bytes has same = rw (tag-of bytes tag has.body has.is) (rw same refl)

contents-is : (l : Layout) (issuer subject serial : Part) (times : ℤ × ℤ) (key : Point) (said : Option Bool) →
    tagged 0x30 l.issuer ≡ Ok issuer → tagged 0x30 l.subject ≡ Ok subject → tbs.version l.version ≡ Ok tt → tagged 0x02 l.serial ≡ Ok serial →
    tbs.algorithm l.algorithm ≡ Ok tt → tbs.validity l.validity ≡ Ok times → tbs.public_key l.key ≡ Ok key →
    tbs.extensions l.extensions ≡ Ok said → tbs.contents l ≡ Ok (tbs.tbs_of (issuer, subject) times key said)
contents-is l issuer subject serial times key said i s v n a t k x =
    let names : tbs.names l ≡ Ok (issuer, subject) = rw (i, s) refl in
    let numbering : tbs.numbering l ≡ Ok tt = rw (v, n) refl in
    let heading : tbs.heading l ≡ Ok (tt, tt) = rw (numbering, a) refl in
    let values : tbs.values l ≡ Ok (times, (key, said)) = rw (t, k, x) refl in
    rw (names, heading, values) refl

pub tbs-complete : (at : ℕ) (bytes : List ℕ) (t : Tbs) → IsTbsCertificate bytes t → tbs.to_be_signed (place at bytes) ≡ Ok t
tbs-complete at bytes t is =
    let rest = is.issuer_unique_id ++ (is.subject_unique_id ++ is.extensions) in
    let parts = is.version ∷ is.serial_number ∷ is.signature ∷ t.issuer ∷ is.validity ∷ t.subject ∷ is.subject_public_key_info ∷ rest in
    let first = after_head at 0x30 (concatenated parts) in
    let after = unique-left (behind first is.version is.serial_number is.signature t.issuer is.validity t.subject is.subject_public_key_info) is.issuer_unique_id is.subject_unique_id is.extensions is.issuer_id is.subject_id (may-tagged is.extensions t.signs_documents is.purposes) in
    let x = may-complete after.0 is.extensions t.signs_documents is.purposes in
    let make : Option Part → Layout = own_layout first is.version is.serial_number is.signature t.issuer is.validity t.subject is.subject_public_key_info in
    let l = make (last_at after.0 is.extensions) in
    let laid : layout (placed first parts) ≡ Some l = ap (λ (o : Option (Option Part)). o >>? λ (last : Option Part). Some (make last)) (ap tbs.none_or_one after.1 ∙ x.last) in
    let c = contents-is l l.issuer l.subject l.serial (t.not_before, t.not_after) t.key x.said
    (tag-complete 0x30 l.issuer.at t.issuer is.issuer_name refl)
    (tag-complete 0x30 l.subject.at t.subject is.subject_name refl)
    (version-complete l.version.at is.version is.version_3)
    (tag-complete 0x02 l.serial.at is.serial_number is.integer refl)
    (algorithm-complete l.algorithm.at is.signature is.algorithm)
    (validity-complete l.validity.at is.validity t.not_before t.not_after is.times)
    (key-complete l.key.at is.subject_public_key_info t.key is.public_key)
    x.read in
    let with_purposes : Bool → Tbs = λ signs. record { issuer = t.issuer; subject = t.subject; not_before = t.not_before; not_after = t.not_after; key = t.key; signs_documents = signs } in
    ap (λ (r : Result Layout CertFault). r >>= tbs.contents) (shape-complete layout 0x30 at parts bytes is.whole ∙ ap (or_fault (fault Shape at)) laid)
    ∙ c ∙ ap (λ (signs : Bool). Ok (with_purposes signs)) x.is
