-- Extensions, as they are read and as they are.
use Rattle.std.proofs.Common.{◌≡◌, ℕ, zero, suc, ◌+◌, ◌<◌, ◌&&◌, ◌||◌, refl, sym, ap, ◌∙◌, subst, arith, inl, inr, Bool, true, false, cond, if◌then◌else◌, List, [], ◌∷◌, ◌++◌, map, filter, length, Contains, slice_index_or, Option, Some, None, Result, Ok, Err, bytes_eq, unwrap_or}
use Rattle.std.specs.Bool.{one_answer}
use Rattle.std.specs.List.{AllByRecursion, AllZip, list_all, list_any}
use Rattle.std.proofs.lemmas.Bool.{and_parts, and_from, or_cases, or_left, or_right}
use Rattle.std.proofs.lemmas.List.Elements.{Contains-append_right}
use Rattle.mdoc_outside.specs.ResultSteps.{◌>>=◌, or_fault}
use Rattle.mdoc_outside.specs.OptionSteps.{◌>>=◌ as ◌>>?◌}
use Rattle.der_view.specs.declared.der_fault.DerFault.{DerFault}
use Rattle.der_view.specs.Element.{element, IsTag, IsElement}
use Rattle.der_view.specs.Parts.{Part, parts_of}
use Rattle.der_view.specs.Reading.{body_of}
use Rattle.der_view.proofs.Lengths.{AreBytes}
use Rattle.cert_view.specs.declared.cert_check.CertCheck.TheVariants.{Extension as ExtensionCheck}
use Rattle.cert_view.specs.declared.cert_fault.CertFault.{CertFault}
use Rattle.cert_view.specs.Extensions as read
use Rattle.cert_view.specs.Extensions.{extended_key_usage, document_signer, is_identifier, is_document_signer, after_optional, said_once}
use Rattle.cert_view.specs.Faults.{fault, both, first_of}
use Rattle.cert_view.specs.Shapes.{has_tag, all_read, front, at_end}
use Rattle.cert_view.specs.Signatures.{inner_parts}
use Rattle.cert_view.specs.Written.{concatenated}
use Rattle.cert_view.proofs.WrittenParts.{place, placed, after_head, body-is, has-tag, tag-is, parts-in}
use Rattle.certificate_laws.specs.Extensions.{Extension, IsExtension, is_key_usage, Lists, AllowSigning}
use Rattle.certificate_laws.specs.MadeOf.{HasTag, IsMadeOf, IsOptional}
use Rattle.certificate_laws.proofs.Made.{IsRead, tag-of, with-tag, body-bytes, all-sound, parts-each, elems}
use Rattle.certificate_laws.proofs.Parts.{inner-sound, inner-complete}
use Rattle.certificate_laws.proofs.Steps.{stepped, chosen, or_fault-ok, if-ok, if-some, bytes-same, same-bytes}

-- ---- a list of purposes

abbrev is_signer : List ℕ → Bool
is_signer purpose = bytes_eq purpose document_signer

any-contains : (xs : List (List ℕ)) → list_any is_signer xs ≡ true → Contains xs document_signer
any-contains [] e = absurd (cc)
any-contains (x ∷ xs) e = elim (or_cases (is_signer x) (list_any is_signer xs) e) [
  | inl h ↦ (0, omega arith, bytes-same x document_signer h)
  | inr h ↦ Contains-append_right (x ∷ []) xs document_signer (any-contains xs h)
]

contains-at : (xs : List (List ℕ)) (k : ℕ) → k < length xs → slice_index_or xs k document_signer ≡ document_signer → list_any is_signer xs ≡ true
contains-at [] k l e = absurd (omega arith)
contains-at (x ∷ xs) zero l e = or_left (is_signer x) (list_any is_signer xs) (same-bytes x document_signer e)
contains-at (x ∷ xs) (suc k) l e = or_right (is_signer x) (list_any is_signer xs) (contains-at xs k (omega arith) e)

contains-any : (xs : List (List ℕ)) → Contains xs document_signer → list_any is_signer xs ≡ true
contains-any xs c = contains-at xs c.0 c.1 c.2

record Identifiers (at : ℕ) (parts : List (List ℕ)) : Type 0 where
  purposes : List (List ℕ)
  are : parts ≡ map (element 0x06) purposes
  signer : list_any is_document_signer (placed at parts) ≡ list_any is_signer purposes

identifiers-sound : (at : ℕ) (parts : List (List ℕ)) → AllByRecursion IsRead parts → list_all is_identifier (placed at parts) ≡ true → Identifiers at parts
identifiers-sound at [] each all = record { purposes = []; are = refl; signer = refl }
identifiers-sound at (part ∷ parts) each all =
    let c = and_parts (has_tag 0x06 (place at part)) (list_all is_identifier (placed (at + length part) parts)) all in
    let is = with-tag 0x06 part each.0.is c.0 in
    let others = identifiers-sound (at + length part) parts each.1 c.1 in
    record {
      purposes = body_of part ∷ others.purposes;
      are = ap (λ (x : List ℕ). x ∷ parts) is.spelled ∙ ap (λ (xs : List (List ℕ)). element 0x06 (body_of part) ∷ xs) others.are;
      signer = ap (λ (b : Bool). bytes_eq (body_of part) document_signer || b) others.signer;
    }

identifiers-read : (ps : List (Result Part DerFault)) → list_all is_identifier ps ≡ true → all_read ps ≡ Ok tt
identifiers-read [] all = refl
identifiers-read ((Ok p) ∷ ps) all = identifiers-read ps (and_parts (has_tag 0x06 p) (list_all is_identifier ps) all).1
identifiers-read ((Err f) ∷ ps) all = absurd (cc)

identifier-tag : IsTag 0x06
identifier-tag = (omega arith, omega arith)

identifiers-complete : (at : ℕ) (purposes : List (List ℕ)) → list_all is_identifier (placed at (map (element 0x06) purposes)) ≡ true
identifiers-complete at [] = refl
identifiers-complete at (p ∷ ps) = and_from (has_tag 0x06 (place at (element 0x06 p))) _ (has-tag at 0x06 p identifier-tag) (identifiers-complete (at + length (element 0x06 p)) ps)

signer-complete : (at : ℕ) (purposes : List (List ℕ)) → list_any is_document_signer (placed at (map (element 0x06) purposes)) ≡ list_any is_signer purposes
signer-complete at [] = refl
signer-complete at (p ∷ ps) =
    ap (λ (x : List ℕ). bytes_eq x document_signer || list_any is_document_signer (placed (at + length (element 0x06 p)) (map (element 0x06) ps))) (body-is 0x06 p identifier-tag)
    ∙ ap (λ (b : Bool). is_signer p || b) (signer-complete (at + length (element 0x06 p)) ps)

abbrev if_identifiers : List (Result Part DerFault) → Option Bool
if_identifiers ids = if list_all is_identifier ids then Some (list_any is_document_signer ids) else None

purposes-sound : (usage : Extension) (said : Bool) → AreBytes usage.value → read.purposes usage.value ≡ Some said → Lists usage said
purposes-sound usage said are e =
    let a = chosen (inner_parts 0x30 usage.value) if_identifiers said e in
    let c = if-some (list_all is_identifier a.value) (Some (list_any is_document_signer a.value)) said a.after in
    let m = inner-sound 0x30 usage.value a.value are a.before (identifiers-read a.value c.0) in
    let i = identifiers-sound m.at m.parts m.each (ap (list_all is_identifier) (sym m.is) ∙ c.0) in
    let own : list_any is_document_signer a.value ≡ said = (let s : Some (list_any is_document_signer a.value) ≡ Some said = c.1 in cc) in
    let same : said ≡ list_any is_signer i.purposes = sym own ∙ ap (list_any is_document_signer) m.is ∙ i.signer in
    record {
      purposes = i.purposes;
      is = subst (λ (parts : List (List ℕ)). IsMadeOf 0x30 parts usage.value) i.are m.whole;
      signer = (λ t. any-contains i.purposes (sym same ∙ t), λ c. same ∙ contains-any i.purposes c);
    }

purposes-complete : (usage : Extension) (said : Bool) → Lists usage said → read.purposes usage.value ≡ Some said
purposes-complete usage said is =
    let parts = map (element 0x06) is.purposes in
    let at = after_head 0 0x30 (concatenated parts) in
    let same : list_any is_signer is.purposes ≡ said = one_answer (list_any is_signer is.purposes) said (any-contains is.purposes, contains-any is.purposes) is.signer in
    rw (inner-complete 0x30 parts usage.value is.is)
    (rw (identifiers-complete at is.purposes)
    (ap (λ (b : Bool). Some b) (signer-complete at is.purposes ∙ same)))

-- ---- an extension by itself

-- what it says: nothing, where it is no extended key usage
abbrev pub Says : Extension → Option Bool → Type 0
Says extension None = is_key_usage extension ≡ false
Says extension (Some said) = (is_key_usage extension ≡ true) × Lists extension said

abbrev if_named : Part × Part → Option (Part × Part)
if_named x = if has_tag 0x06 x.0 && has_tag 0x04 x.1 then Some x else None

abbrev with_value : Part → List (Result Part DerFault) → Option (Part × Part)
with_value a ps = front ps >>? λ (b : Part × List (Result Part DerFault)). at_end (a, b.0) b.1 >>? if_named

record Named (parts : List (List ℕ)) (x : Part × Part) : Type 0 where
  critical : List (List ℕ)
  are : parts ≡ element 0x06 (body_of x.0.bytes) ∷ (critical ++ element 0x04 (body_of x.1.bytes) ∷ [])
  boolean : IsOptional (HasTag 0x01) critical
  value : IsRead x.1.bytes
  octets : IsElement x.1.bytes 0x04 (body_of x.1.bytes)

-- an identifier, what may be between, and a value
named-of : (a c : ℕ) (name value : List ℕ) (critical : List (List ℕ)) (x : Part × Part) → IsRead name → IsRead value → IsOptional (HasTag 0x01) critical → if_named (place a name, place c value) ≡ Some x → Named (name ∷ (critical ++ value ∷ [])) x
named-of a c name value critical x read_name read_value boolean e =
    let pair : Part × Part = (place a name, place c value) in
    let i = if-some (has_tag 0x06 pair.0 && has_tag 0x04 pair.1) (Some pair) x e in
    let t = and_parts (has_tag 0x06 pair.0) (has_tag 0x04 pair.1) i.0 in
    let same : pair ≡ x = (let s : Some pair ≡ Some x = i.1 in cc) in
    let first = with-tag 0x06 name read_name.is t.0 in
    let last = with-tag 0x04 value read_value.is t.1 in
    let own : Named (name ∷ (critical ++ value ∷ [])) pair = record {
      critical = critical;
      are = ap (λ (b : List ℕ). b ∷ (critical ++ value ∷ [])) first.spelled ∙ ap (λ (b : List ℕ). element 0x06 (body_of name) ∷ (critical ++ b ∷ [])) last.spelled;
      boolean = boolean;
      value = read_value;
      octets = last;
    } in
    subst (Named (name ∷ (critical ++ value ∷ []))) same own

named-sound : (at : ℕ) (parts : List (List ℕ)) (x : Part × Part) → AllByRecursion IsRead parts → read.named_value (placed at parts) ≡ Some x → Named parts x
named-sound at [] x each e = absurd (cc)
named-sound at (name ∷ []) x each e = absurd (cc)
named-sound at (name ∷ (b ∷ rest)) x each e = go rest each.1.1 (has_tag 0x01 (place (at + length name) b)) refl e where
  go : (others : List (List ℕ)) → AllByRecursion IsRead others → (t : Bool) → has_tag 0x01 (place (at + length name) b) ≡ t →
      with_value (place at name) (if t then placed (at + length name + length b) others else Ok (place (at + length name) b) ∷ placed (at + length name + length b) others) ≡ Some x → Named (name ∷ (b ∷ others)) x
  go [] others true is same = absurd (cc)
  go (c ∷ []) others true is same =
      let boolean : HasTag 0x01 b = record { body = body_of b; is = with-tag 0x01 b each.1.0.is is } in
      named-of at (at + length name + length b) name c (b ∷ []) x each.0 others.0 boolean same
  go (c ∷ (d ∷ more)) others true is same = absurd (cc)
  go [] others false is same = named-of at (at + length name) name b [] x each.0 each.1.0 tt same
  go (c ∷ more) others false is same = absurd (cc)

pub record ExtensionSound (bytes : List ℕ) (now : Option Bool) : Type 0 where
  pub extension : Extension
  pub is : IsExtension bytes extension
  pub says : Says extension now

said-sound : (bytes : List ℕ) (x : Part × Part) (now : Option Bool) → IsExtension bytes (record { identifier = body_of x.0.bytes; value = body_of x.1.bytes }) → AreBytes (body_of x.1.bytes) → read.said_purposes x ≡ Some now → ExtensionSound bytes now
said-sound bytes x now is are e = go (bytes_eq (body_of x.0.bytes) extended_key_usage) refl e where
  own : Extension
  own = record { identifier = body_of x.0.bytes; value = body_of x.1.bytes }

  go : (b : Bool) → bytes_eq (body_of x.0.bytes) extended_key_usage ≡ b → (if b then (read.purposes (body_of x.1.bytes) >>? λ (said : Bool). Some (Some said)) else Some None) ≡ Some now → ExtensionSound bytes now
  go true usage same =
      let a = chosen (read.purposes (body_of x.1.bytes)) (λ (said : Bool). Some (Some said)) now same in
      let last : Some a.value ≡ now = (let s : Some (Some a.value) ≡ Some now = a.after in cc) in
      let lists = purposes-sound (record { identifier = body_of x.0.bytes; value = body_of x.1.bytes }) a.value are a.before in
      subst (ExtensionSound bytes) last (record { extension = record { identifier = body_of x.0.bytes; value = body_of x.1.bytes }; is = is; says = (usage, lists) })
  go false other same =
      let last : None ≡ now = (let s : Some None ≡ Some now = same in cc) in
      subst (ExtensionSound bytes) last (record { extension = record { identifier = body_of x.0.bytes; value = body_of x.1.bytes }; is = is; says = other })

pub extension-sound : (p : Part) (now : Option Bool) → IsRead p.bytes → read.extension p ≡ Ok now → ExtensionSound p.bytes now
extension-sound p now is_read e =
    let by_parts : Unit {0} → Result (Option Bool) CertFault = λ checked. or_fault (fault ExtensionCheck p.at) (read.said_by_parts (parts_of p)) in
    let c = if-ok (has_tag 0x30 p) (all_read (parts_of p) >>= by_parts) (fault ExtensionCheck p.at) now e in
    let a = stepped (all_read (parts_of p)) by_parts now c.1 in
    let m = all-sound 0x30 p is_read c.0 a.before in
    let each = parts-each 0x30 m.parts p.bytes m.whole is_read.are in
    let o = or_fault-ok (fault ExtensionCheck p.at) (read.said_by_parts (parts_of p)) now a.after in
    let b = chosen (read.named_value (parts_of p)) read.said_purposes now o in
    let n = named-sound _ m.parts b.value each (ap read.named_value (sym m.is) ∙ b.before) in
    let is : IsExtension p.bytes (record { identifier = body_of b.value.0.bytes; value = body_of b.value.1.bytes }) = record {
      critical = n.critical;
      whole = subst (λ (parts : List (List ℕ)). IsMadeOf 0x30 parts p.bytes) n.are m.whole;
      boolean = n.boolean;
    } in
    said-sound p.bytes b.value now is (body-bytes b.value.1.bytes 0x04 (body_of b.value.1.bytes) n.octets n.value.are) b.after

octets-tag : IsTag 0x04
octets-tag = (omega arith, omega arith)

named-complete : (at : ℕ) (critical : List (List ℕ)) (identifier value : List ℕ) → IsOptional (HasTag 0x01) critical →
    (c : ℕ) × (read.named_value (placed at (element 0x06 identifier ∷ (critical ++ element 0x04 value ∷ []))) ≡ Some (place at (element 0x06 identifier), place c (element 0x04 value)))
named-complete at [] identifier value boolean = (
  at + length (element 0x06 identifier),
  rw (tag-is 0x04 value octets-tag) (rw (tag-is 0x06 identifier identifier-tag) (rw (tag-is 0x04 value octets-tag) refl)),
)
named-complete at (b ∷ []) identifier value boolean = (
  at + length (element 0x06 identifier) + length b,
  rw (tag-of b 0x01 boolean.body boolean.is) (rw (tag-is 0x06 identifier identifier-tag) (rw (tag-is 0x04 value octets-tag) refl)),
)
named-complete at (b ∷ (c ∷ critical)) identifier value boolean = absurd boolean

read-row : (at : ℕ) (parts : List (List ℕ)) → all_read (placed at parts) ≡ Ok tt
read-row at [] = refl
read-row at (part ∷ parts) = read-row (at + length part) parts

said-complete : (a c : ℕ) (extension : Extension) (now : Option Bool) → Says extension now → read.said_purposes (place a (element 0x06 extension.identifier), place c (element 0x04 extension.value)) ≡ Some now
said-complete a c extension None other =
    rw (body-is 0x06 extension.identifier identifier-tag) (rw (body-is 0x04 extension.value octets-tag) (rw other refl))
said-complete a c extension (Some said) usage =
    rw (body-is 0x06 extension.identifier identifier-tag) (rw (body-is 0x04 extension.value octets-tag) (rw usage.0 (rw (purposes-complete extension said usage.1) refl)))

pub extension-complete : (at : ℕ) (bytes : List ℕ) (extension : Extension) (now : Option Bool) → IsExtension bytes extension → Says extension now → read.extension (place at bytes) ≡ Ok now
extension-complete at bytes extension now is says =
    let parts : List (List ℕ) = element 0x06 extension.identifier ∷ (is.critical ++ element 0x04 extension.value ∷ []) in
    let first = after_head at 0x30 (concatenated parts) in
    let n = named-complete first is.critical extension.identifier extension.value is.boolean in
    rw is.whole.is.spelled
    (rw (has-tag at 0x30 (concatenated parts) is.whole.is.is_tag)
    (rw (parts-in at 0x30 parts is.whole.is.is_tag (elems parts is.whole.each))
    (rw (read-row first parts)
    (rw n.1 (rw (said-complete first n.0 extension now says) refl)))))

-- ---- all extensions

-- what the extended key usages among the extensions say, after what was said before: at most one of them does
abbrev pub Follows : List Extension → Option Bool → Option Bool → Type 0
Follows [] before said = before ≡ said
Follows (usage ∷ []) None said = (b : Bool) × (said ≡ Some b) × Lists usage b
Follows (usage ∷ []) (Some b) said = ⊥
Follows (usage ∷ (other ∷ usages)) before said = ⊥

follows-first : (usage : Extension) (b : Bool) (usages : List Extension) (said : Option Bool) → Lists usage b → Follows usages (Some b) said → Follows (usage ∷ usages) None said
follows-first usage b [] said lists e = (b, sym e, lists)
follows-first usage b (other ∷ []) said lists e = absurd e
follows-first usage b (other ∷ (one ∷ usages)) said lists e = absurd e

-- a fault stays one
stuck : (f : CertFault) (r : Result (Option Bool) CertFault) (p : Part) → (g : CertFault) × ((both {A = Option Bool} (Err f) r >>= λ (x : Option Bool × Option Bool). said_once p x.0 x.1) ≡ Err g)
stuck f (Ok now) p = (f, refl)
stuck f (Err h) p = (first_of f h, refl)

err-stays : (parts : List (List ℕ)) (f : CertFault) (at : ℕ) (said : Option Bool) → read.with_extensions (Err f) (placed at parts) ≡ Ok said → ⊥
err-stays [] f at said e = absurd (cc)
err-stays (part ∷ parts) f at said e =
    let s = stuck f (read.extension (place at part)) (place at part) in
    err-stays parts s.0 (at + length part) said (ap (λ (r : Result (Option Bool) CertFault). read.with_extensions r (placed (at + length part) parts)) (sym s.1) ∙ e)

pub record ExtensionsSound (parts : List (List ℕ)) (before said : Option Bool) : Type 0 where
  pub extensions : List Extension
  pub each : AllZip IsExtension parts extensions
  pub usage : Follows (filter is_key_usage extensions) before said

-- one that is no extended key usage, before others
other-sound : (part : List ℕ) (parts : List (List ℕ)) (before said : Option Bool) (extension : Extension) → IsExtension part extension → is_key_usage extension ≡ false → ExtensionsSound parts before said → ExtensionsSound (part ∷ parts) before said
other-sound part parts before said extension is other others = record {
  extensions = extension ∷ others.extensions;
  each = (is, others.each);
  usage = rw other others.usage;
}

usage-sound : (part : List ℕ) (parts : List (List ℕ)) (b : Bool) (said : Option Bool) (extension : Extension) → IsExtension part extension → is_key_usage extension ≡ true → Lists extension b → ExtensionsSound parts (Some b) said → ExtensionsSound (part ∷ parts) None said
usage-sound part parts b said extension is usage lists others = record {
  extensions = extension ∷ others.extensions;
  each = (is, others.each);
  usage = rw usage (follows-first extension b (filter is_key_usage others.extensions) said lists others.usage);
}

abbrev more : Option Bool → Part → Result (Option Bool) CertFault → Result (Option Bool) CertFault
more before p r = both (Ok before) r >>= λ (x : Option Bool × Option Bool). said_once p x.0 x.1

-- one more before those that were read
one-more : (part : List ℕ) (parts : List (List ℕ)) (at : ℕ) (before said : Option Bool) → IsRead part → ((first : Option Bool) → read.with_extensions (Ok first) (placed (at + length part) parts) ≡ Ok said → ExtensionsSound parts first said) → read.with_extensions (Ok before) (placed at (part ∷ parts)) ≡ Ok said → ExtensionsSound (part ∷ parts) before said
one-more part parts at before said is_read others e = go before (read.extension (place at part)) refl e where
  go : (first : Option Bool) (r : Result (Option Bool) CertFault) → read.extension (place at part) ≡ r → read.with_extensions (more first (place at part) r) (placed (at + length part) parts) ≡ Ok said → ExtensionsSound (part ∷ parts) first said
  go first (Err f) is same = absurd (err-stays parts f (at + length part) said same)
  go None (Ok None) is same =
      let x = extension-sound (place at part) None is_read is in
      other-sound part parts None said x.extension x.is x.says (others None same)
  go None (Ok (Some b)) is same =
      let x = extension-sound (place at part) (Some b) is_read is in
      usage-sound part parts b said x.extension x.is x.says.0 x.says.1 (others (Some b) same)
  go (Some b) (Ok None) is same =
      let x = extension-sound (place at part) None is_read is in
      other-sound part parts (Some b) said x.extension x.is x.says (others (Some b) same)
  go (Some b) (Ok (Some c)) is same = absurd (err-stays parts (fault ExtensionCheck at) (at + length part) said same)

pub extensions-sound : (parts : List (List ℕ)) (at : ℕ) (before said : Option Bool) → AllByRecursion IsRead parts → read.with_extensions (Ok before) (placed at parts) ≡ Ok said → ExtensionsSound parts before said
extensions-sound [] at before said each e = record { extensions = []; each = tt; usage = (let same : before ≡ said = cc in same) }
extensions-sound (part ∷ parts) at before said each e = one-more part parts at before said each.0 (λ first. extensions-sound parts (at + length part) first said each.1) e

-- what was read before all of them is nothing
pub allows : (usages : List Extension) (said : Option Bool) → Follows usages None said → AllowSigning usages (unwrap_or said false)
allows [] said e = rw (sym e) refl
allows (usage ∷ []) said e = rw e.1 e.2
allows (usage ∷ (other ∷ usages)) said e = absurd e

-- ---- they are read

more-complete : (part : List ℕ) (parts : List (List ℕ)) (x : Extension) (usages : List Extension) (at : ℕ) (before said : Option Bool) → IsExtension part x →
    ((first : Option Bool) → Follows usages first said → read.with_extensions (Ok first) (placed (at + length part) parts) ≡ Ok said) →
    Follows (cond (is_key_usage x) (x ∷ usages) usages) before said → read.with_extensions (Ok before) (placed at (part ∷ parts)) ≡ Ok said
more-complete part parts x usages at before said is others e = go (is_key_usage x) refl before usages others e where
  step : Option Bool → Result (Option Bool) CertFault → Result (Option Bool) CertFault
  step first r = read.with_extensions (more first (place at part) r) (placed (at + length part) parts)

  go : (b : Bool) → is_key_usage x ≡ b → (first : Option Bool) (us : List Extension) → ((o : Option Bool) → Follows us o said → read.with_extensions (Ok o) (placed (at + length part) parts) ≡ Ok said) → Follows (cond b (x ∷ us) us) first said → read.with_extensions (Ok first) (placed at (part ∷ parts)) ≡ Ok said
  go false other None us rest same = ap (step None) (extension-complete at part x None is other) ∙ rest None same
  go false other (Some b) us rest same = ap (step (Some b)) (extension-complete at part x None is other) ∙ rest (Some b) same
  go true usage None [] rest same = ap (step None) (extension-complete at part x (Some same.0) is (usage, same.2)) ∙ rest (Some same.0) (sym same.1)
  go true usage (Some b) [] rest same = absurd same
  go true usage first (y ∷ us) rest same = absurd same

pub extensions-complete : (parts : List (List ℕ)) (extensions : List Extension) (at : ℕ) (before said : Option Bool) → AllZip IsExtension parts extensions → Follows (filter is_key_usage extensions) before said → read.with_extensions (Ok before) (placed at parts) ≡ Ok said
extensions-complete [] [] at before said each e = ap (λ (o : Option Bool). Ok o) e
extensions-complete [] (x ∷ xs) at before said each e = absurd each
extensions-complete (part ∷ parts) [] at before said each e = absurd each
extensions-complete (part ∷ parts) (x ∷ xs) at before said each e =
    more-complete part parts x (filter is_key_usage xs) at before said each.0 (λ first. extensions-complete parts xs (at + length part) first said each.1) e

pub record Allowed (usages : List Extension) (signs : Bool) : Type 0 where
  pub said : Option Bool
  pub follows : Follows usages None said
  pub is : unwrap_or said false ≡ signs

pub allowed : (usages : List Extension) (signs : Bool) → AllowSigning usages signs → Allowed usages signs
allowed [] signs e = record { said = None; follows = refl; is = sym e }
allowed (usage ∷ []) signs e = record { said = Some signs; follows = (signs, refl, e); is = refl }
allowed (usage ∷ (other ∷ usages)) signs e = absurd e
