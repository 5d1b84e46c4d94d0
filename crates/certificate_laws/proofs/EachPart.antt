-- Nothing is wrong with a part of a certificate exactly where it is what it has to be.
use Rattle.std.proofs.Common.{◌≡◌, ◌↔◌, ℕ, refl, sym, ◌∙◌, subst, Bool, true, false, ℤ, List, [], ◌∷◌, Option, Some, None, Result, Ok, Err}
use Rattle.der_view.specs.Element as elements
use Rattle.der_view.specs.Element.{element, IsElement}
use Rattle.der_view.specs.Parts.{Part}
use Rattle.key_device.specs.declared.point.Point.{Point}
use Rattle.cert_view.specs.declared.cert_fault.CertFault.{CertFault}
use Rattle.cert_view.specs.Certificate as certificates
use Rattle.cert_view.specs.Extensions as read
use Rattle.cert_view.specs.Tbs as tbs
use Rattle.cert_view.specs.Tbs.{Tbs}
use Rattle.certificate_laws.specs.Extensions.{Extension, is_key_usage, IsFormed}
use Rattle.certificate_laws.specs.Faults.{version_faults, algorithm_faults, validity_faults, key_faults, signature_faults, extension_faults, tbs_faults}
use Rattle.certificate_laws.specs.IsCertificate.{IsEcdsaWithSha256, IsValidity, IsPublicKeyInfo, IsTbsCertificate, IsSignatureValue}
use Rattle.certificate_laws.specs.MadeOf.{IsMadeOf}
use Rattle.certificate_laws.proofs.Faulty.{none-left, tbs-reports}
use Rattle.certificate_laws.proofs.Firsts.{In, Reports}
use Rattle.certificate_laws.proofs.Made.{IsRead, some-element}
use Rattle.certificate_laws.proofs.Parts.{version-sound, version-complete, algorithm-sound, algorithm-complete, validity-sound, validity-complete, key-sound, key-complete, signature-sound, signature-complete}
use Rattle.certificate_laws.proofs.Shapes.{version-reports, algorithm-reports, validity-reports, key-reports, signature-reports, extension-reports}
use Rattle.certificate_laws.proofs.Tbs.{tbs-sound, tbs-complete}
use Rattle.certificate_laws.proofs.Usages.{Says, ExtensionSound, extension-sound, extension-complete}

value-of : {A : Type 0} (r : Result A CertFault) (fs : List CertFault) → Reports r fs → fs ≡ [] → (x : A) × (r ≡ Ok x)
value-of (Ok x) fs t e = (x, refl)
value-of (Err f) fs t e = absurd (subst (In f) e t.among)

none-of : {A : Type 0} (r : Result A CertFault) (fs : List CertFault) (x : A) → Reports r fs → r ≡ Ok x → fs ≡ []
none-of (Ok y) fs x t e = none-left fs t
none-of (Err f) fs x t e = absurd (cc)

own : (p : Part) (tag : ℕ) (body : List ℕ) → elements.AreBytes p.bytes → IsElement p.bytes tag body → IsRead p.bytes
own p tag body are is = record { is = some-element p.bytes tag body is; are = record { each = are } }

pub version-is : (p : Part) (tag : ℕ) (body : List ℕ) → elements.AreBytes p.bytes → IsElement p.bytes tag body → (version_faults p ≡ []) ↔ IsMadeOf 0xa0 (element 0x02 (2 ∷ []) ∷ []) p.bytes
version-is p tag body are is =
    let t = version-reports p in (
      λ none. (let v = value-of (tbs.version p) (version_faults p) t none in version-sound p (own p tag body are is) v.1),
      λ whole. none-of (tbs.version p) (version_faults p) tt t (version-complete p.at p.bytes whole),
    )

pub algorithm-is : (p : Part) (tag : ℕ) (body : List ℕ) → elements.AreBytes p.bytes → IsElement p.bytes tag body → (algorithm_faults p ≡ []) ↔ IsEcdsaWithSha256 p.bytes
algorithm-is p tag body are is =
    let t = algorithm-reports p in (
      λ none. (let v = value-of (tbs.algorithm p) (algorithm_faults p) t none in algorithm-sound p (own p tag body are is) v.1),
      λ whole. none-of (tbs.algorithm p) (algorithm_faults p) tt t (algorithm-complete p.at p.bytes whole),
    )

pub validity-is : (p : Part) (tag : ℕ) (body : List ℕ) → elements.AreBytes p.bytes → IsElement p.bytes tag body → (validity_faults p ≡ []) ↔ ((times : ℤ × ℤ) × IsValidity p.bytes times.0 times.1)
validity-is p tag body are is =
    let t = validity-reports p in (
      λ none. (let v = value-of (tbs.validity p) (validity_faults p) t none in (v.0, validity-sound p v.0 (own p tag body are is) v.1)),
      λ some_times. none-of (tbs.validity p) (validity_faults p) some_times.0 t (validity-complete p.at p.bytes some_times.0.0 some_times.0.1 some_times.1),
    )

pub key-is : (p : Part) (tag : ℕ) (body : List ℕ) → elements.AreBytes p.bytes → IsElement p.bytes tag body → (key_faults p ≡ []) ↔ ((key : Point) × IsPublicKeyInfo p.bytes key)
key-is p tag body are is =
    let t = key-reports p in (
      λ none. (let v = value-of (tbs.public_key p) (key_faults p) t none in (v.0, key-sound p v.0 (own p tag body are is) v.1)),
      λ some_key. none-of (tbs.public_key p) (key_faults p) some_key.0 t (key-complete p.at p.bytes some_key.0 some_key.1),
    )

pub signature-is : (p : Part) (tag : ℕ) (body : List ℕ) → elements.AreBytes p.bytes → IsElement p.bytes tag body → (signature_faults p ≡ []) ↔ ((signature : List ℕ) × IsSignatureValue p.bytes signature)
signature-is p tag body are is =
    let t = signature-reports p in
    let r = own p tag body are is in (
      λ none. (let v = value-of (certificates.signature p) (signature_faults p) t none in (v.0, signature-sound p v.0 r v.1)),
      λ some_one. none-of (certificates.signature p) (signature_faults p) some_one.0 t (signature-complete p.at p.bytes some_one.0 r.are some_one.1),
    )

formed-of : (bytes : List ℕ) (now : Option Bool) → ExtensionSound bytes now → (extension : Extension) × IsFormed bytes extension
formed-of bytes None x = (x.extension, record { is = x.is; lists = λ usage. absurd (let no : true ≡ false = sym usage ∙ x.says in cc) })
formed-of bytes (Some said) x = (x.extension, record { is = x.is; lists = λ usage. (said, x.says.1) })

-- what an extension says
says-of : (bytes : List ℕ) (extension : Extension) → IsFormed bytes extension → (now : Option Bool) × Says extension now
says-of bytes extension formed = go (is_key_usage extension) refl where
  go : (b : Bool) → is_key_usage extension ≡ b → (now : Option Bool) × Says extension now
  go true usage = (let l = formed.lists usage in (Some l.0, (usage, l.1)))
  go false other = (None, other)

pub extension-is : (p : Part) (tag : ℕ) (body : List ℕ) → elements.AreBytes p.bytes → IsElement p.bytes tag body → (extension_faults p ≡ []) ↔ ((extension : Extension) × IsFormed p.bytes extension)
extension-is p tag body are is =
    let t = extension-reports p in (
      λ none. (let v = value-of (read.extension p) (extension_faults p) t none in formed-of p.bytes v.0 (extension-sound p v.0 (own p tag body are is) v.1)),
      λ some_one. (let s = says-of p.bytes some_one.0 some_one.1 in none-of (read.extension p) (extension_faults p) s.0 t (extension-complete p.at p.bytes some_one.0 s.0 some_one.1.is s.1)),
    )

pub tbs-is : (p : Part) (tag : ℕ) (body : List ℕ) → elements.AreBytes p.bytes → IsElement p.bytes tag body → (tbs_faults p ≡ []) ↔ ((fields : Tbs) × IsTbsCertificate p.bytes fields)
tbs-is p tag body are is =
    let r = own p tag body are is in
    let t = tbs-reports p r in (
      λ none. (let v = value-of (tbs.to_be_signed p) (tbs_faults p) t none in (v.0, tbs-sound p v.0 r v.1)),
      λ some_one. none-of (tbs.to_be_signed p) (tbs_faults p) some_one.0 t (tbs-complete p.at p.bytes some_one.0 some_one.1),
    )
