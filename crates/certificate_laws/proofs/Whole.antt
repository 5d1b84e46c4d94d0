-- A certificate, as it is read and as it is.
use Rattle.std.proofs.Common.{◌≡◌, ◌↔◌, ℕ, ◌+◌, refl, sym, ap, ◌∙◌, subst, List, [], ◌∷◌, length, Result, Ok, Err}
use Rattle.std.specs.List.{AllByRecursion}
use Rattle.mdoc_outside.specs.ResultSteps.{◌>>=◌}
use Rattle.der_view.specs.declared.der_fault.DerFault.{DerFault}
use Rattle.der_view.specs.Element as elements
use Rattle.der_view.specs.Element.{element}
use Rattle.der_view.specs.Parts.{Part, der}
use Rattle.der_view.proofs.Lengths.{AreBytes}
use Rattle.cert_view.specs.declared.cert_fault.CertFault.{CertFault}
use Rattle.cert_view.specs.Certificate as certificates
use Rattle.cert_view.specs.Certificate.{Fields, certificate, fields_in}
use Rattle.cert_view.specs.Faults.{both}
use Rattle.cert_view.specs.Shapes.{as_element, element_of, three, of_shape}
use Rattle.cert_view.specs.Tbs as tbs
use Rattle.cert_view.specs.Tbs.{Tbs}
use Rattle.cert_view.specs.Written.{concatenated}
use Rattle.cert_view.proofs.WrittenParts.{place, after_head, der-is}
use Rattle.certificate_laws.specs.IsCertificate.{IsCertificate}
use Rattle.certificate_laws.specs.MadeOf.{IsMadeOf}
use Rattle.certificate_laws.proofs.Counts.{three-is}
use Rattle.certificate_laws.proofs.Made.{IsRead, parts-each, der-sound, shape-sound, shape-complete}
use Rattle.certificate_laws.proofs.Parts.{algorithm-sound, algorithm-complete, signature-sound, signature-complete}
use Rattle.certificate_laws.proofs.Steps.{stepped, both-ok}
use Rattle.certificate_laws.proofs.Tbs.{tbs-sound, tbs-complete}

element-ok : (r : Result Part DerFault) (p : Part) → as_element r ≡ Ok p → r ≡ Ok p
element-ok (Ok q) p e = cc
element-ok (Err f) p e = absurd (cc)

abbrev fields_with : List ℕ → Tbs × (Unit {0} × List ℕ) → Result Fields CertFault
fields_with message y = Ok (record { tbs = y.0; message = message; signature = y.1.1 })

fields-sound : (bytes : List ℕ) (x : Part × Part × Part) (fields : Fields) → IsMadeOf 0x30 (x.0.bytes ∷ x.1.bytes ∷ x.2.bytes ∷ []) bytes → AllByRecursion IsRead (x.0.bytes ∷ x.1.bytes ∷ x.2.bytes ∷ []) → fields_in x ≡ Ok fields → IsCertificate bytes fields
fields-sound bytes x fields whole each e =
    let others = both (tbs.algorithm x.1) (certificates.signature x.2) in
    let a = stepped (both (tbs.to_be_signed x.0) others) (fields_with x.0.bytes) fields e in
    let b = both-ok (tbs.to_be_signed x.0) others a.value a.before in
    let c = both-ok (tbs.algorithm x.1) (certificates.signature x.2) a.value.1 b.second in
    let own : IsCertificate bytes (record { tbs = a.value.0; message = x.0.bytes; signature = a.value.1.1 }) = record {
      signature_algorithm = x.1.bytes;
      signature_value = x.2.bytes;
      whole = whole;
      tbs_certificate = tbs-sound x.0 a.value.0 each.0 b.first;
      algorithm = algorithm-sound x.1 each.1.0 c.first;
      signature = signature-sound x.2 a.value.1.1 each.1.1.0 c.second;
    } in
    let same : record { tbs = a.value.0; message = x.0.bytes; signature = a.value.1.1 } ≡ fields = (let s : fields_with x.0.bytes a.value ≡ Ok fields = a.after in cc) in
    subst (IsCertificate bytes) same own

pub certificate-sound : (bytes : List ℕ) (fields : Fields) → AreBytes bytes → certificate bytes ≡ Ok fields → IsCertificate bytes fields
unfolding certificate
certificate-sound bytes fields are e =
    let a = stepped (element_of bytes) (λ (p : Part). of_shape three 0x30 p >>= fields_in) fields e in
    let d = der-sound bytes a.value are (element-ok (der bytes) a.value a.before) in
    let own : a.value.bytes ≡ bytes = ap (λ (q : Part). q.bytes) d.same in
    let read : IsRead a.value.bytes = subst IsRead (sym own) (record { is = d.is; are = are }) in
    let b = stepped (of_shape three 0x30 a.value) fields_in fields a.after in
    let m = shape-sound three 0x30 a.value b.value read b.before in
    let w = three-is m.at m.parts b.value m.is in
    let whole = subst (λ (parts : List (List ℕ)). IsMadeOf 0x30 parts a.value.bytes) w m.whole in
    fields-sound bytes b.value fields (subst (IsMadeOf 0x30 (b.value.0.bytes ∷ b.value.1.bytes ∷ b.value.2.bytes ∷ [])) own whole) (subst (AllByRecursion IsRead) w m.each) b.after

pub certificate-complete : (bytes : List ℕ) (fields : Fields) → AreBytes bytes → IsCertificate bytes fields → certificate bytes ≡ Ok fields
unfolding certificate
certificate-complete bytes fields are is =
    let parts = fields.message ∷ is.signature_algorithm ∷ is.signature_value ∷ [] in
    let first = after_head 0 0x30 (concatenated parts) in
    let whole : der bytes ≡ Ok (place 0 bytes) = ap der is.whole.is.spelled ∙ der-is 0x30 (concatenated parts) is.whole.is.is_tag ∙ ap (λ (x : List ℕ). Ok (place 0 x)) (sym is.whole.is.spelled) in
    let message = tbs-complete first fields.message fields.tbs is.tbs_certificate in
    let algorithm = algorithm-complete (first + length fields.message) is.signature_algorithm is.algorithm in
    let each = parts-each 0x30 parts bytes is.whole are in
    let signature = signature-complete (first + length fields.message + length is.signature_algorithm) is.signature_value fields.signature each.1.1.0.are is.signature in
    let read : fields_in (place first fields.message, place (first + length fields.message) is.signature_algorithm, place (first + length fields.message + length is.signature_algorithm) is.signature_value) ≡ Ok fields = rw (message, algorithm, signature) refl in
    ap (λ (r : Result Part DerFault). as_element r >>= λ (p : Part). of_shape three 0x30 p >>= fields_in) whole
    ∙ ap (λ (r : Result (Part × Part × Part) CertFault). r >>= fields_in) (shape-complete three 0x30 0 parts bytes is.whole)
    ∙ read

pub certificate-is : (bytes : List ℕ) (fields : Fields) → elements.AreBytes bytes → (certificate bytes ≡ Ok fields) ↔ IsCertificate bytes fields
certificate-is bytes fields are = (certificate-sound bytes fields (record { each = are }), certificate-complete bytes fields (record { each = are }))
