-- A certificate that is written is read as its draft and its signature.
use Rattle.std.proofs.Common.{◌≡◌, ℕ, ◌+◌, refl, ap, ◌∙◌, Bool, true, false, ℤ, List, [], ◌∷◌, ◌++◌, length, take, drop, Option, Some, None, Result, Ok}
use Rattle.std.specs.Int.{w64, to_be_bytes}
use Rattle.std.specs.Prelude.{unwrap_or}
use Rattle.mdoc_outside.specs.ResultSteps.{or_fault}
use Rattle.der_view.specs.declared.der_fault.DerFault.{DerFault}
use Rattle.der_view.specs.Element.{element}
use Rattle.der_view.specs.Parts.{Part}
use Rattle.key_device.specs.declared.point.Point.{Point}
use Rattle.cert_view.specs.declared.cert_draft.CertDraft.{CertDraft}
use Rattle.cert_view.specs.Certificate as certificates
use Rattle.cert_view.specs.Certificate.{certificate}
use Rattle.cert_view.specs.declared.cert_check.CertCheck.TheVariants.{Shape}
use Rattle.cert_view.specs.Faults.{fault}
use Rattle.cert_view.specs.Shapes.{as_element, element_of, three, of_shape}
use Rattle.cert_view.specs.Tbs as tbs
use Rattle.cert_view.specs.Written.{IsTime, concatenated, sequence, identifier, common_name, without_zeros, sign, integer, version, algorithm, name, time, validity, key_kind, public_key, signer_usage, extensions, signature, to_be_signed, written}
use Rattle.cert_view.specs.WrittenReads.{IsDraft, fields_of, IsReadAsWritten}
use Rattle.cert_view.proofs.WrittenFields.{sequence-tag, integer-tag, integer-elem, bits-tag, version-tag, extensions-tag, version-read, algorithm-read, extensions-last, extensions-read, validity-read, public_key-read, signature-read}
use Rattle.cert_view.proofs.WrittenParts.{place, der-is, tagged-is, IsElem, elem, AreElems, placed, after_head, of_shape-is}

-- ---- the parts are elements

version-elem : IsElem version
version-elem = elem 0xa0 (element 0x02 (2 ∷ [])) version-tag

sequence-elem : (parts : List (List ℕ)) → IsElem (sequence parts)
sequence-elem parts = elem 0x30 (concatenated parts) sequence-tag

name_parts : List ℕ → List (List ℕ)
name_parts text = element 0x31 (sequence (identifier common_name ∷ element 0x0c text ∷ [])) ∷ []

name-elem : (text : List ℕ) → IsElem (name text)
unfolding name_parts
name-elem text = sequence-elem (name_parts text)

public_key-elem : (key : Point) → IsElem (public_key key)
public_key-elem key = sequence-elem (key_kind ∷ element 0x03 (0x00 ∷ (0x04 ∷ (key.x ++ key.y))) ∷ [])

validity-elem : (from until : ℤ) → IsElem (validity from until)
validity-elem from until = sequence-elem (time from ∷ time until ∷ [])

algorithm-elem : IsElem algorithm
algorithm-elem = sequence-elem (identifier tbs.ecdsa_with_sha256 ∷ [])

extensions-elem : IsElem (extensions true)
extensions-elem = elem 0xa3 (sequence (signer_usage ∷ [])) extensions-tag

-- ---- the to-be-signed part

contents-read : (l : tbs.Layout) (i s : Part) (times : ℤ × ℤ) (key : Point) (purposes : Option Bool) →
    tbs.names l ≡ Ok (i, s) → tbs.heading l ≡ Ok (tt, tt) → tbs.values l ≡ Ok (times, (key, purposes)) →
    tbs.contents l ≡ Ok (tbs.tbs_of (i, s) times key purposes)
contents-read l i s times key purposes n h v = rw (n, h, v) refl

names-read : (a b : ℕ) (issuer subject : List ℕ) (l : tbs.Layout) → l.issuer ≡ place a (name issuer) → l.subject ≡ place b (name subject) → tbs.names l ≡ Ok (place a (name issuer), place b (name subject))
unfolding name_parts
names-read a b issuer subject l i s =
    rw (i, s)
    (rw (tagged-is a 0x30 (concatenated (name_parts issuer)) sequence-tag, tagged-is b 0x30 (concatenated (name_parts subject)) sequence-tag) refl)

heading-read : (a b c : ℕ) (bytes : List ℕ) (l : tbs.Layout) → l.version ≡ place a version → l.serial ≡ place b (integer bytes) → l.algorithm ≡ place c algorithm → tbs.heading l ≡ Ok (tt, tt)
heading-read a b c bytes l v s g =
    rw (v, s, g)
    (rw (version-read a, tagged-is b 0x02 (sign (without_zeros bytes) ++ without_zeros bytes) integer-tag, algorithm-read c) refl)

values-read : (a b : ℕ) (from until : ℤ) (key : Point) (purposes : Option Bool) (l : tbs.Layout) → IsTime from → IsTime until → length key.x ≡ 32 → length key.y ≡ 32 →
    l.validity ≡ place a (validity from until) → l.key ≡ place b (public_key key) → tbs.extensions l.extensions ≡ Ok purposes →
    tbs.values l ≡ Ok ((from, until), (key, purposes))
values-read a b from until key purposes l begins ends x y t k e =
    rw (t, k, e) (rw (validity-read a from until begins ends, public_key-read b key x y) refl)

signed-by : (p : Part) (l : tbs.Layout) (fields : tbs.Tbs) → of_shape tbs.layout 0x30 p ≡ Ok l → tbs.contents l ≡ Ok fields → tbs.to_be_signed p ≡ Ok fields
signed-by p l fields a b = rw a b

-- the seven parts one after another, and the extensions
abbrev layout_at : ℕ → (v s g i t u k : List ℕ) → Option Part → tbs.Layout
layout_at at v s g i t u k last = record {
  version = place at v;
  serial = place (at + length v) s;
  algorithm = place (at + length v + length s) g;
  issuer = place (at + length v + length s + length g) i;
  validity = place (at + length v + length s + length g + length i) t;
  subject = place (at + length v + length s + length g + length i + length t) u;
  key = place (at + length v + length s + length g + length i + length t + length u) k;
  extensions = last;
}

-- the place after them
abbrev behind : ℕ → (v s g i t u k : List ℕ) → ℕ
behind at v s g i t u k = at + length v + length s + length g + length i + length t + length u + length k

layout-is : (at : ℕ) (v s g i t u k : List ℕ) (others : List (List ℕ)) (last : Option Part) → tbs.none_or_one (tbs.after_unique_identifiers (placed (behind at v s g i t u k) others)) ≡ Some last →
    tbs.layout (placed at (v ∷ s ∷ g ∷ i ∷ t ∷ u ∷ k ∷ others)) ≡ Some (layout_at at v s g i t u k last)
layout-is at v s g i t u k others last e = rw e refl

abbrev tbs_of : List ℕ → List ℕ → ℤ → ℤ → Point → Bool → tbs.Tbs
tbs_of issuer subject from until key signer = record {
  issuer = name issuer;
  subject = name subject;
  not_before = from;
  not_after = until;
  key = key;
  signs_documents = signer;
}

abbrev seven : (serial issuer subject : List ℕ) (from until : ℤ) → Point → List (List ℕ) → List (List ℕ)
seven serial issuer subject from until key others =
    version ∷ integer serial ∷ algorithm ∷ name issuer ∷ validity from until ∷ name subject ∷ public_key key ∷ others

seven-read : (at : ℕ) (serial issuer subject : List ℕ) (from until : ℤ) (key : Point) (others : List (List ℕ)) (last : ℕ → Option Part) (purposes : Option Bool) →
    IsTime from → IsTime until → length key.x ≡ 32 → length key.y ≡ 32 → AreElems others →
    ((q : ℕ) → tbs.none_or_one (tbs.after_unique_identifiers (placed q others)) ≡ Some (last q)) → ((q : ℕ) → tbs.extensions (last q) ≡ Ok purposes) →
    tbs.to_be_signed (place at (sequence (seven serial issuer subject from until key others))) ≡ Ok (tbs_of issuer subject from until key (unwrap_or purposes false))
seven-read at serial issuer subject from until key others last purposes begins ends x y are alone e =
    let parts = seven serial issuer subject from until key others in
    let first : ℕ = after_head at 0x30 (concatenated parts) in
    let next : ℕ = behind first version (integer serial) algorithm (name issuer) (validity from until) (name subject) (public_key key) in
    let l : tbs.Layout = layout_at first version (integer serial) algorithm (name issuer) (validity from until) (name subject) (public_key key) (last next) in
    signed-by (place at (sequence parts)) l (tbs_of issuer subject from until key (unwrap_or purposes false))
    (of_shape-is tbs.layout at 0x30 parts sequence-tag (version-elem, (integer-elem serial, (algorithm-elem, (name-elem issuer, (validity-elem from until, (name-elem subject, (public_key-elem key, are)))))))
    ∙ ap (or_fault (fault Shape at)) (layout-is first version (integer serial) algorithm (name issuer) (validity from until) (name subject) (public_key key) others (last next) (alone next)))
    (contents-read l l.issuer l.subject (from, until) key purposes
    (names-read l.issuer.at l.subject.at issuer subject l refl refl)
    (heading-read first l.serial.at l.algorithm.at serial l refl refl refl)
    (values-read l.validity.at l.key.at from until key purposes l begins ends x y refl refl (e next)))

message-read : (at : ℕ) (draft : CertDraft) → IsDraft draft → tbs.to_be_signed (place at (to_be_signed draft)) ≡ Ok (tbs_of draft.issuer draft.subject draft.from draft.until draft.key draft.signer)
unfolding to_be_signed
message-read at draft is = go draft.signer where
  go : (signer : Bool) → tbs.to_be_signed (place at (sequence (seven (to_be_bytes w64 draft.serial) draft.issuer draft.subject draft.from draft.until draft.key (extensions signer ∷ [])))) ≡ Ok (tbs_of draft.issuer draft.subject draft.from draft.until draft.key signer)
  go true = seven-read at (to_be_bytes w64 draft.serial) draft.issuer draft.subject draft.from draft.until draft.key (extensions true ∷ []) (λ q. Some (place q (extensions true))) (Some true) is.from is.until is.x is.y (extensions-elem, tt) extensions-last extensions-read
  go false = seven-read at (to_be_bytes w64 draft.serial) draft.issuer draft.subject draft.from draft.until draft.key [] (λ q. None) None is.from is.until is.x is.y tt (λ q. refl) (λ q. refl)

-- ---- the whole

message-elem : (draft : CertDraft) → IsElem (to_be_signed draft)
unfolding to_be_signed
message-elem draft = sequence-elem (seven (to_be_bytes w64 draft.serial) draft.issuer draft.subject draft.from draft.until draft.key (extensions draft.signer ∷ []))

signature-elem : (pair : List ℕ) → IsElem (signature pair)
signature-elem pair = elem 0x03 (0x00 ∷ sequence (integer (take 32 pair) ∷ integer (drop 32 pair) ∷ [])) bits-tag

fields-by : (a b c : Part) (s : tbs.Tbs) (pair : List ℕ) → tbs.to_be_signed a ≡ Ok s → tbs.algorithm b ≡ Ok tt → certificates.signature c ≡ Ok pair →
    certificates.fields_in (a, b, c) ≡ Ok (record { tbs = s; message = a.bytes; signature = pair })
fields-by a b c s pair x y z = rw (x, y, z) refl

certificate-by : (bytes : List ℕ) (p : Part) (x : Part × Part × Part) (fields : certificates.Fields) → element_of bytes ≡ Ok p → of_shape three 0x30 p ≡ Ok x → certificates.fields_in x ≡ Ok fields → certificate bytes ≡ Ok fields
unfolding certificate
certificate-by bytes p x fields a b c = rw (a, b) c

pub read-as-written : IsReadAsWritten
unfolding written
read-as-written draft pair is sized =
    let parts : List (List ℕ) = to_be_signed draft ∷ algorithm ∷ signature pair ∷ [] in
    let first : ℕ = after_head 0 0x30 (concatenated parts) in
    let a : Part = place first (to_be_signed draft) in
    let b : Part = place (first + length (to_be_signed draft)) algorithm in
    let c : Part = place (first + length (to_be_signed draft) + length algorithm) (signature pair) in
    certificate-by (sequence parts) (place 0 (sequence parts)) (a, b, c) (fields_of draft pair)
    (ap as_element (der-is 0x30 (concatenated parts) sequence-tag))
    (of_shape-is three 0 0x30 parts sequence-tag (message-elem draft, (algorithm-elem, (signature-elem pair, tt))))
    (fields-by a b c _ pair (message-read first draft is) (algorithm-read _) (signature-read _ pair sized))
